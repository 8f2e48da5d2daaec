-- A number for each value.
use Rattle.std.specs.Prelude.{◌≡◌, ◌≢◌, ℕ, ◌<◌, ◌^◌, ◌⊎◌, List, Option, MatchOption, length, slice_index_or}
use Rattle.cover_terms.specs.declared.term.Term.{Term}
use Rattle.cover_terms.specs.Term.{Holds}

-- each value of the row has the number, and any other value has the number that it had
pub record IsFilled (width : ℕ) (row : Term) (number : ℕ) (before after : List ℕ) : Type 0 where
  pub size : length after ≡ length before
  pub all : (x : ℕ) → x < 2 ^ width → Holds row x → slice_index_or after x 0 ≡ number
  pub rest : (x : ℕ) → x < 2 ^ width → (slice_index_or after x 0 ≡ slice_index_or before x 0) ⊎ Holds row x

-- a value of the row that has the number, or none where no value of the row has it
abbrev pub IsFound : ℕ → Term → ℕ → List ℕ → Option ℕ → Type 0
IsFound width row number chart found =
    MatchOption found ((x : ℕ) → x < 2 ^ width → Holds row x → slice_index_or chart x 0 ≡ number → ⊥)
    (λ x. (x < 2 ^ width) × Holds row x × (slice_index_or chart x 0 ≡ number))

-- a value with the mark 0 has the number 0, and any other value has the number that it had
pub record IsCleared (marks before after : List ℕ) : Type 0 where
  pub size : length after ≡ length before
  pub none : (x : ℕ) → x < length before → slice_index_or marks x 0 ≡ 0 → slice_index_or after x 0 ≡ 0
  pub same : (x : ℕ) → x < length before → slice_index_or marks x 0 ≢ 0 → slice_index_or after x 0 ≡ slice_index_or before x 0
