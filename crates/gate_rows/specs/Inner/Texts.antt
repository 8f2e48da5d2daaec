-- The rows of a gate, as terms and as texts.
use Rattle.std.specs.Prelude.{ℕ, ◌<◌, ◌^◌, All, Bool, EachIndex, List, map, remove}
use Rattle.std.specs.List.{range_with_len}
use Rattle.cover_terms.specs.declared.term.Term.{Term}
use Rattle.cover_terms.specs.Term.{FitsWidth, HoldsWithDash, IsCovered, LooksAt}
use Rattle.cubes.specs.Field.{byte_of, character}
use Rattle.cubes.specs.Symbol.{lowest_bits}

-- the character of a term at a column
abbrev pub byte_at : Term → ℕ → ℕ
byte_at t c = byte_of (character t.care t.value c)

-- the text of a term of this number of columns
abbrev pub row_text : ℕ → Term → List ℕ
row_text width t = map (byte_at t) (range_with_len 0 width)

-- an irredundant cover, over the numbers whose bits are what is read, bit c the value of column c
pub record IsCoverByTerms (On Off : List Bool → Type 0) (width : ℕ) (rows : List Term) : Type 0 where
  pub fits : All (FitsWidth width) rows
  pub on_held : (v : ℕ) → v < 2 ^ width → On (lowest_bits width v) → IsCovered rows v
  pub off_free : (v : ℕ) → v < 2 ^ width → Off (lowest_bits width v) → IsCovered rows v → ⊥
  pub literals_needed : All (λ row. (column : ℕ) → LooksAt row column →
      (v : ℕ) × (v < 2 ^ width) × Off (lowest_bits width v) × HoldsWithDash row column v) rows
  pub rows_needed : EachIndex rows (λ i.
      (v : ℕ) × (v < 2 ^ width) × On (lowest_bits width v) × (IsCovered (remove rows i) v → ⊥))
