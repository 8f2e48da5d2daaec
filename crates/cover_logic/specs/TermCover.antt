-- Irredundant covers.
use Rattle.std.specs.Prelude.{ℕ, ◌<◌, ◌≤◌, ◌^◌, List, All, EachIndex, remove}
use Rattle.cover_terms.specs.declared.term.Term.{Term}
use Rattle.cover_terms.specs.Term.{LooksAt, HoldsWithDash, IsCovered, FitsWidth}

-- no value is held by both lists
abbrev pub ShareNoValue : ℕ → List Term → List Term → Type 0
ShareNoValue width on off = (x : ℕ) → x < 2 ^ width → IsCovered on x → IsCovered off x → ⊥

-- what a cover is asked for: lists of terms of at most 128 columns, with no value in both
pub record CanCover (width : ℕ) (on off : List Term) : Type 0 where
  pub columns : width ≤ 128
  pub on_fits : All (FitsWidth width) on
  pub off_fits : All (FitsWidth width) off
  pub apart : ShareNoValue width on off

-- the rows are an irredundant cover of on, over the values of `width` bits; a value of neither list is free
pub record IsTermCover (width : ℕ) (rows on off : List Term) : Type 0 where
  -- every value of on is held by a row
  pub on_held : (x : ℕ) → x < 2 ^ width → IsCovered on x → IsCovered rows x
  -- no value of off is held by a row
  pub off_free : (x : ℕ) → x < 2 ^ width → IsCovered off x → IsCovered rows x → ⊥
  -- replacing any one literal by a dash makes its row hold a value of off
  pub literals_needed : All (λ row. (column : ℕ) → LooksAt row column →
      (x : ℕ) × (x < 2 ^ width) × IsCovered off x × HoldsWithDash row column x) rows
  -- leaving out any one row leaves a value of on unheld
  pub rows_needed : EachIndex rows (λ i.
      (x : ℕ) × (x < 2 ^ width) × IsCovered on x × (IsCovered (remove rows i) x → ⊥))
