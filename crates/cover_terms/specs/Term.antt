-- Terms and the values that they hold (source: a cube over the columns of a gate).
use Rattle.std.specs.Prelude.{◌≡◌, ◌≢◌, ℕ, ◌<◌, ◌^◌, List, Contains}
use Rattle.std.specs.Int.{bit_at}
use Rattle.cover_terms.specs.declared.term.Term.{Term}

-- the term has a literal at the column, and no dash
abbrev pub LooksAt : Term → ℕ → Type 0
LooksAt t column = bit_at t.care column ≡ 1

-- the value, read by its bits, agrees with the term at each column that the term looks at
unfoldable pub Holds : Term → ℕ → Type 0
Holds t x = (column : ℕ) → LooksAt t column → bit_at x column ≡ bit_at t.value column

-- the term with a dash instead of its literal at one column holds the value
unfoldable pub HoldsWithDash : Term → ℕ → ℕ → Type 0
HoldsWithDash t dash x =
    (column : ℕ) → column ≢ dash → LooksAt t column → bit_at x column ≡ bit_at t.value column

-- some term of the list holds the value
abbrev pub IsCovered : List Term → ℕ → Type 0
IsCovered terms x = (t : Term) × Contains terms t × Holds t x

-- the term has no literal at or above the width; its value has bits at the columns of care alone, so none there either
abbrev pub FitsWidth : ℕ → Term → Type 0
FitsWidth width t = t.care < 2 ^ width
