-- Two terms, and the values that they hold.
use Rattle.std.specs.Prelude.{◌≡◌, ℕ, ◌↔◌, Bool, not, ◌==◌, ◌&&◌, bit_and, bit_xor}
use Rattle.std.specs.Int.{bit_at}
use Rattle.cover_terms.specs.declared.term.Term.{Term}
use Rattle.cover_terms.specs.Term.{LooksAt, Holds}

-- whether the two terms have the same bit at each column that both look at
abbrev pub agree : Term → Term → Bool
agree a b = bit_and (bit_and (bit_xor a.value b.value) a.care) b.care == 0

-- whether the second term looks wherever the first does, with the same bit
abbrev pub refines : Term → Term → Bool
refines wide narrow =
    bit_and wide.care narrow.care == wide.care && bit_and narrow.value wide.care == wide.value

-- the term has that literal at the column
abbrev pub HasLiteral : Term → ℕ → ℕ → Type 0
HasLiteral t column bit = LooksAt t column × (bit_at t.value column ≡ bit)

-- each literal of the first term is a literal of the second
pub record IsLooser (wide narrow : Term) : Type 0 where
  pub literals : (column : ℕ) → LooksAt wide column →
      LooksAt narrow column × (bit_at wide.value column ≡ bit_at narrow.value column)

-- some value is held by both terms
abbrev pub ShareValue : Term → Term → Type 0
ShareValue a b = (x : ℕ) × Holds a x × Holds b x

-- the first term holds each value of the second
abbrev pub Includes : Term → Term → Type 0
Includes wide narrow = (x : ℕ) → Holds narrow x → Holds wide x

-- the term holds the values that both terms hold
abbrev pub IsIntersection : Term → Term → Term → Type 0
IsIntersection a b both = (x : ℕ) → Holds both x ↔ (Holds a x × Holds b x)

-- the term holds the values of the first that have the given bit at the column
abbrev pub IsColumnHalf : Term → ℕ → ℕ → Term → Type 0
IsColumnHalf t column bit half = (x : ℕ) → Holds half x ↔ (Holds t x × (bit_at x column ≡ bit))

-- the literal 0 or 1, or the dash, that a term has at the column whose bit alone the number has
abbrev pub has_zero : ℕ → Term → Bool
has_zero column t = bit_and t.value column == 0 && not (bit_and t.care column == 0)

abbrev pub has_one : ℕ → Term → Bool
has_one column t = not (bit_and t.value column == 0)

abbrev pub has_dash : ℕ → Term → Bool
has_dash column t = bit_and t.value column == 0 && bit_and t.care column == 0
