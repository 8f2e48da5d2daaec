-- The rows of a gate, as an irredundant cover of what it gives (source: the covers of two-level minimisation).
use Rattle.std.specs.Prelude.{◌≡◌, ◌≢◌, ℕ, ◌<◌, ◌^◌, Bool, true, Contains, EachIndex, List, Some, length, remove, slice_get}
use Rattle.std.specs.List.{list_any}
use Rattle.cover_terms.specs.declared.term.Term.{Term}
use Rattle.cover_terms.specs.Term.{IsCovered}
use Rattle.net_core.specs.Step.{row_holds}
use Rattle.cubes.specs.Symbol.{lowest_bits}

-- some term holds the values of this number of columns: they are the bits of a number that the term holds, column c
-- the bit of value 2 ^ c
abbrev pub HoldValues : ℕ → List Term → List Bool → Type 0
HoldValues width terms read = (v : ℕ) × (v < 2 ^ width) × (lowest_bits width v ≡ read) × IsCovered terms v

-- some row holds the values
abbrev pub AreHeld : List (List ℕ) → List Bool → Type 0
AreHeld rows read = list_any (λ row. row_holds row read) rows ≡ true

-- the row with a dash at this place
pub record IsWithDash (row : List ℕ) (place : ℕ) (raised : List ℕ) : Type 0 where
  pub lengths : length raised ≡ length row
  pub dash : slice_get raised place ≡ Some 45
  pub elsewhere : (other : ℕ) → other ≢ place → slice_get raised other ≡ slice_get row other

-- Each on value is held, and no off value is. No literal can become a dash without an off value being held, and no
-- row can be left out without an on value being lost. Values of neither set are free.
pub record IsGoodCover (On Off : List Bool → Type 0) (rows : List (List ℕ)) : Type 0 where
  pub on_held : (read : List Bool) → On read → AreHeld rows read
  pub off_free : (read : List Bool) → Off read → AreHeld rows read → ⊥
  pub literals_needed : (row raised : List ℕ) (place : ℕ) → Contains rows row → place < length row → slice_get row place ≢ Some 45 → IsWithDash row place raised
      → (read : List Bool) × Off read × (row_holds raised read ≡ true)
  pub rows_needed : EachIndex rows (λ i. (read : List Bool) × On read × (AreHeld (remove rows i) read → ⊥))
