-- What rows of two states give at a symbol. A function gives the label of what a row gives, if it gives the part.
use Rattle.std.specs.Prelude.{ℕ, ◌≡◌, ◌≢◌, ◌<◌, ◌^◌, ◌⊎◌, Bool, false, true, Contains, IfSome, IsNone, List, Option, Some, length, slice_get, slice_index_or, IsSome, slice_index}
use Rattle.cubes.specs.Cube.{HoldsNumber}
use Rattle.cubes.specs.Symbol.{symbol_of}
use Rattle.kiss_file.specs.declared.file.KissFile.{KissFile}
use Rattle.kiss_file.specs.declared.file.KissRow.{KissRow}
use Rattle.kiss_file.specs.Machine.{IsRowAt}
use Rattle.state_rows.specs.Least.{IsMetBy}

-- a bit as a number
abbrev pub bit_label : Bool → ℕ
bit_label false = 0
bit_label true = 1

-- some row at the symbol with that number gives the label
abbrev pub IsLabelAt : (KissRow → Option ℕ) → KissFile → (s x label : ℕ) → Type 0
IsLabelAt said F s x label = (row : KissRow) × IsRowAt F s (symbol_of F.inputs x) row × (said row ≡ Some label)

-- no row there gives a label
abbrev pub IsOpenAt : (KissRow → Option ℕ) → KissFile → (s x : ℕ) → Type 0
IsOpenAt said F s x = (row : KissRow) → IsRowAt F s (symbol_of F.inputs x) row → IsNone (said row)

-- rows of both states give labels that differ
abbrev pub SayTwo : (KissRow → Option ℕ) → KissFile → (s t x : ℕ) → Type 0
SayTwo said F s t x = (v w : ℕ) × IsLabelAt said F s x v × IsLabelAt said F t x w × (v ≢ w)

-- a row of the first state gives a label other than that one, and no row of the second gives any
abbrev pub SaysAlone : (KissRow → Option ℕ) → KissFile → (s t other x : ℕ) → Type 0
SaysAlone said F s t other x = (v : ℕ) × IsLabelAt said F s x v × (v ≢ other) × IsOpenAt said F t x

-- no row of either state gives a label
abbrev pub AreOpenAt : (KissRow → Option ℕ) → KissFile → (s t x : ℕ) → Type 0
AreOpenAt said F s t x = IsOpenAt said F s x × IsOpenAt said F t x

-- no row of either state gives a label, and the labels that then apply to the states differ
abbrev pub DifferBothOpen : (KissRow → Option ℕ) → (ℕ → ℕ) → KissFile → (s t x : ℕ) → Type 0
DifferBothOpen said unsaid F s t x = AreOpenAt said F s t x × (unsaid s ≢ unsaid t)

-- the labels differ there, and no row of one of the states gives one
abbrev pub DifferOpen : (KissRow → Option ℕ) → (ℕ → ℕ) → KissFile → (s t x : ℕ) → Type 0
DifferOpen said unsaid F s t x =
    SaysAlone said F s t (unsaid t) x ⊎ (SaysAlone said F t s (unsaid s) x ⊎ DifferBothOpen said unsaid F s t x)

-- the labels of the states differ there; a function gives the label of a state at which no row gives one
abbrev pub DifferAt : (KissRow → Option ℕ) → (ℕ → ℕ) → KissFile → (s t x : ℕ) → Type 0
DifferAt said unsaid F s t x = SayTwo said F s t x ⊎ DifferOpen said unsaid F s t x

-- the rows give labels that differ
abbrev pub SayApart : (KissRow → Option ℕ) → KissRow → KissRow → Type 0
SayApart said row other = (v w : ℕ) × (said row ≡ Some v) × (said other ≡ Some w) × (v ≢ w)

-- both rows hold the symbol with that number, and give labels that differ
pub record AreApartAt (said : KissRow → Option ℕ) (row other : KissRow) (x : ℕ) : Type 0 where
  pub first : HoldsNumber row.cube x
  pub second : HoldsNumber other.cube x
  pub differ : SayApart said row other

-- the row belongs to the state
abbrev pub IsOfState : KissFile → ℕ → KissRow → Type 0
IsOfState F s row = Contains F.rows row × (row.from ≡ s)

-- some row of the state differs from the row at the symbol with that number
abbrev pub IsApartAt : (KissRow → Option ℕ) → KissFile → ℕ → KissRow → ℕ → Type 0
IsApartAt said F t row x = (other : KissRow) × IsOfState F t other × AreApartAt said row other x

-- the row holds the symbol and gives a label other than that one, and no row of the state gives any
abbrev pub IsAloneAt : (KissRow → Option ℕ) → KissFile → (t other : ℕ) → KissRow → ℕ → Type 0
IsAloneAt said F t other row x = (v : ℕ) × HoldsNumber row.cube x × (said row ≡ Some v) × (v ≢ other) × IsOpenAt said F t x

-- a search over the first rows with these numbers has met every symbol wanted for one of the rows
abbrev pub MeetsWanted : List KissRow → List ℕ → (count : ℕ) → (KissRow → ℕ → Type 0) → Option ℕ → Bool → Type 0
MeetsWanted rows numbers count Wanted found least =
    (k d : ℕ) (row : KissRow) → k < count → slice_get rows (slice_index_or numbers k d) ≡ Some row → (y : ℕ) → Wanted row y → IsMetBy found least y

-- a search over the first rows with these numbers: what it found, and what it has met
pub record IsSearched (F : KissFile) (numbers : List ℕ) (count : ℕ) (Wanted : KissRow → ℕ → Type 0) (Found : ℕ → Type 0) (found : Option ℕ) (least : Bool) : Type 0 where
  pub some : IfSome found Found
  pub within : IfSome found (λ x. x < 2 ^ F.inputs)
  pub met : MeetsWanted F.rows numbers count Wanted found least

-- rows of one state that hold one symbol give one label
abbrev pub HaveOneLabel : (KissRow → Option ℕ) → KissFile → Type 0
HaveOneLabel said F = (s x v w : ℕ) → IsLabelAt said F s x v → IsLabelAt said F s x w → v ≡ w

-- at each symbol some row of each of the two states gives a label
abbrev pub NoneIsOpen : (KissRow → Option ℕ) → KissFile → (s t : ℕ) → Type 0
NoneIsOpen said F s t = (x : ℕ) → (IsOpenAt said F s x → ⊥) × (IsOpenAt said F t x → ⊥)

-- each of the rows with these numbers gives a label
abbrev pub AllSay : (KissRow → Option ℕ) → List KissRow → List ℕ → Type 0
AllSay said rows numbers = (k d : ℕ) (row : KissRow) → k < length numbers → slice_get rows (slice_index_or numbers k d) ≡ Some row → IsSome (said row)

-- at one of these places the rows differ at the symbol with that number
abbrev pub ApartBelow : (KissRow → Option ℕ) → List KissRow → (first second : List ℕ) → (count : ℕ) → ℕ → Type 0
ApartBelow said rows first second count x =
    (k : ℕ) × (row : KissRow) × (other : KissRow) × (k < count) × (slice_get rows (slice_index first k) ≡ Some row) × (slice_get rows (slice_index second k) ≡ Some other)
    × AreApartAt said row other x

-- a search over these places has met every symbol at which rows differ
abbrev pub MeetsApart : (KissRow → Option ℕ) → List KissRow → (first second : List ℕ) → (count : ℕ) → Option ℕ → Bool → Type 0
MeetsApart said rows first second count found least =
    (k d e : ℕ) (row other : KissRow) → k < count → slice_get rows (slice_index_or first k d) ≡ Some row → slice_get rows (slice_index_or second k e) ≡ Some other
    → (y : ℕ) → AreApartAt said row other y → IsMetBy found least y
