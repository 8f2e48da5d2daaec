-- Lists to which pairs of next states are added.
use Rattle.std.specs.Prelude.{ℕ, ◌≡◌, ◌<◌, ◌^◌, ◌↔◌, ◌⊎◌, Bool, true, false, Contains, List, ◌++◌, Option, Some, length, slice_get, slice_index, slice_index_or}
use Rattle.std.specs.Int.{bit_at}
use Rattle.cubes.specs.declared.cube.Cube.{Cube}
use Rattle.cubes.specs.Cube.{HoldsNumber, Meets}
use Rattle.kiss_file.specs.declared.file.KissFile.{KissFile}
use Rattle.kiss_file.specs.declared.file.KissRow.{KissRow}
use Rattle.state_rows.specs.declared.bundles.RowBundle.{RowBundle}
use Rattle.state_pairs.specs.RowLabels.{AreOpenAt, IsLabelAt, IsOpenAt, IsOfState}
use Rattle.state_pairs.specs.MarkedRows.{AreLeft}
use Rattle.state_rows.specs.Columns.{IsAtPlace}

-- the second list is the first with pairs behind it
abbrev pub Lengthens : List (ℕ × ℕ) → List (ℕ × ℕ) → Type 0
Lengthens old more = (behind : List (ℕ × ℕ)) × (more ≡ old ++ behind)

-- the second list is the first with pairs behind it, and has the pairs of the first and those of the relation
pub record AddsPairs (P : ℕ → ℕ → Type 0) (old more : List (ℕ × ℕ)) : Type 0 where
  pub longer : Lengthens old more
  pub each : (u v : ℕ) → Contains more (u, v) ↔ (Contains old (u, v) ⊎ P u v)

-- the pair is in the list
abbrev pub IsListedPair : List (ℕ × ℕ) → ℕ → ℕ → Type 0
IsListedPair pairs u v = Contains pairs (u, v)

-- the pair is the one at that place of the list
abbrev pub IsPairAt : List (ℕ × ℕ) → ℕ → ℕ → ℕ → Type 0
IsPairAt pairs k u v = slice_index_or pairs k (u, v) ≡ (u, v)

-- the pair is the one that was found
abbrev pub IsFound : Option (ℕ × ℕ) → ℕ → ℕ → Type 0
IsFound found u v = found ≡ Some (u, v)

-- the pair, swapped if the flag is set
abbrev pub pair_of : Bool → ℕ → ℕ → ℕ × ℕ
pair_of false u v = (u, v)
pair_of true u v = (v, u)

-- the next state that a row names
abbrev pub to_of : KissRow → Option ℕ
to_of row = row.to

-- the rows share a symbol, and name these next states
pub record AreNamedBy (row other : KissRow) (u v : ℕ) : Type 0 where
  pub shared : (x : ℕ) × (x < 2 ^ row.cube.width) × HoldsNumber row.cube x × HoldsNumber other.cube x
  pub first : row.to ≡ Some u
  pub second : other.to ≡ Some v

-- the statement about a row holds of some row of the state
abbrev pub OfSomeRow : KissFile → ℕ → (KissRow → ℕ → ℕ → Type 0) → ℕ → ℕ → Type 0
OfSomeRow F s P u v = (row : KissRow) × IsOfState F s row × P row u v

-- the row and some row of the state share a symbol, and name these next states
abbrev pub IsNamedBeside : KissFile → ℕ → KissRow → ℕ → ℕ → Type 0
IsNamedBeside F t row = OfSomeRow F t (AreNamedBy row)

-- at some symbol rows of both states name these next states
abbrev pub AreNamed : KissFile → (s t u v : ℕ) → Type 0
AreNamed F s t u v = (x : ℕ) × (x < 2 ^ F.inputs) × IsLabelAt to_of F s x u × IsLabelAt to_of F t x v

-- the statement holds of some number below the count
abbrev pub BelowCount : (ℕ → ℕ → ℕ → Type 0) → ℕ → ℕ → ℕ → Type 0
BelowCount P count u v = (k : ℕ) × (k < count) × P k u v

-- the statement holds of the row at that place of a list of numbers
abbrev pub AtPlace : List KissRow → List ℕ → (KissRow → ℕ → ℕ → Type 0) → ℕ → ℕ → ℕ → Type 0
AtPlace rows numbers P k u v = (row : KissRow) × (slice_get rows (slice_index numbers k) ≡ Some row) × P row u v

-- the rows at one place of two lists share a symbol, and name these next states
abbrev pub AtBothPlaces : List KissRow → (first second : List ℕ) → ℕ → ℕ → ℕ → Type 0
AtBothPlaces rows first second k u v =
    (row : KissRow) × (other : KissRow) × (slice_get rows (slice_index first k) ≡ Some row) × (slice_get rows (slice_index second k) ≡ Some other) × AreNamedBy row other u v

abbrev pub AreNamedAtPlaces : List KissRow → (first second : List ℕ) → ℕ → ℕ → Type 0
AreNamedAtPlaces rows first second = BelowCount (AtBothPlaces rows first second) (length first)

-- the pair of a next state that the row names and of the other state, at a symbol at which that state leaves it open
abbrev pub NamesAlone : KissFile → ℕ → Bool → KissRow → ℕ → ℕ → Type 0
NamesAlone F t turned row u v =
    (x w : ℕ) × (x < 2 ^ F.inputs) × HoldsNumber row.cube x × IsOpenAt to_of F t x × (row.to ≡ Some w) × ((u, v) ≡ pair_of turned w t)

-- the pair of the states themselves, which both leave the next state open at some symbol
abbrev pub AreBothOpen : KissFile → (s t u v : ℕ) → Type 0
AreBothOpen F s t u v = (x : ℕ) × (x < 2 ^ F.inputs) × AreOpenAt to_of F s t x × (u ≡ s) × (v ≡ t)

-- a pair at a symbol at which one of the states leaves the next state open
abbrev pub IsOpenImage : KissFile → (s t u v : ℕ) → Type 0
IsOpenImage F s t u v =
    OfSomeRow F s (NamesAlone F t false) u v ⊎ (OfSomeRow F t (NamesAlone F s true) u v ⊎ AreBothOpen F s t u v)

-- the next state, and one that a row with one of these numbers names which shares a symbol with the cube
abbrev pub AreNamedIn : List KissRow → List ℕ → Cube → (next : ℕ) → ℕ → ℕ → Type 0
AreNamedIn rows numbers cube next u v =
    (u ≡ next) × ((k : ℕ) × (other : KissRow) × IsAtPlace rows numbers k other × Meets cube other.cube × (other.to ≡ Some v))

-- if the row names a next state, its pair with the next state of the first is in the list
abbrev pub IsListed : List (ℕ × ℕ) → (next : ℕ) → KissRow → Type 0
IsListed pairs next other = (v : ℕ) → other.to ≡ Some v → Contains pairs (next, v)

-- pairs were added for the rows with these numbers, except those that the word has left
pub record AreAddedTo (rows : List KissRow) (numbers : List ℕ) (cube : Cube) (next word : ℕ) (old now : List (ℕ × ℕ)) : Type 0 where
  pub longer : Lengthens old now
  pub right : (u v : ℕ) → Contains now (u, v) → Contains old (u, v) ⊎ AreNamedIn rows numbers cube next u v
  pub left : AreLeft rows numbers (λ other. Meets cube other.cube) (IsListed now next) word
  pub meet : (k : ℕ) (other : KissRow) → IsAtPlace rows numbers k other → bit_at word k ≡ 1 → Meets cube other.cube

-- the pair of the next state and of one that the row at that place names was added, and the rows that the word marks have
-- their pairs in the list
pub record IsAddedAt (rows : List KissRow) (numbers : List ℕ) (next place word : ℕ) (old now : List (ℕ × ℕ)) : Type 0 where
  pub added : (other : KissRow) → IsAtPlace rows numbers place other → AddsPairs (λ u v. (u ≡ next) × (other.to ≡ Some v)) old now
  pub done : (k : ℕ) (other : KissRow) → IsAtPlace rows numbers k other → bit_at word k ≡ 1 → IsListed now next other
  pub fits : word < 2 ^ 64

-- the pairs that rows of a bundle name with the next state, told of the bundle at one place of a list
abbrev pub AtBundle : List KissRow → List RowBundle → Cube → (next : ℕ) → ℕ → ℕ → ℕ → Type 0
AtBundle rows bundles cube next k u v = (bundle : RowBundle) × (slice_index_or bundles k bundle ≡ bundle) × AreNamedIn rows bundle.numbers cube next u v
