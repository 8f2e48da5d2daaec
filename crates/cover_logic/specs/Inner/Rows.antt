-- Lists of terms while a cover is made. Private functions need it; no public contract cites it.
use Rattle.std.specs.Prelude.{ℕ, ◌≤◌, Bool, true, false, List, [], ◌++◌, All, Contains, EachIndex, Option, MatchOption, remove}
use Rattle.cover_terms.specs.declared.term.Term.{Term}
use Rattle.cover_terms.specs.Lists.{Covers}
use Rattle.cover_terms.specs.Pair.{Includes}
use Rattle.cover_terms.specs.Term.{FitsWidth, LooksAt, Holds, HoldsWithDash, IsCovered}

-- no value of the term is held by the list
abbrev pub IsClear : List Term → Term → Type 0
IsClear terms t = (x : ℕ) → Holds t x → IsCovered terms x → ⊥

-- with a dash instead of its literal at the column the term holds a value of off
abbrev pub NeedsLiteral : List Term → Term → ℕ → Type 0
NeedsLiteral off t column = (x : ℕ) × IsCovered off x × HoldsWithDash t column x

-- some value of the term is held by a term of the list
abbrev pub MeetsSome : List Term → Term → Type 0
MeetsSome terms t = (x : ℕ) × IsCovered terms x × Holds t x

-- whether the row has a value of the terms
abbrev pub IsMetOrClear : List Term → Term → Bool → Type 0
IsMetOrClear terms row true = MeetsSome terms row
IsMetOrClear terms row false = IsClear terms row

-- each value of the term is held by the list
abbrev pub IsAllHeld : List Term → Term → Type 0
IsAllHeld terms t = (x : ℕ) → Holds t x → IsCovered terms x

-- each literal is needed
abbrev pub IsPrime : List Term → Term → Type 0
IsPrime off t = (column : ℕ) → LooksAt t column → NeedsLiteral off t column

-- a term that holds what the seed holds and no value of off; as a number, its care is no greater
pub record IsGrown (seed : Term) (off : List Term) (row : Term) : Type 0 where
  pub includes : Includes row seed
  pub clear : IsClear off row
  pub care : row.care ≤ seed.care

-- a term that holds what the seed holds and no value of off, and needs each of its literals
pub record IsPrimeRow (seed : Term) (off : List Term) (width : ℕ) (row : Term) : Type 0 where
  pub includes : Includes row seed
  pub clear : IsClear off row
  pub prime : IsPrime off row
  pub fits : FitsWidth width row

-- rows that hold every value of on and no value of off, and that need each of their literals
pub record ArePrimeRows (on off : List Term) (width : ℕ) (rows : List Term) : Type 0 where
  pub covers : Covers rows on
  pub clear : All (IsClear off) rows
  pub prime : All (IsPrime off) rows
  pub fits : All (FitsWidth width) rows

-- a value of on in the row that the other rows do not hold, or none where they hold each of them
abbrev pub IsSole : Term → List Term → List Term → Option ℕ → Type 0
IsSole row on others sole =
    MatchOption sole ((x : ℕ) → Holds row x → IsCovered on x → IsCovered others x)
    (λ x. Holds row x × IsCovered on x × (IsCovered others x → ⊥))

-- each row holds a value of on that neither another row nor the rest holds
abbrev pub EachNeeded : List Term → List Term → List Term → Type 0
EachNeeded on rows rest = EachIndex rows (λ i. (x : ℕ) × IsCovered on x × (IsCovered (remove rows i ++ rest) x → ⊥))

-- some of the rows, which hold every value of on, and of which none can be left out
pub record AreNeededRows (on rows kept : List Term) : Type 0 where
  pub among : All (Contains rows) kept
  pub covers : Covers kept on
  pub needed : EachNeeded on kept []

-- rows that hold every value of on and no value of off, need each of their literals, and are each needed
pub record AreNeededPrimes (on off : List Term) (width : ℕ) (rows : List Term) : Type 0 where
  pub primes : ArePrimeRows on off width rows
  pub needed : EachNeeded on rows []
