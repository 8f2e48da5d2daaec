-- Lists of terms, and the values that they hold together.
use Rattle.std.specs.Prelude.{ℕ, List, Contains, ◌↔◌, All, Option, MatchOption}
use Rattle.cover_terms.specs.declared.term.Term.{Term}
use Rattle.cover_terms.specs.Pair.{Includes}
use Rattle.cover_terms.specs.Term.{Holds, IsCovered}

-- every value of on is held by a row
abbrev pub Covers : List Term → List Term → Type 0
Covers rows on = (x : ℕ) → IsCovered on x → IsCovered rows x

-- a value of the term that the list does not hold, or none where it holds each of them
abbrev pub IsUncovered : Term → List Term → Option ℕ → Type 0
IsUncovered t terms gap =
    MatchOption gap ((x : ℕ) → Holds t x → IsCovered terms x) (λ x. Holds t x × (IsCovered terms x → ⊥))

-- a value that the row shares with the term and that the list does not hold, or none where it holds each of them
abbrev pub IsSharedGap : Term → Term → List Term → Option ℕ → Type 0
IsSharedGap row t terms gap =
    MatchOption gap ((x : ℕ) → Holds row x → Holds t x → IsCovered terms x) (λ x. Holds row x × Holds t x × (IsCovered terms x → ⊥))

-- the lists have the same terms, in any order and any number of times
abbrev pub HasSameTerms : List Term → List Term → Type 0
HasSameTerms terms others = (t : Term) → Contains others t ↔ Contains terms t

-- one term of the list holds each value of the term
abbrev pub IsWithinOne : List Term → Term → Type 0
IsWithinOne terms t = (u : Term) × Contains terms u × Includes u t

-- the others are among the terms, and hold all values of the terms
pub record HasSameValues (terms others : List Term) : Type 0 where
  pub among : All (Contains terms) others
  pub covers : Covers others terms
