-- Terms of a list with their numbers. Private functions need it; no public contract cites it.
use Rattle.std.specs.Prelude.{◌≡◌, ◌≢◌, ℕ, ◌<◌, ◌↔◌, Bool, true, false, ◌⊎◌, List, [], ◌∷◌, All, Contains, length, slice_index_or}
use Rattle.std.specs.Int.{bit_at}
use Rattle.cover_logic.specs.declared.bundles.Entry.{Entry}
use Rattle.cover_terms.specs.declared.term.Term.{Term}
use Rattle.cover_terms.specs.Pair.{HasLiteral, agree, refines}
use Rattle.cover_terms.specs.Term.{FitsWidth}

abbrev pub terms_in : List Entry → List Term
terms_in [] = []
terms_in (e ∷ es) = e.term ∷ terms_in es

-- the entry has the term of that number
abbrev pub HasNumber : List Term → Entry → Type 0
HasNumber terms e = (e.number < length terms) × ((d : Term) → slice_index_or terms e.number d ≡ e.term)

-- each term of the list has an entry with its number, and there are no other entries
pub record IsNumbered (terms : List Term) (entries : List Entry) : Type 0 where
  pub among : All (HasNumber terms) entries
  pub all : (i : ℕ) (d : Term) → i < length terms → Contains entries (record { term = slice_index_or terms i d; number = i })

-- the entries whose terms share a value with the row
abbrev pub IsMet : Term → List Entry → List Entry → Type 0
IsMet row entries met = (e : Entry) → Contains met e ↔ (Contains entries e × (agree row e.term ≡ true))

-- the term of the entry has no literal at or above the width
abbrev pub EntryFits : ℕ → Entry → Type 0
EntryFits width e = FitsWidth width e.term

-- the set has the places of the entries with that literal at the column
abbrev pub HasLiterals : ℕ → ℕ → List Entry → ℕ → Type 0
HasLiterals column bit entries places =
    (k : ℕ) (d : Entry) → k < length entries → (bit_at places k ≡ 1) ↔ HasLiteral (slice_index_or entries k d).term column bit

-- the set has the places of the entries whose terms share no value with the row
abbrev pub IsAgainst : Term → List Entry → ℕ → Type 0
IsAgainst row entries places =
    (k : ℕ) (d : Entry) → k < length entries → (bit_at places k ≡ 1) ↔ (agree row (slice_index_or entries k d).term ≡ false)

-- of the given places, the second set has those of entries whose term looks wherever the row does, with the same bits
abbrev pub IsWithin : Term → List Entry → ℕ → ℕ → Type 0
IsWithin row entries places within =
    (k : ℕ) (d : Entry) → k < length entries → (bit_at within k ≡ 1) ↔ ((bit_at places k ≡ 1) × (refines row (slice_index_or entries k d).term ≡ true))

-- entries whose terms share a value with the row were added, and none was taken out
pub record AreMore (row : Term) (entries before after : List Entry) : Type 0 where
  pub kept : (e : Entry) → Contains before e → Contains after e
  pub among : (e : Entry) → Contains after e → Contains before e ⊎ (Contains entries e × (agree row e.term ≡ true))

-- the same, and the entry at the place is among them if its term shares a value with the row
pub record IsPutAt (row : Term) (entries : List Entry) (place : ℕ) (before after : List Entry) : Type 0 where
  pub more : AreMore row entries before after
  pub there : (d : Entry) → place < length entries → agree row (slice_index_or entries place d).term ≡ true → Contains after (slice_index_or entries place d)

-- the same, and each entry whose term shares a value with the row is among them
pub record IsPutIn (row : Term) (entries before after : List Entry) : Type 0 where
  pub more : AreMore row entries before after
  pub all : (e : Entry) → Contains entries e → agree row e.term ≡ true → Contains after e

-- the entry is of another row, which is left
abbrev pub IsRival : ℕ → List Bool → Entry → Type 0
IsRival row left e = (e.number ≢ row) × (slice_index_or left e.number false ≡ true)

-- the terms of the entries that are of other rows that are left
pub record HoldsRivals (row : ℕ) (left : List Bool) (near : List Entry) (others : List Term) : Type 0 where
  pub among : All (λ t. (e : Entry) × Contains near e × IsRival row left e × (e.term ≡ t)) others
  pub all : All (λ e. IsRival row left e → Contains others e.term) near
