-- Groups of terms that wait. Private functions need it; no public contract cites it.
use Rattle.std.specs.Prelude.{◌≡◌, ℕ, ◌+◌, ◌<◌, ◌≤◌, ◌↔◌, ◌⊎◌, false, List, [], ◌∷◌, All, Contains, MatchOption, Option, length, slice_index_or}
use Rattle.std.specs.Int.{bit_at}
use Rattle.cover_logic.specs.declared.bundles.Entry.{Entry}
use Rattle.cover_terms.specs.declared.term.Term.{Term}
use Rattle.cover_logic.specs.declared.waiting_terms.Group.{Group}
use Rattle.cover_terms.specs.Pair.{refines}

-- the term is that of an entry at a live place
pub record IsLive (g : Group) (t : Term) : Type 0 where
  pub place : ℕ
  pub entry : Entry
  pub below : place < length g.bundle.entries.items
  pub is : slice_index_or g.bundle.entries.items place entry ≡ entry
  pub live : bit_at g.live place ≡ 1
  pub has : entry.term ≡ t

-- the term is live in one of the groups
abbrev pub IsLiveInSome : List Group → Term → Type 0
IsLiveInSome groups t = (g : Group) × Contains groups g × IsLive g t

-- a number that falls when a place is live no longer
abbrev pub all_live : List Group → ℕ
all_live [] = 0
all_live (g ∷ gs) = g.live + all_live gs

-- the term was live, and no other term ceased to be live
pub record IsTaken (before : Group) (t : Term) (after : Group) : Type 0 where
  pub was : IsLive before t
  pub among : (u : Term) → IsLive after u → IsLive before u
  pub rest : (u : Term) → IsLive before u → IsLive after u ⊎ (t ≡ u)
  pub fewer : after.live < before.live

-- the terms that are still live are those that do not look wherever the row does, with the same bits
pub record IsDropped (row : Term) (before after : Group) : Type 0 where
  pub left : (t : Term) → IsLive after t ↔ (IsLive before t × (refines row t ≡ false))
  pub less : after.live ≤ before.live

-- the same of the terms in all groups
pub record AreDropped (row : Term) (before after : List Group) : Type 0 where
  pub left : (t : Term) → IsLiveInSome after t ↔ (IsLiveInSome before t × (refines row t ≡ false))
  pub less : all_live after ≤ all_live before

-- the group of that number has a live place, or none has
abbrev pub IsFirstLive : List Group → Option ℕ → Type 0
IsFirstLive groups first =
    MatchOption first (All (λ g. g.live ≡ 0) groups) (λ i. (i < length groups) × ((d : Group) → 0 < (slice_index_or groups i d).live))
