-- The terms that wait for a row. Private functions need it; no public contract cites it.
use Rattle.std.specs.Prelude.{◌≡◌, ◌<◌, ◌≤◌, ◌↔◌, ◌⊎◌, false}
use Rattle.cover_terms.specs.declared.term.Term.{Term}
use Rattle.cover_logic.specs.declared.waiting_terms.Waiting.{Waiting}
use Rattle.cover_logic.specs.Inner.Groups.{IsLiveInSome, all_live}
use Rattle.cover_terms.specs.Pair.{refines}

abbrev pub IsWaiting : Waiting → Term → Type 0
IsWaiting w t = IsLiveInSome w.groups.items t

-- the term was waiting, and no other term ceased to wait
pub record HasTaken (before : Waiting) (t : Term) (after : Waiting) : Type 0 where
  pub was : IsWaiting before t
  pub among : (u : Term) → IsWaiting after u → IsWaiting before u
  pub rest : (u : Term) → IsWaiting before u → IsWaiting after u ⊎ (t ≡ u)
  pub fewer : all_live after.groups.items < all_live before.groups.items

-- the terms that still wait are those that do not look wherever the row does, with the same bits
pub record HasDropped (row : Term) (before after : Waiting) : Type 0 where
  pub left : (t : Term) → IsWaiting after t ↔ (IsWaiting before t × (refines row t ≡ false))
  pub less : all_live after.groups.items ≤ all_live before.groups.items
