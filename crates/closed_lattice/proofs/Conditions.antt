-- The conditions of growths: each holds of every smaller partition too, and zero meets them.
use Rattle.std.proofs.Common.{◌≡◌, ℕ, ◌<◌, List, length, subst, arith}
use Rattle.partition.specs.Partition.{IsPartition, IsZero, Le, Lt, Together, zero_of}
use Rattle.partition.specs.Laws.Extremes.{zero_of_is_zero}
use Rattle.partition.specs.Laws.Chains.{together_itself}
use Rattle.closed_lattice.specs.Limits.{HoldsApart, MeetInZero}

pub strictly_below_down : (top p q : List ℕ) → Le q p → Lt p top → Lt q top
strictly_below_down top p q le (below, strict) = ((λ s t held. below s t (le s t held)), (λ above. strict (λ s t held. le s t (above s t held))))

pub zero_strictly_below : (n : ℕ) (top : List ℕ) → length top ≡ n → IsPartition n (zero_of n) → (IsZero top → ⊥) → Lt (zero_of n) top
zero_strictly_below n top size lawful other = (
  (λ s t held. subst (λ (u : ℕ). Together top s u) (zero_of_is_zero n s t held) (together_itself top s (omega (arith, held.0, lawful.length)))),
  (λ above. other (λ s t held. zero_of_is_zero n s t (above s t held))),
)

-- nothing is strictly below zero
pub never_below_zero : (n : ℕ) (top : List ℕ) → length top ≡ n → IsZero top → (p : List ℕ) → IsPartition n p → Lt p top → ⊥
never_below_zero n top size zero p lawful (below, strict) =
    strict (λ s t held. subst (λ (u : ℕ). Together p s u) (zero s t held) (together_itself p s (omega (arith, held.0, size, lawful.length))))

pub meet_in_zero_down : (other p q : List ℕ) → Le q p → MeetInZero other p → MeetInZero other q
meet_in_zero_down other p q le meets s t held = meets s t (le s t held)

pub apart_down : (s t : ℕ) (p q : List ℕ) → Le q p → HoldsApart s t p → HoldsApart s t q
apart_down s t p q le apart held = apart (le s t held)

pub zero_apart : (n s t : ℕ) → s < t → HoldsApart s t (zero_of n)
zero_apart n s t order held = omega (arith, zero_of_is_zero n s t held)
