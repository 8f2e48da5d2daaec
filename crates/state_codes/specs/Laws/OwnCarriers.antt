-- A part with its own carrier needs no bit inside it.
use Rattle.std.proofs.Common.{◌≡◌, ℕ, zero, suc, ◌+◌, ◌<◌, ◌≤◌, ◌==◌, ◌&&◌, Bool, true, false, cond, List, length, get_or, replicate, refl, sym, ap, ◌∙◌, subst, arith}
use Rattle.std.proofs.lemmas.List.{get_or-replicate}
use Rattle.std.proofs.lemmas.List.Sums.{fails_before_first}
use Rattle.partition.specs.NestedBlocks.{IsInside, blocks_below, least_of}
use Rattle.partition.specs.Laws.Extremes.{blocks_of-one_of, one_of_is_partition}
use Rattle.partition.specs.Partition.{IsPartition, IsStateCount, blocks_of}
use Rattle.state_codes.specs.declared.split.Part.{Part}
use Rattle.state_codes.specs.Code.{need}
use Rattle.state_codes.specs.Kinds.{IsOwnCarrier}
use Rattle.state_codes.specs.Laws.InnerLabels.{inside_once}
use Rattle.state_codes.specs.Laws.Need.{need_is}

-- a zero for each state
pub zeros : List ℕ → List ℕ
zeros p = replicate (length p) 0

none_below : (p : List ℕ) (s k : ℕ) → k ≤ least_of p s → blocks_below p p (get_or p s 0) k ≡ 0
none_below p s zero below = refl
none_below p s (suc k) below =
    let rest : blocks_below p p (get_or p s 0) k ≡ 0 = none_below p s k (omega (arith, below)) in
    let other : (get_or p k 0 == get_or p s 0) ≡ false = fails_before_first (λ label. label == get_or p s 0) p k 0 (omega (arith, below)) in
    ap (λ (b : Bool). blocks_below p p (get_or p s 0) k + cond ((least_of p k == k) && b) 1 0) other ∙ skipped (least_of p k == k) (blocks_below p p (get_or p s 0) k) ∙ rest
  where
    skipped : (b : Bool) (m : ℕ) → m + cond (b && false) 1 0 ≡ m
    skipped true m = omega arith
    skipped false m = omega arith

-- inside itself a partition has one block in each of its own
pub inside_itself : (n : ℕ) (p : List ℕ) → IsPartition n p → IsInside p p (zeros p)
unfolding zeros
inside_itself n p lawful = record {
  lawful = one_of_is_partition (length p) (subst IsStateCount (sym lawful.length) lawful.count);
  numbers = λ s within. get_or-replicate {A = ℕ} (length p) s 0 0 within ∙ sym (none_below p s (least_of p s) (omega arith));
}

pub zeros_need : (n : ℕ) (p : List ℕ) → IsPartition n p → need (blocks_of (zeros p)) ≡ 0
unfolding zeros
zeros_need n p lawful =
    ap need (blocks_of-one_of (length p) (omega (arith, lawful.length, lawful.count.0)))
    ∙ need_is 1 0 (record { enough = omega arith; least = λ fewer enough. omega arith })

-- the labels of a part inside itself need no bit
pub no_inner : (n : ℕ) (part : Part) (inner : List ℕ) → IsPartition n part.partition → IsOwnCarrier part → IsInside part.carrier part.partition inner → need (blocks_of inner) ≡ 0
no_inner n part inner lawful own inside =
    let itself : IsInside part.partition part.partition inner = subst (λ (p : List ℕ). IsInside p part.partition inner) own inside in
    let same : inner ≡ zeros part.partition = inside_once part.partition part.partition inner (zeros part.partition) itself (inside_itself n part.partition lawful) in
    ap (λ (labels : List ℕ). need (blocks_of labels)) same ∙ zeros_need n part.partition lawful
