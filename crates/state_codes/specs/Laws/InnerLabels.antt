-- The labels inside a carrier distinguish the blocks of the partition within each block of the carrier.
use Rattle.std.proofs.Common.{◌≡◌, ℕ, zero, suc, ◌+◌, ◌<◌, ◌≤◌, ◌==◌, ◌&&◌, Bool, cond, inl, inr, List, length, get_or, refl, sym, ap, ◌∙◌, subst, arith}
use Rattle.std.proofs.lemmas.Bool.{cases_eq, cases_order, eq-eqb, eqb-true}
use Rattle.std.proofs.lemmas.List.{ext_get_or}
use Rattle.std.proofs.lemmas.List.Sums.{passes_at_first}
use Rattle.partition.specs.Partition.{IsPartition, Le, Together, zero_of}
use Rattle.partition.specs.Laws.Extremes.{zero_of_below, zero_of_is_partition, zero_of_is_zero}
use Rattle.partition.specs.Laws.Labels.{IsPartition-of}
use Rattle.partition.specs.Laws.Least.{least_of-le, least_of-same}
use Rattle.partition.specs.NestedBlocks.{least_of, blocks_below, IsComplement, IsInside}

-- the least state of a block has its label
least_of-label : (q : List ℕ) (s : ℕ) → s < length q → get_or q (least_of q s) 0 ≡ get_or q s 0
least_of-label q s within =
    eqb-true (get_or q (least_of q s) 0) (get_or q s 0) (passes_at_first (λ label. label == get_or q s 0) q 0 (omega (arith, least_of-le q s s refl)))

blocks_below-mono : (p q : List ℕ) (block k m : ℕ) → k ≤ m → blocks_below p q block k ≤ blocks_below p q block m
blocks_below-mono p q block k zero below = let none : k ≡ 0 = omega arith in omega (arith, ap (blocks_below p q block) none)
blocks_below-mono p q block k (suc m) below =
    elim (cases_eq k (suc m)) [
      | inl at ↦ omega (arith, ap (blocks_below p q block) at)
      | inr other ↦ omega (arith, blocks_below-mono p q block k m (omega arith))
    ]

-- a least state in the block is counted
blocks_below-counts : (p q : List ℕ) (block k : ℕ) → least_of q k ≡ k → get_or p k 0 ≡ block → blocks_below p q block (suc k) ≡ blocks_below p q block k + 1
blocks_below-counts p q block k least in_block =
    ap (λ (b : Bool). blocks_below p q block k + cond (b && (get_or p k 0 == block)) 1 0) (eq-eqb (least_of q k) k least) ∙ ap (λ (b : Bool). blocks_below p q block k + cond b 1 0) (eq-eqb (get_or p k 0) block in_block)

-- the block of s is counted below that of t
counted_before : (p q : List ℕ) (s t : ℕ) → Le q p → s < length q → least_of q s < least_of q t → blocks_below p q (get_or p s 0) (least_of q s) < blocks_below p q (get_or p s 0) (least_of q t)
counted_before p q s t le within before =
    let first : ℕ = least_of q s in
    let label : get_or q first 0 ≡ get_or q s 0 = least_of-label q s within in
    let early : first ≤ s = least_of-le q s s refl in
    let outer : get_or p first 0 ≡ get_or p s 0 = (le first s (omega arith, within, label)).2 in
    omega (arith, blocks_below-mono p q (get_or p s 0) (suc first) (least_of q t) (omega arith), blocks_below-counts p q (get_or p s 0) first (least_of-same q first s label) outer)

-- states in one block of p that have the same label inside it are in the same block of q
pub inside_tells : (p q r : List ℕ) → Le q p → length q ≡ length p → IsInside p q r → (s t : ℕ) → Together p s t → get_or r s 0 ≡ get_or r t 0 → get_or q s 0 ≡ get_or q t 0
inside_tells p q r le size inside s t held same =
    let in_s : s < length q = omega (arith, held.0) in
    let in_t : t < length q = omega (arith, held.1) in
    let counts : blocks_below p q (get_or p s 0) (least_of q s) ≡ blocks_below p q (get_or p s 0) (least_of q t) = sym (inside.numbers s held.0) ∙ same ∙ inside.numbers t held.1 ∙ ap (λ (block : ℕ). blocks_below p q block (least_of q t)) (sym held.2) in
    let turned : blocks_below p q (get_or p t 0) (least_of q t) ≡ blocks_below p q (get_or p t 0) (least_of q s) = subst (λ (block : ℕ). blocks_below p q block (least_of q t) ≡ blocks_below p q block (least_of q s)) held.2 (sym counts) in
    elim (cases_order (least_of q s) (least_of q t)) [
      | inl one ↦ sym (least_of-label q s in_s) ∙ ap (λ (k : ℕ). get_or q k 0) one ∙ least_of-label q t in_t
      | inr two ↦ elim two [
        | inl before ↦ absurd (omega (arith, counts, counted_before p q s t le in_s before))
        | inr after ↦ absurd (omega (arith, turned, counted_before p q t s le in_t after))
      ]
    ]

-- a partition and its complement meet in zero
pub complement_apart : (n : ℕ) (p r : List ℕ) → IsPartition n p → IsComplement p r → (s t : ℕ) → Together p s t → Together r s t → s ≡ t
complement_apart n p r lawful complement s t held inner =
    let own : IsPartition (length p) p = IsPartition-of (sym lawful.length) lawful in
    let zero : IsPartition (length p) (zero_of (length p)) = zero_of_is_partition (length p) own.count in
    let label = inside_tells p (zero_of (length p)) r (zero_of_below (length p) p own) zero.length complement s t held inner.2 in
    zero_of_is_zero (length p) s t (omega (arith, held.0, zero.length), omega (arith, held.1, zero.length), label)

-- states in one block of q have the same label inside p
pub inside_same : (p q r : List ℕ) → Le q p → length q ≡ length p → IsInside p q r → (s t : ℕ) → Together q s t → get_or r s 0 ≡ get_or r t 0
inside_same p q r le size inside s t held =
    inside.numbers s (omega (arith, held.0)) ∙ ap (λ (block : ℕ). blocks_below p q block (least_of q s)) (le s t held).2 ∙ ap (blocks_below p q (get_or p t 0)) (least_of-same q s t held.2) ∙ sym (inside.numbers t (omega (arith, held.1)))

-- there is only one list of labels inside a carrier
pub inside_once : (p q r other : List ℕ) → IsInside p q r → IsInside p q other → r ≡ other
inside_once p q r other one two =
    ext_get_or 0 r other (one.lawful.length ∙ sym two.lawful.length) (λ s within. let in_p : s < length p = omega (arith, one.lawful.length) in one.numbers s in_p ∙ sym (two.numbers s in_p))
