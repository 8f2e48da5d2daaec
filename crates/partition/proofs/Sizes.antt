-- The complement of a partition: how its labels count the states of a block.
use Rattle.std.proofs.Common.{◌≡◌, ℕ, zero, suc, ◌+◌, ◌-◌, ◌<◌, ◌≤◌, ◌==◌, Bool, cond, max, List, length, get_or, take, refl, sym, ap, ◌∙◌, subst, inl, inr, arith, add-one, add-zero}
use Rattle.std.proofs.lemmas.Bool.{cases_eq, eq-eqb, ne_eqb}
use Rattle.std.proofs.lemmas.List.{take_all}
use Rattle.std.proofs.lemmas.List.Sums.{count_by_more_yes, count_by_more_no}
use Rattle.partition.specs.Partition.{blocks_of, IsPartition, IsZero, zero_of}
use Rattle.partition.specs.NestedBlocks.{least_of, blocks_below, size_of, IsInside, IsComplement, IsLargestSize}
use Rattle.partition.specs.Laws.Labels.{blocks_of-take-more, label-lt-blocks_of, block_stands}
use Rattle.partition.specs.Laws.Extremes.{zero_of_is_partition, zero_of_is_zero, zero_once}
use Rattle.partition.specs.Laws.Least.{least_of-first}
use Rattle.partition.proofs.Nesting.{blocks_below-least}

pub inside_zero_is_complement : (p zero' r : List ℕ) → IsPartition (length p) zero' → IsZero zero' → IsInside p zero' r → IsComplement p r
inside_zero_is_complement p zero' r lawful is inside =
    subst (λ (z : List ℕ). IsInside p z r) (zero_once (length p) zero' (zero_of (length p)) lawful (zero_of_is_partition (length p) lawful.count) is (zero_of_is_zero (length p))) inside

-- in zero each state is its own least
zero_least : (n : ℕ) (zero' : List ℕ) → IsPartition n zero' → IsZero zero' → (s : ℕ) → s < n → least_of zero' s ≡ s
zero_least n zero' lawful is s within = least_of-first zero' s (omega (arith, lawful.length)) (λ t below same. let at : t ≡ s = is t s (omega (arith, lawful.length), omega (arith, lawful.length), same) in absurd (omega arith))

-- of the first k states so many are in a block
abbrev size_so_far : List ℕ → ℕ → ℕ → ℕ
size_so_far p block k = size_of (take k p) block

size_more : (p : List ℕ) (block k : ℕ) → k < length p → size_so_far p block (k + 1) ≡ size_so_far p block k + cond (get_or p k 0 == block) 1 0
size_more p block k within =
    elim (cases_eq (get_or p k 0) block) [
      | inl here ↦ count_by_more_yes (λ label. label == block) p k 0 within (eq-eqb (get_or p k 0) block here) ∙ ap (λ (b : Bool). size_so_far p block k + cond b 1 0) (sym (eq-eqb (get_or p k 0) block here))
      | inr other ↦ count_by_more_no (λ label. label == block) p k 0 within (ne_eqb (get_or p k 0) block other) ∙ omega arith ∙ ap (λ (b : Bool). size_so_far p block k + cond b 1 0) (sym (ne_eqb (get_or p k 0) block other))
    ]

-- blocks of zero are states
blocks_below-zero : (p zero' : List ℕ) (block : ℕ) → IsPartition (length p) zero' → IsZero zero' → (k : ℕ) → k ≤ length p → blocks_below p zero' block k ≡ size_so_far p block k
blocks_below-zero p zero' block lawful is zero within = refl
blocks_below-zero p zero' block lawful is (suc k) within =
    subst (λ (n : ℕ). blocks_below p zero' block n ≡ size_so_far p block n) (add-one k) (blocks_below-least p zero' block k (zero_least (length p) zero' lawful is k (omega arith)) ∙ ap (λ (n : ℕ). n + cond (get_or p k 0 == block) 1 0) (blocks_below-zero p zero' block lawful is k (omega arith)) ∙ sym (size_more p block k (omega arith)))

-- the label of a state counts the states before it in its block
label_counts : (p zero' r : List ℕ) → IsPartition (length p) zero' → IsZero zero' → IsInside p zero' r → (s : ℕ) → s < length p → get_or r s 0 ≡ size_so_far p (get_or p s 0) s
label_counts p zero' r lawful is inside s within =
    inside.numbers s within ∙ ap (blocks_below p zero' (get_or p s 0)) (zero_least (length p) zero' lawful is s within) ∙ blocks_below-zero p zero' (get_or p s 0) lawful is s (omega arith)

-- no block has more states than there are labels
sizes_below : (p r : List ℕ) (block : ℕ) → length r ≡ length p → ((s : ℕ) → s < length p → get_or r s 0 ≡ size_so_far p (get_or p s 0) s) → (k : ℕ) → k ≤ length p → size_so_far p block k ≤ blocks_of (take k r)
sizes_below p r block size counts zero within = omega arith
sizes_below p r block size counts (suc k) within =
    let more : size_so_far p block (k + 1) ≡ size_so_far p block k + cond (get_or p k 0 == block) 1 0 = size_more p block k (omega arith) in
    let labels : blocks_of (take (k + 1) r) ≡ max (blocks_of (take k r)) (get_or r k 0 + 1) = blocks_of-take-more r k (omega arith) in
    let before : size_so_far p block k ≤ blocks_of (take k r) = sizes_below p r block size counts k (omega arith) in
    subst (λ (n : ℕ). size_so_far p block n ≤ blocks_of (take n r)) (add-one k) (elim (cases_eq (get_or p k 0) block) [
      | inl here ↦ omega (arith, counts k (omega arith), ap (λ (b : ℕ). size_so_far p b k) here, ap (λ (b : Bool). size_so_far p block k + cond b 1 0) (eq-eqb (get_or p k 0) block here))
      | inr other ↦ omega (arith, ap (λ (b : Bool). size_so_far p block k + cond b 1 0) (ne_eqb (get_or p k 0) block other))
    ])

-- later states only add
size_grows : (p : List ℕ) (block k j : ℕ) → k + j ≤ length p → size_so_far p block k ≤ size_so_far p block (k + j)
size_grows p block k zero within = omega (arith, ap (size_so_far p block) (add-zero k))
size_grows p block k (suc j) within =
    let more : size_so_far p block (k + j + 1) ≡ size_so_far p block (k + j) + cond (get_or p (k + j) 0 == block) 1 0 = size_more p block (k + j) (omega arith) in
    let same : k + j + 1 ≡ k + suc j = omega arith in
    omega (arith, size_grows p block k j (omega arith), ap (size_so_far p block) same)

-- the block of a state with the greatest label is a largest one
largest_at : (p r : List ℕ) (s : ℕ) → length r ≡ length p → ((t : ℕ) → t < length p → get_or r t 0 ≡ size_so_far p (get_or p t 0) t) → s < length p → get_or r s 0 + 1 ≡ blocks_of r → IsLargestSize p (blocks_of r)
largest_at p r s size counts within greatest = record {
  block = get_or p s 0;
  reached = omega (arith, below (get_or p s 0), counts s within, more, whole (get_or p s 0), size_grows p (get_or p s 0) (s + 1) (length p - (s + 1)) (omega arith), ap (size_so_far p (get_or p s 0)) rest);
  largest = below;
}
  where
    below : (block : ℕ) → size_of p block ≤ blocks_of r
    below block = subst (λ (ps : List ℕ). size_of ps block ≤ blocks_of r) (take_all (length p) p (omega arith)) (subst (λ (rs : List ℕ). size_so_far p block (length p) ≤ blocks_of rs) (take_all (length p) r (omega arith)) (sizes_below p r block size counts (length p) (omega arith)))

    whole : (block : ℕ) → size_so_far p block (length p) ≡ size_of p block
    whole block = ap (λ (ps : List ℕ). size_of ps block) (take_all (length p) p (omega arith))

    more : size_so_far p (get_or p s 0) (s + 1) ≡ size_so_far p (get_or p s 0) s + 1
    more = size_more p (get_or p s 0) s within ∙ ap (λ (b : Bool). size_so_far p (get_or p s 0) s + cond b 1 0) (eq-eqb (get_or p s 0) (get_or p s 0) refl)

    rest : s + 1 + (length p - (s + 1)) ≡ length p
    rest = omega arith

-- the complement has as many blocks as the largest block has states
pub complement_counts : (p zero' r : List ℕ) → IsPartition (length p) p → IsPartition (length p) zero' → IsZero zero' → IsInside p zero' r → IsLargestSize p (blocks_of r)
complement_counts p zero' r lawful zero_lawful is inside =
    let size : length r ≡ length p = inside.lawful.length in
    let counts : (s : ℕ) → s < length p → get_or r s 0 ≡ size_so_far p (get_or p s 0) s = label_counts p zero' r zero_lawful is inside in
    let some : 0 < blocks_of r = omega (arith, label-lt-blocks_of r 0 (omega (arith, size, lawful.count.0))) in
    let last = block_stands r inside.lawful.numbered (length r) (omega arith) (blocks_of r - 1) (omega (arith, ap blocks_of (take_all (length r) r (omega arith)))) in
    largest_at p r last.0 size counts (omega (arith, last.1)) (omega (arith, last.2, some))
