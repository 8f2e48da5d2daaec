-- Numbers of blocks: of zero, which has as many as states, and of partitions strictly above others.
use Rattle.std.proofs.Common.{◌≡◌, ℕ, zero, suc, ◌+◌, ◌-◌, ◌<◌, ◌≤◌, inl, inr, List, length, get_or, take, refl, sym, ap, ◌∙◌, subst, arith}
use Rattle.std.proofs.lemmas.List.{take_all}
use Rattle.std.proofs.lemmas.Bool.{cases_eq, cases_lt}
use Rattle.partition.specs.Partition.{blocks_of, IsNumbered, IsPartition, IsZero, Together, Le, zero_of}
use Rattle.partition.specs.NestedBlocks.{least_of}
use Rattle.partition.specs.Laws.Extremes.{zero_of_below, zero_of_is_zero, zero_of_is_partition}
use Rattle.partition.specs.Laws.Labels.{blocks_of-take-more, blocks_of-take-suc, label-lt-blocks_of-take, block_stands, new_label}
use Rattle.partition.specs.Laws.Least.{least_holds, least_of-le}

module _ (p r : List ℕ) (p_numbered : IsNumbered p) (r_numbered : IsNumbered r) (size : length r ≡ length p) (le : Le p r) where
  -- a state that begins a block of r begins one of p
  step : (k : ℕ) → k < length p → blocks_of (take (k + 1) r) + blocks_of (take k p) ≤ blocks_of (take (k + 1) p) + blocks_of (take k r)
  step k within =
      let more_p = blocks_of-take-more p k within in
      let more_r = blocks_of-take-more r k (omega (arith, size)) in
      elim (cases_lt (get_or r k 0) (blocks_of (take k r))) [
        | inl old ↦ omega (arith, more_p, more_r)
        | inr new ↦
            let begins : get_or p k 0 ≡ blocks_of (take k p) = new_label p p_numbered k within (λ t below same.
            let held = le t k (omega arith, within, same) in
            absurd (omega (arith, held.2, label-lt-blocks_of-take r t k below (omega (arith, size))))) in
            omega (arith, more_p, more_r, r_numbered k (omega (arith, size)), begins)
      ]

  along : (k j : ℕ) → k + j ≤ length p → blocks_of (take (k + j) r) + blocks_of (take k p) ≤ blocks_of (take (k + j) p) + blocks_of (take k r)
  along k zero within = let at : k + 0 ≡ k = omega arith in subst (λ (n : ℕ). blocks_of (take n r) + blocks_of (take k p) ≤ blocks_of (take n p) + blocks_of (take k r)) (sym at) (omega arith)
  along k (suc j) within =
      let at : k + j + 1 ≡ k + suc j = omega arith in
      subst (λ (n : ℕ). blocks_of (take n r) + blocks_of (take k p) ≤ blocks_of (take n p) + blocks_of (take k r)) at (omega (arith, step (k + j) (omega arith), along k j (omega arith)))

  -- up to each place r has no more blocks than p
  no_more : (k : ℕ) → k ≤ length p → blocks_of (take k r) ≤ blocks_of (take k p)
  no_more k within = let at : 0 + k ≡ k = omega arith in omega (arith, subst (λ (n : ℕ). blocks_of (take n r) + blocks_of (take 0 p) ≤ blocks_of (take n p) + blocks_of (take 0 r)) at (along 0 k (omega arith)))

  -- where it has fewer up to some place, it has fewer
  fewer_from : (k : ℕ) → k ≤ length p → blocks_of (take k r) < blocks_of (take k p) → blocks_of r < blocks_of p
  fewer_from k within fewer =
      let rest = along k (length p - k) (omega arith) in
      let at : k + (length p - k) ≡ length p = omega arith in
      let all_p : take (k + (length p - k)) p ≡ p = ap (λ (n : ℕ). take n p) at ∙ take_all (length p) p (omega arith) in
      let all_r : take (k + (length p - k)) r ≡ r = ap (λ (n : ℕ). take n r) at ∙ take_all (length p) r (omega (arith, size)) in
      omega (arith, rest, ap blocks_of all_p, ap blocks_of all_r)

  -- two states that r puts together, the one in the block of the lesser label of p
  fewer_between : (s t : ℕ) → s < length p → t < length p → get_or p s 0 < get_or p t 0 → Together r s t → blocks_of r < blocks_of p
  fewer_between s t in_s in_t order held =
      let k = least_of p t in
      let k_le : k ≤ t = least_of-le p t t refl in
      let here : get_or p k 0 ≡ get_or p t 0 = least_holds p t in_t in
      let begins : get_or p k 0 ≡ blocks_of (take k p) = new_label p p_numbered k (omega arith) (λ j below same. absurd (omega (arith, least_of-le p t j (same ∙ here)))) in
      let earlier = block_stands p p_numbered k (omega arith) (get_or p s 0) (omega arith) in
      let j = earlier.0 in
      let below : j < k = earlier.1 in
      let one = le j s (omega arith, in_s, earlier.2) in
      let two = le k t (omega arith, in_t, here) in
      let same : get_or r j 0 ≡ get_or r k 0 = one.2 ∙ held.2 ∙ sym two.2 in
      let old : get_or r j 0 < blocks_of (take k r) = label-lt-blocks_of-take r j k below (omega (arith, size)) in
      let more_p = blocks_of-take-more p k (omega arith) in
      let more_r = blocks_of-take-more r k (omega (arith, size)) in
      fewer_from (k + 1) (omega arith) (omega (arith, no_more k (omega arith), more_p, more_r))

  -- a partition above p that puts two states together which p holds apart has fewer blocks
  pub fewer_blocks : (s t : ℕ) → s < length p → t < length p → (Together p s t → ⊥) → Together r s t → blocks_of r < blocks_of p
  fewer_blocks s t in_s in_t apart held =
      elim (cases_lt (get_or p s 0) (get_or p t 0)) [
        | inl less ↦ fewer_between s t in_s in_t less held
        | inr more ↦ elim (cases_eq (get_or p s 0) (get_or p t 0)) [
          | inl same ↦ absurd (apart (in_s, in_t, same))
          | inr other ↦ fewer_between t s in_t in_s (omega arith) (held.1, held.0, sym held.2)
        ]
      ]

-- where no two states are together, each begins a block
first_blocks : (p : List ℕ) (n : ℕ) → IsPartition n p → IsZero p → (k : ℕ) → k ≤ length p → blocks_of (take k p) ≡ k
first_blocks p n lawful none zero within = omega arith
first_blocks p n lawful none (suc k) within =
    let so_far : blocks_of (take k p) ≡ k = first_blocks p n lawful none k (omega arith) in
    let begins = new_label p lawful.numbered k (omega arith) (λ t below same. absurd (omega (arith, none t k (omega arith, omega arith, same)))) in
    omega (arith, so_far, begins, blocks_of-take-suc p k (omega arith))

pub zero_blocks : (n : ℕ) (p : List ℕ) → IsPartition n p → IsZero p → blocks_of p ≡ n
zero_blocks n p lawful none =
    ap blocks_of (sym (take_all (length p) p (omega arith))) ∙ first_blocks p n lawful none (length p) (omega arith) ∙ lawful.length

pub zero_by_blocks : (n : ℕ) (p : List ℕ) → IsPartition n p → blocks_of p ≡ n → IsZero p
zero_by_blocks n p lawful all s t held =
    let least : IsPartition n (zero_of n) = zero_of_is_partition n lawful.count in
    elim (cases_eq s t) [
      | inl same ↦ same
      | inr other ↦
          let fewer = fewer_blocks (zero_of n) p least.numbered lawful.numbered (lawful.length ∙ sym least.length) (zero_of_below n p lawful) s t
          (omega (arith, held.0, lawful.length, least.length)) (omega (arith, held.1, lawful.length, least.length)) (λ together. other (zero_of_is_zero n s t together)) held in
          absurd (omega (arith, fewer, all, zero_blocks n (zero_of n) least (zero_of_is_zero n)))
    ]

-- a partition above p with no fewer blocks is no greater
pub above_by_blocks : (n : ℕ) (p r : List ℕ) → IsPartition n p → IsPartition n r → Le p r → blocks_of p ≤ blocks_of r → Le r p
above_by_blocks n p r lawful above le no_fewer s t held =
    let in_s : s < length p = omega (arith, held.0, above.length, lawful.length) in
    let in_t : t < length p = omega (arith, held.1, above.length, lawful.length) in
    elim (cases_eq (get_or p s 0) (get_or p t 0)) [
      | inl same ↦ (in_s, in_t, same)
      | inr other ↦
          let fewer = fewer_blocks p r lawful.numbered above.numbered (above.length ∙ sym lawful.length) le s t in_s in_t (λ together. other together.2) held in
          absurd (omega arith)
    ]

-- a partition strictly above p has fewer blocks
pub strictly_fewer : (n : ℕ) (p r : List ℕ) → IsPartition n p → IsPartition n r → Le p r → (Le r p → ⊥) → blocks_of r < blocks_of p
strictly_fewer n p r lawful above le strict =
    elim (cases_lt (blocks_of r) (blocks_of p)) [
      | inl fewer ↦ fewer
      | inr not_fewer ↦ absurd (strict (above_by_blocks n p r lawful above le (omega arith)))
    ]
