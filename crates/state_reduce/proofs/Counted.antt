-- A partition below another has at least as many blocks, and as many only where the two are one.
use Rattle.std.proofs.Common.{◌≡◌, ℕ, zero, suc, ◌+◌, ◌<◌, ◌≤◌, max, List, take, get_or, sym, ap, ◌∙◌, subst, inl, inr, arith, add-one}
use Rattle.std.proofs.lemmas.List.{take_all, ext_get_or}
use Rattle.std.proofs.lemmas.Bool.{cases_eq, cases_lt}
use Rattle.partition.specs.Partition.{IsPartition, Le, blocks_of}
use Rattle.partition.specs.Laws.Labels.{block_stands, blocks_of-take-more, label-lt-blocks_of-take}

-- among the first k states p has no more blocks than q, and as many only where the labels are the same
record IsAhead (p q : List ℕ) (k : ℕ) : Type 0 where
  fewer : blocks_of (take k p) ≤ blocks_of (take k q)
  same : blocks_of (take k p) ≡ blocks_of (take k q) → (t : ℕ) → t < k → get_or p t 0 ≡ get_or q t 0

module _ (n : ℕ) (p q : List ℕ) (lawful_p : IsPartition n p) (lawful_q : IsPartition n q) (below : Le q p) where
  agree : (s t : ℕ) → s < n → t < n → get_or q s 0 ≡ get_or q t 0 → get_or p s 0 ≡ get_or p t 0
  agree s t in_s in_t same = (below s t (omega (arith, lawful_q.length), omega (arith, lawful_q.length), same)).2

  grown_p : (k : ℕ) → k < n → blocks_of (take (k + 1) p) ≡ max (blocks_of (take k p)) (get_or p k 0 + 1)
  grown_p k within = blocks_of-take-more p k (omega (arith, lawful_p.length))

  grown_q : (k : ℕ) → k < n → blocks_of (take (k + 1) q) ≡ max (blocks_of (take k q)) (get_or q k 0 + 1)
  grown_q k within = blocks_of-take-more q k (omega (arith, lawful_q.length))

  small_p : (k : ℕ) → k < n → get_or p k 0 ≤ blocks_of (take k p)
  small_p k within = lawful_p.numbered k (omega (arith, lawful_p.length))

  small_q : (k : ℕ) → k < n → get_or q k 0 ≤ blocks_of (take k q)
  small_q k within = lawful_q.numbered k (omega (arith, lawful_q.length))

  -- q's label has stood before, and so has p's
  old_label : (k : ℕ) → k < n → get_or q k 0 < blocks_of (take k q) → (t : ℕ) × (t < k) × (get_or q t 0 ≡ get_or q k 0) × (get_or p t 0 ≡ get_or p k 0) × (get_or p k 0 < blocks_of (take k p))
  old_label k within old =
      let stands = block_stands q lawful_q.numbered k (omega (arith, lawful_q.length)) (get_or q k 0) old in
      let t : ℕ = stands.0 in
      let earlier : t < k = stands.1 in
      let same : get_or p t 0 ≡ get_or p k 0 = agree t k (omega arith) within stands.2 in
      (t, earlier, stands.2, same, omega (arith, same, label-lt-blocks_of-take p t k earlier (omega (arith, lawful_p.length))))

  after_old : (k : ℕ) → k < n → IsAhead p q k → get_or q k 0 < blocks_of (take k q) → IsAhead p q (k + 1)
  after_old k within before old =
      let seen = old_label k within old in
      let p_stays : blocks_of (take (k + 1) p) ≡ blocks_of (take k p) = omega (arith, grown_p k within, seen.4) in
      let q_stays : blocks_of (take (k + 1) q) ≡ blocks_of (take k q) = omega (arith, grown_q k within) in
      record {
        fewer = omega (arith, before.fewer, p_stays, q_stays);
        same = λ equal t inside. let equal_before : blocks_of (take k p) ≡ blocks_of (take k q) = sym p_stays ∙ equal ∙ q_stays in
            elim (cases_eq t k) [
              | inl at ↦ ap (λ (u : ℕ). get_or p u 0) at ∙ sym seen.3 ∙ before.same equal_before seen.0 seen.1 ∙ seen.2 ∙ sym (ap (λ (u : ℕ). get_or q u 0) at)
              | inr other ↦ before.same equal_before t (omega arith)
            ];
      }

  after_new : (k : ℕ) → k < n → IsAhead p q k → get_or q k 0 ≡ blocks_of (take k q) → IsAhead p q (k + 1)
  after_new k within before new =
      let q_grows : blocks_of (take (k + 1) q) ≡ blocks_of (take k q) + 1 = omega (arith, grown_q k within, new) in
      record {
        fewer = omega (arith, before.fewer, grown_p k within, small_p k within, q_grows);
        same = λ equal t inside.
            let fewer : blocks_of (take k p) ≤ blocks_of (take k q) = before.fewer in
            let equal_before : blocks_of (take k p) ≡ blocks_of (take k q) = omega (arith, equal, grown_p k within, small_p k within, q_grows) in
            let here : get_or p k 0 ≡ get_or q k 0 = omega (arith, equal, equal_before, grown_p k within, small_p k within, q_grows, new) in
            elim (cases_eq t k) [
              | inl at ↦ ap (λ (u : ℕ). get_or p u 0) at ∙ here ∙ sym (ap (λ (u : ℕ). get_or q u 0) at)
              | inr other ↦ before.same equal_before t (omega arith)
            ];
      }

  ahead : (k : ℕ) → k ≤ n → IsAhead p q k
  ahead zero within = record { fewer = omega arith; same = λ equal t inside. absurd (omega arith) }
  ahead (suc k) within =
      let before = ahead k (omega arith) in
      subst (λ (j : ℕ). IsAhead p q j) (add-one k) (elim (cases_lt (get_or q k 0) (blocks_of (take k q))) [
        | inl old ↦ after_old k (omega arith) before old
        | inr high ↦ after_new k (omega arith) before (omega (arith, small_q k (omega arith)))
      ])

  whole_p : take n p ≡ p
  whole_p = take_all n p (omega (arith, lawful_p.length))

  whole_q : take n q ≡ q
  whole_q = take_all n q (omega (arith, lawful_q.length))

  pub fewer_blocks : blocks_of p ≤ blocks_of q
  fewer_blocks = omega (arith, (ahead n (omega arith)).fewer, ap blocks_of whole_p, ap blocks_of whole_q)

  pub same_from_blocks : blocks_of q ≡ blocks_of p → q ≡ p
  same_from_blocks equal =
      ext_get_or 0 q p (lawful_q.length ∙ sym lawful_p.length)
      (λ t inside. sym ((ahead n (omega arith)).same (ap blocks_of whole_p ∙ sym equal ∙ sym (ap blocks_of whole_q)) t (omega (arith, lawful_q.length))))
