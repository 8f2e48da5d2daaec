-- Zero, one, and the partitions that hold two states together.
use Rattle.std.proofs.Common.{◌≡◌, ℕ, zero, suc, subst, add-one, ◌+◌, ◌<◌, ◌⊎◌, List, [], ◌∷◌, ◌++◌, length, get_or, replicate, refl, sym, ap, ◌∙◌, inl, inr, arith}
use Rattle.std.proofs.lemmas.List.{ext_get_or, length_push, get_or_append_left, get_or_push, get_or-replicate, length-replicate}
use Rattle.std.proofs.lemmas.List.Recursion.{max_least}
use Rattle.std.proofs.lemmas.Bool.{cases_eq}
use Rattle.partition.specs.Partition.{blocks_of, IsNumbered, IsPartition, IsStateCount, Le, SameTogether, Together, IsZero, IsOne, IsHold, one_of, zero_of}
use Rattle.partition.specs.Laws.Labels.{same_labels, blocks_of-push, label-lt-blocks_of, IsNumbered-none, IsNumbered-push}

-- the labels are the numbers below s, in order
pub record IsCount (labels : List ℕ) (s : ℕ) : Type 0 where
  pub size : length labels ≡ s
  pub numbered : IsNumbered labels
  pub blocks : blocks_of labels ≡ s
  pub own : (k : ℕ) → k < s → get_or labels k 0 ≡ k

pub count_none : IsCount [] 0
count_none = record { size = refl; numbered = IsNumbered-none; blocks = refl; own = λ k within. absurd (omega arith) }

pub count_push : (labels : List ℕ) (s : ℕ) → IsCount labels s → IsCount (labels ++ s ∷ []) (s + 1)
count_push labels s so_far = record {
  size = omega (arith, length_push labels s, so_far.size);
  numbered = IsNumbered-push labels s so_far.numbered (omega (arith, so_far.blocks));
  blocks = omega (arith, blocks_of-push labels s, so_far.blocks);
  own = λ k within. elim (cases_eq k s) [
    | inl at ↦ get_or_push labels s 0 k (so_far.size ∙ sym at) ∙ sym at
    | inr other ↦ get_or_append_left labels (s ∷ []) 0 k (omega (arith, so_far.size)) ∙ so_far.own k (omega arith)
  ];
}

pub count_is_zero : (labels : List ℕ) (s : ℕ) → IsCount labels s → IsZero labels
count_is_zero labels s all a b held =
    sym (all.own a (omega (arith, held.0, all.size))) ∙ held.2 ∙ all.own b (omega (arith, held.1, all.size))

pub one_of_is_partition : (n : ℕ) → IsStateCount n → IsPartition n (one_of n)
one_of_is_partition n count = record {
  count = count;
  length = length-replicate {A = ℕ} n 0;
  numbered = λ s within. omega (arith, get_or-replicate {A = ℕ} n s 0 0 (omega (arith, length-replicate {A = ℕ} n 0)));
}

pub blocks_of-one_of : (n : ℕ) → 0 < n → blocks_of (one_of n) ≡ 1
blocks_of-one_of n some =
    let size : length (replicate n 0) ≡ n = length-replicate {A = ℕ} n 0 in
    omega (arith, label-lt-blocks_of (replicate n 0) 0 (omega arith), max_least blocks_of (λ label. label + 1) refl (λ _ _. refl) (replicate n 0) 0 1 (λ i within. omega (arith, get_or-replicate {A = ℕ} n i 0 0 (omega arith))))

pub one_of_is_one : (n : ℕ) → IsOne (one_of n)
one_of_is_one n s t in_s in_t =
    (in_s, in_t, get_or-replicate {A = ℕ} n s 0 0 (omega (arith, length-replicate {A = ℕ} n 0)) ∙ sym (get_or-replicate {A = ℕ} n t 0 0 (omega (arith, length-replicate {A = ℕ} n 0))))

-- there is only one partition that has all states together
pub one_once : (n : ℕ) (p : List ℕ) → IsPartition n p → IsOne p → p ≡ one_of n
one_once n p lawful is =
    let one : IsPartition n (one_of n) = one_of_is_partition n lawful.count in
    same_labels p (one_of n) lawful.numbered one.numbered (lawful.length ∙ sym one.length) (λ s t. (
      (λ held. one_of_is_one n s t (omega (arith, held.0, lawful.length, one.length)) (omega (arith, held.1, lawful.length, one.length))),
      (λ held. is s t (omega (arith, held.0, lawful.length, one.length)) (omega (arith, held.1, lawful.length, one.length))),
    ))

-- there is only one partition that has no states together
pub zero_once : (n : ℕ) (p q : List ℕ) → IsPartition n p → IsPartition n q → IsZero p → IsZero q → p ≡ q
zero_once n p q left right p_zero q_zero =
    same_labels p q left.numbered right.numbered (omega (arith, left.length, right.length)) (λ s t. (
      (λ held. (omega (arith, held.0, left.length, right.length), omega (arith, held.1, left.length, right.length), ap (λ (u : ℕ). get_or q u 0) (p_zero s t held))),
      (λ held. (omega (arith, held.0, left.length, right.length), omega (arith, held.1, left.length, right.length), ap (λ (u : ℕ). get_or p u 0) (q_zero s t held))),
    ))

-- the value of each state is its own number, except that the value of t is s
pub record IsHolding (s t : ℕ) (values : List ℕ) : Type 0 where
  pub merged : t < length values → get_or values t 0 ≡ s
  pub own : (u : ℕ) → u < length values → (u ≡ t → ⊥) → get_or values u 0 ≡ u

pub holding_none : (s t : ℕ) → IsHolding s t []
holding_none s t = record { merged = λ within. absurd (omega arith); own = λ u within. absurd (omega arith) }

pub holding_is_hold : (n s t : ℕ) (values p : List ℕ) → s < n → t < n → length values ≡ n → IsHolding s t values → IsPartition n p → SameTogether values p → IsHold n s t p
holding_is_hold n s t values p in_s in_t size all lawful same = record {
  lawful = lawful;
  held = (same s t).0 (omega arith, omega arith, merge (cases_eq s t));
  nothing_else = λ u v held. let was = (same u v).1 held in by_cases u v was.0 was.1 was.2 (cases_eq u t) (cases_eq v t);
}
  where
    value_t : get_or values t 0 ≡ s
    value_t = all.merged (omega arith)

    merge : (s ≡ t) ⊎ (s ≡ t → ⊥) → get_or values s 0 ≡ get_or values t 0
    merge (inl at) = ap (λ (u : ℕ). get_or values u 0) at
    merge (inr other) = all.own s (omega arith) other ∙ sym value_t

    by_cases : (u v : ℕ) → u < length values → v < length values → get_or values u 0 ≡ get_or values v 0 → (u ≡ t) ⊎ (u ≡ t → ⊥) → (v ≡ t) ⊎ (v ≡ t → ⊥) → (u ≡ v) ⊎ (((u ≡ s) × (v ≡ t)) ⊎ ((u ≡ t) × (v ≡ s)))
    by_cases u v in_u in_v equal (inl u_t) (inl v_t) = inl (u_t ∙ sym v_t)
    by_cases u v in_u in_v equal (inl u_t) (inr v_other) = inr (inr (u_t, sym (all.own v in_v v_other) ∙ sym equal ∙ ap (λ (w : ℕ). get_or values w 0) u_t ∙ value_t))
    by_cases u v in_u in_v equal (inr u_other) (inl v_t) = inr (inl (sym (all.own u in_u u_other) ∙ equal ∙ ap (λ (w : ℕ). get_or values w 0) v_t ∙ value_t, v_t))
    by_cases u v in_u in_v equal (inr u_other) (inr v_other) = inl (sym (all.own u in_u u_other) ∙ equal ∙ all.own v in_v v_other)

zero_count : (n : ℕ) → IsCount (zero_of n) n
zero_count zero = count_none
zero_count (suc n) = subst (λ (k : ℕ). IsCount (zero_of n ++ n ∷ []) k) (add-one n) (count_push (zero_of n) n (zero_count n))

pub zero_of_is_zero : (n : ℕ) → IsZero (zero_of n)
zero_of_is_zero n = count_is_zero (zero_of n) n (zero_count n)

pub zero_of_is_partition : (n : ℕ) → IsStateCount n → IsPartition n (zero_of n)
zero_of_is_partition n states = record { count = states; length = (zero_count n).size; numbered = (zero_count n).numbered }

-- zero is below each partition
pub zero_of_below : (n : ℕ) (p : List ℕ) → IsPartition n p → Le (zero_of n) p
zero_of_below n p lawful s t held =
    let within : s < length p = omega (arith, held.0, (zero_count n).size, lawful.length) in
    subst (λ (u : ℕ). Together p s u) (zero_of_is_zero n s t held) (within, within, refl)

-- there is only one such list
pub count_once : (xs ys : List ℕ) (n : ℕ) → IsCount xs n → IsCount ys n → xs ≡ ys
count_once xs ys n one two =
    ext_get_or 0 xs ys (omega (arith, one.size, two.size)) (λ k within. one.own k (omega (arith, one.size)) ∙ sym (two.own k (omega (arith, one.size))))

pub count_is_zero_of : (labels : List ℕ) (n : ℕ) → IsCount labels n → labels ≡ zero_of n
count_is_zero_of labels n all = count_once labels (zero_of n) n all (zero_count n)
