-- The greatest closed partition below one, and whether any is nontrivial.
use Rattle.std.proofs.Common.{◌≡◌, ℕ, ◌⊎◌, inl, inr, List, length, sym, ◌∙◌, subst, arith}
use Rattle.std.proofs.lemmas.Bool.{cases_eq}
use Rattle.kiss_file.specs.declared.file.KissFile.{KissFile}
use Rattle.partition.specs.Partition.{IsNontrivial, IsOne, IsPartition, IsZero, Le, Lt, Together, zero_of}
use Rattle.partition.specs.Laws.Labels.{same_labels}
use Rattle.partition.specs.Laws.Chains.{together_itself}
use Rattle.closed_lattice.specs.Limits.{IsGreatestGrown}
use Rattle.serial_split.specs.Kind.{HasNoneNontrivial}
use Rattle.serial_split.specs.Best.{NothingBetween}

-- one is above each partition
pub one_above : (n : ℕ) (one p : List ℕ) → IsPartition n one → IsOne one → IsPartition n p → Le p one
one_above n one p lawful is p_lawful s t held = is s t (omega (arith, held.0, lawful.length, p_lawful.length)) (omega (arith, held.1, lawful.length, p_lawful.length))

pub ones_are_one : (n : ℕ) (one other : List ℕ) → IsPartition n one → IsOne one → IsPartition n other → IsOne other → one ≡ other
ones_are_one n one other lawful is other_lawful other_is =
    same_labels one other lawful.numbered other_lawful.numbered (lawful.length ∙ sym other_lawful.length)
    (λ s t. (one_above n other one other_lawful other_is lawful s t, one_above n one other lawful is other_lawful s t))

-- one is zero where there is one state, and else it is not
pub one_zero_or_not : (n : ℕ) (one : List ℕ) → IsPartition n one → IsOne one → IsZero one ⊎ (IsZero one → ⊥)
one_zero_or_not n one lawful is =
    elim (cases_eq n 1) [
      | inl single ↦ inl (λ s t held. omega (arith, held.0, held.1, lawful.length))
      | inr more ↦ inr (λ zero. absurd (omega (arith, zero 0 1 (is 0 1 (omega (arith, lawful.length, lawful.count.0)) (omega (arith, lawful.length, lawful.count.0))))))
    ]

-- where one is zero, all partitions are
pub none_of_one_state : (F : KissFile) (one : List ℕ) → IsPartition (length F.states) one → IsOne one → IsZero one → HasNoneNontrivial F
none_of_one_state F one lawful is zero p closed nontrivial =
    nontrivial.0 (λ s t held. zero s t (one_above (length F.states) one p lawful is closed.0 s t held))

module _ (F : KissFile) (one next : List ℕ) (lawful : IsPartition (length F.states) one) (is : IsOne one) (greatest : IsGreatestGrown F (λ p. Lt p one) (zero_of (length F.states)) next) where
  -- where the greatest is zero, there is none but one and zero
  pub none_above_zero : IsZero next → HasNoneNontrivial F
  none_above_zero zero p closed nontrivial =
      let below : Le p one = one_above (length F.states) one p lawful is closed.0 in
      let strict : Le one p → ⊥ = λ above. nontrivial.1 (λ s t in_s in_t. above s t (is s t (omega (arith, lawful.length, closed.0.length)) (omega (arith, lawful.length, closed.0.length)))) in
      let up : Le next p = λ s t held. subst (λ (u : ℕ). Together p s u) (zero s t held) (together_itself p s (omega (arith, held.0, greatest.closed.0.length, closed.0.length))) in
      let down = greatest.maximal p closed up (below, strict) in
      nontrivial.0 (λ s t held. zero s t (down s t held))

  pub greatest_nontrivial : (IsZero next → ⊥) → IsNontrivial next
  greatest_nontrivial other = (other, (λ all. greatest.meets.1 (λ s t held. all s t (omega (arith, held.0, lawful.length, greatest.closed.0.length)) (omega (arith, held.1, lawful.length, greatest.closed.0.length)))))

-- no closed partition stands strictly between what grew strictly below top and top
pub nothing_between : (F : KissFile) (top next : List ℕ) → IsGreatestGrown F (λ p. Lt p top) (zero_of (length F.states)) next → NothingBetween F next top
nothing_between F top next greatest q closed above below = above.1 (greatest.maximal q closed above.0 below)
