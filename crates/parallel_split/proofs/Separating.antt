-- What is known of a greatest closed partition that holds two states apart.
use Rattle.std.proofs.Common.{ℕ, ◌<◌, List, length, subst, arith}
use Rattle.kiss_file.specs.declared.file.KissFile.{KissFile}
use Rattle.partition.specs.Partition.{IsNontrivial, IsPartition, IsZero, Le, Lt, Together, zero_of}
use Rattle.partition.specs.Laws.Chains.{together_itself}
use Rattle.closed_lattice.specs.ClosedPartitions.{IsClosedPartition}
use Rattle.closed_lattice.specs.Limits.{HoldsApart, IsGreatestGrown}
use Rattle.parallel_split.specs.Kind.{HasNoneInParallel}
use Rattle.parallel_split.specs.Best.{IsNoMeetOfTwo}
use Rattle.parallel_split.specs.Inner.Members.{IsMember}

-- zero is below each partition
below_all : (n : ℕ) (p q : List ℕ) → IsPartition n p → IsPartition n q → IsZero p → Le p q
below_all n p q p_lawful q_lawful zero s t held =
    subst (λ (u : ℕ). Together q s u) (zero s t held) (together_itself q s (omega (arith, held.0, p_lawful.length, q_lawful.length)))

module _ (F : KissFile) (s t : ℕ) (p : List ℕ) (greatest : IsGreatestGrown F (HoldsApart s t) (zero_of (length F.states)) p) where
  -- a closed partition that is above it and not below it holds the two states together
  above_holds : (q : List ℕ) → IsClosedPartition F q → Lt p q → HoldsApart s t q → ⊥
  above_holds q closed above apart = above.1 (greatest.maximal q closed above.0 apart)

  -- so it is not the meet of two of these
  pub no_meet_of_two : IsNoMeetOfTwo F p
  no_meet_of_two one other closed other_closed above other_above meet =
      above_holds one closed above (λ held. above_holds other other_closed other_above (λ other_held. greatest.meets ((meet.together s t).1 (held, other_held))))

  -- where it is zero, each closed partition but zero holds the two states together
  pub zero_alone : s < t → IsZero p → HasNoneInParallel F
  zero_alone order zero one other closed other_closed nontrivial other_nontrivial in_zero =
      holds one closed nontrivial (λ held. holds other other_closed other_nontrivial (λ other_held. absurd (omega (arith, in_zero s t held other_held))))
    where
      holds : (q : List ℕ) → IsClosedPartition F q → IsNontrivial q → HoldsApart s t q → ⊥
      holds q q_closed q_nontrivial apart =
          let down : Le q p = greatest.maximal q q_closed (below_all (length F.states) p q greatest.closed.0 q_closed.0 zero) apart in
          q_nontrivial.0 (λ u v held. zero u v (down u v held))

pub member_nontrivial : (F : KissFile) (p : List ℕ) → IsMember F p → IsNontrivial p
member_nontrivial F p member = (
  member.not_zero,
  (λ one. member.greatest.meets (one member.s member.t (omega (arith, member.order, member.state, member.greatest.closed.0.length)) (omega (arith, member.state, member.greatest.closed.0.length)))),
)

pub member_no_meet : (F : KissFile) (p : List ℕ) → IsMember F p → IsNoMeetOfTwo F p
member_no_meet F p member = no_meet_of_two F member.s member.t p member.greatest
