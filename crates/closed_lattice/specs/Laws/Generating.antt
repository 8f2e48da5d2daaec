-- The closed partitions are the joins of the least closed partitions of pairs of states.
use Rattle.std.proofs.Common.{◌≡◌, ℕ, zero, suc, ◌<◌, ◌≤◌, inl, inr, All, Contains, List, [], ◌∷◌, length, refl, sym, ap, ◌∙◌, subst, arith}
use Rattle.std.specs.List.{AllByRecursion}
use Rattle.std.proofs.lemmas.Bool.{cases_eq, cases_lt}
use Rattle.hs_lattice.specs.JoinWorld.{IsJoinOf, IsGenerated, HaveJoins}
use Rattle.hs_lattice.specs.Laws.{IsJoinOf-has, IsGenerated-has}
use Rattle.kiss_file.specs.declared.file.KissFile.{KissFile}
use Rattle.pair_operators.specs.Laws.Pairs.{joins_pair, zero_pairs}
use Rattle.partition.specs.Partition.{IsPartition, IsStateCount, IsZero, Together, Le, zero_of}
use Rattle.partition.specs.MeetAndJoin.{IsJoin}
use Rattle.partition.specs.NestedBlocks.{least_of}
use Rattle.partition.specs.Laws.Chains.{join_is_least, together_itself, together_turned, together_on}
use Rattle.partition.specs.Laws.Generating.{IsZeroOf}
use Rattle.partition.specs.Laws.Extremes.{zero_of_is_zero, zero_of_is_partition}
use Rattle.partition.specs.Laws.Labels.{same_labels}
use Rattle.partition.specs.Laws.World.{join_fits}
use Rattle.partition.specs.Laws.Least.{least_of-le, least_of-same, least_holds}
use Rattle.closed_lattice.specs.ClosedPartitions.{HasPrincipal, IsClosedPartition, IsPrincipal}
use Rattle.machine_table.specs.NextStates.{NeverLeaves}

-- the joins of lists of partitions of the states
abbrev pub IsMade : KissFile → List (List ℕ) → List ℕ → Type 0
IsMade F generators p = IsGenerated (IsZeroOf (length F.states)) IsJoin generators p

pub zero_closed : (F : KissFile) (p : List ℕ) → NeverLeaves F → IsStateCount (length F.states) → IsZeroOf (length F.states) p → IsClosedPartition F p
zero_closed F p inside count is =
    let lawful : IsPartition (length F.states) p = subst (IsPartition (length F.states)) (sym is) (zero_of_is_partition (length F.states) count) in
    (lawful, zero_pairs F p p inside lawful lawful (subst IsZero (sym is) (zero_of_is_zero (length F.states))))

pub join_closed : (F : KissFile) (p q r : List ℕ) → IsClosedPartition F p → IsClosedPartition F q → IsJoin p q r → IsClosedPartition F r
join_closed F p q r left right is =
    let size : length q ≡ length p = right.0.length ∙ sym left.0.length in
    (join_fits (length F.states) p q r left.0 is, joins_pair F p p q q r r size size left.1 right.1 is is)

-- joins of closed partitions are closed
pub made_closed : (F : KissFile) (generators : List (List ℕ)) (p : List ℕ) → NeverLeaves F → IsStateCount (length F.states) → All (IsClosedPartition F) generators → IsMade F generators p → IsClosedPartition F p
made_closed F generators p inside count closed made =
    IsGenerated-has (IsZeroOf (length F.states)) IsJoin (IsClosedPartition F) generators p (λ q is. zero_closed F q inside count is) (λ a b c left right joined. join_closed F a b c left right joined) closed made

-- what is below one partition is below a greater one
each_le : (p q : List ℕ) → Le p q → (xs : List (List ℕ)) → AllByRecursion (λ x. Le x p) xs → AllByRecursion (λ x. Le x q) xs
each_le p q le [] below = tt
each_le p q le (x ∷ xs) (one, rest) = ((λ s t held. le s t (one s t held)), each_le p q le xs rest)

-- a join of partitions is above each of them
joined_above : (F : KissFile) → IsStateCount (length F.states) → (xs : List (List ℕ)) (p : List ℕ) → AllByRecursion (IsPartition (length F.states)) xs → IsJoinOf (IsZeroOf (length F.states)) IsJoin xs p → IsPartition (length F.states) p × AllByRecursion (λ x. Le x p) xs
joined_above F count [] p lawful is = (subst (IsPartition (length F.states)) (sym is) (zero_of_is_partition (length F.states) count), tt)
joined_above F count (x ∷ xs) p (one, rest) (q, of, joined) =
    let so_far = joined_above F count xs q rest of in
    let above = join_is_least x q p (so_far.0.length ∙ sym one.length) joined in
    (join_fits (length F.states) x q p one joined, (above.left, each_le q p above.right xs so_far.1))

-- Principal partitions below z that tie each of the first states to the least one of its block.
record Ties (F : KissFile) (generators : List (List ℕ)) (z : List ℕ) (k : ℕ) : Type 0 where
  chosen : List (List ℕ)
  among : AllByRecursion (Contains generators) chosen
  lawful : AllByRecursion (IsPartition (length F.states)) chosen
  below : AllByRecursion (λ x. IsPartition (length F.states) x × Le x z) chosen
  tied : (s : ℕ) → s < k → (y : List ℕ) → IsPartition (length F.states) y → AllByRecursion (λ x. Le x y) chosen → Together y (least_of z s) s

module _ (F : KissFile) (generators : List (List ℕ)) (z : List ℕ) (closed : IsClosedPartition F z) (have : (s t : ℕ) → s < t → t < length F.states → Together z s t → HasPrincipal F generators s t) where
  ties : (k : ℕ) → k ≤ length F.states → Ties F generators z k
  ties zero within = record { chosen = []; among = tt; lawful = tt; below = tt; tied = λ s less. absurd (omega arith) }
  ties (suc k) within =
      let so_far = ties k (omega arith) in
      let in_k : k < length z = omega (arith, closed.0.length) in
      elim (cases_eq (least_of z k) k) [
        | inl least ↦ record {
          chosen = so_far.chosen;
          among = so_far.among;
          lawful = so_far.lawful;
          below = so_far.below;
          tied = λ s less y y_lawful above. elim (cases_lt s k) [
            | inl before ↦ so_far.tied s before y y_lawful above
            | inr last ↦
                let at : k ≡ s = omega arith in
                subst (λ (n : ℕ). Together y (least_of z n) n) at (subst (λ (n : ℕ). Together y n k) (sym least) (together_itself y k (omega (arith, y_lawful.length))))
          ];
        }
        | inr other ↦
            let low : least_of z k < k = omega (arith, least_of-le z k k refl) in
            let held : Together z (least_of z k) k = (omega arith, in_k, least_holds z k in_k) in
            let found = have (least_of z k) k low (omega arith) held in
            record {
              chosen = found.0 ∷ so_far.chosen;
              among = (found.1, so_far.among);
              lawful = (found.2.lawful, so_far.lawful);
              below = ((found.2.lawful, found.2.least z closed held), so_far.below);
              tied = λ s less y y_lawful above. elim (cases_lt s k) [
                | inl before ↦ so_far.tied s before y y_lawful above.1
                | inr last ↦ let at : k ≡ s = omega arith in subst (λ (n : ℕ). Together y (least_of z n) n) at (above.0 (least_of z k) k found.2.together)
              ];
            }
      ]

  -- a closed partition is the join of the least closed ones that hold two of its states together
  pub made_by_pairs : IsStateCount (length F.states) → HaveJoins (IsZeroOf (length F.states)) IsJoin generators → IsMade F generators z
  made_by_pairs count joins =
      let all = ties (length F.states) (omega arith) in
      let join = joins all.chosen all.among in
      let y = join.0 in
      let above = joined_above F count all.chosen y all.lawful join.1 in
      let below = IsJoinOf-has (IsZeroOf (length F.states)) IsJoin (λ x. IsPartition (length F.states) x × Le x z)
      (λ x is. (subst (IsPartition (length F.states)) (sym is) (zero_of_is_partition (length F.states) count), zero_le x is))
      (λ a b c left right joined. (join_fits (length F.states) a b c left.0 joined, (join_is_least a b c (right.0.length ∙ sym left.0.length) joined).least z (subst (λ (n : ℕ). IsPartition n z) (sym left.0.length) closed.0) left.1 right.1))
      all.chosen y all.below join.1 in
      let same : y ≡ z = same_labels y z above.0.numbered closed.0.numbered (above.0.length ∙ sym closed.0.length) (λ s t. (
        (λ held. below.1 s t held),
        (λ held. tied_together all above.0 above.1 s t held),
      )) in
      (all.chosen, all.among, subst (IsJoinOf (IsZeroOf (length F.states)) IsJoin all.chosen) same join.1)
    where
      zero_le : (x : List ℕ) → IsZeroOf (length F.states) x → Le x z
      zero_le x is s t held =
          let same : s ≡ t = zero_of_is_zero (length F.states) s t (subst (λ (zero' : List ℕ). Together zero' s t) is held) in
          let size : length x ≡ length F.states = ap length is ∙ (zero_of_is_partition (length F.states) closed.0.count).length in
          subst (λ (k : ℕ). Together z s k) same (together_itself z s (omega (arith, held.0, size, closed.0.length)))

      tied_together : (all : Ties F generators z (length F.states)) {y : List ℕ} → IsPartition (length F.states) y → AllByRecursion (λ x. Le x y) all.chosen → (s t : ℕ) → Together z s t → Together y s t
      tied_together all {y} lawful above s t held =
          let one = all.tied s (omega (arith, held.0, closed.0.length)) y lawful above in
          let two = all.tied t (omega (arith, held.1, closed.0.length)) y lawful above in
          together_on y s (least_of z s) t (together_turned y (least_of z s) s one) (subst (λ (k : ℕ). Together y k t) (sym (least_of-same z s t held.2)) two)

-- a closed partition is the join of least closed ones
pub closed_made : (F : KissFile) (generators : List (List ℕ)) → ((s t : ℕ) → s < t → t < length F.states → HasPrincipal F generators s t) → (z : List ℕ) → IsClosedPartition F z → IsStateCount (length F.states) → HaveJoins (IsZeroOf (length F.states)) IsJoin generators → IsMade F generators z
closed_made F generators have z closed count joins = made_by_pairs F generators z closed (λ s t order below held. have s t order below) count joins

-- there is one least closed partition
pub principals_are_one : (F : KissFile) (s t : ℕ) (p q : List ℕ) → IsPrincipal F s t p → IsPrincipal F s t q → p ≡ q
principals_are_one F s t p q one other =
    same_labels p q one.lawful.numbered other.lawful.numbered (one.lawful.length ∙ sym other.lawful.length)
    (λ u v. (one.least q (other.lawful, other.closed) other.together u v, other.least p (one.lawful, one.closed) one.together u v))

pub states_counted : (F : KissFile) (n : ℕ) → n ≡ length F.states → 0 < n → n ≤ 256 → IsStateCount (length F.states)
states_counted F n size some few = (omega (arith, size, some), omega (arith, size, few))

-- zero is closed
pub zero_of_closed : (F : KissFile) (n : ℕ) → n ≡ length F.states → 0 < n → n ≤ 256 → NeverLeaves F → IsClosedPartition F (zero_of (length F.states))
zero_of_closed F n size some few inside = zero_closed F (zero_of (length F.states)) inside (states_counted F n size some few) refl
