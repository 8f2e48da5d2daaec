-- Right sides are the joins of generators, for any relation of members that go together, in the world of partitions and
-- in that of Mm pairs.
use Rattle.std.proofs.Common.{◌≡◌, ℕ, zero, suc, ◌<◌, ◌≤◌, inl, inr, All, Contains, List, [], ◌∷◌, length, map, refl, sym, ◌∙◌, subst, arith}
use Rattle.std.specs.List.{AllByRecursion}
use Rattle.std.proofs.lemmas.Bool.{cases_eq, cases_lt}
use Rattle.hs_lattice.specs.JoinWorld.{IsJoinOf, IsGenerated, HaveJoins}
use Rattle.hs_lattice.specs.Laws.{IsGenerated-has}
use Rattle.partition.specs.NestedBlocks.{least_of}
use Rattle.partition.specs.Laws.Chains.{join_is_least}
use Rattle.partition.specs.Laws.Extremes.{zero_of_below, zero_of_is_partition}
use Rattle.partition.specs.Laws.Labels.{IsPartition-of, same_labels}
use Rattle.partition.specs.Laws.Least.{least_of-le, least_of-same, least_of-together}
use Rattle.partition.specs.Laws.Partners.{Grow, joins_fit_of, least_fits_of, same_right_of}
use Rattle.partition.specs.Laws.World.{join_fits}
use Rattle.partition.specs.MeetAndJoin.{IsJoin}
use Rattle.partition.specs.Partition.{IsPartition, Together, Le, zero_of}
use Rattle.partition.specs.Partners.{IsLeastPairOf, IsLeastWith, IsMmPairOf, IsPairJoinOf, PairBy}
use Rattle.partition.specs.Sides.{Sides}

-- How members go together: in greater partitions too, each with itself, and two with each other that both do with a third.
pub record IsGoing (Going : List ℕ → ℕ → ℕ → Type 0) : Type 0 where
  pub above : (q r : List ℕ) (x y : ℕ) → Le q r → Going q x y → Going r x y
  pub itself : (q r : List ℕ) (x : ℕ) → length q ≡ length r → Going q x x → Going r x x
  pub by_third : (q : List ℕ) (third x y : ℕ) → Going q third x → Going q third y → Going q x y

-- Values that have right sides: that of the least value is zero, and that of a join the join.
pub record HaveRightSides {X : Type 0} (n : ℕ) (right : X → List ℕ) (least : X → Type 0) (joins : X → X → X → Type 0) : Type 0 where
  pub bottom : (x : X) → least x → right x ≡ zero_of n
  pub joined : (x y z : X) → joins x y z → IsJoin (right x) (right y) (right z)

-- the right side of each value is a partition
abbrev AreLawful : {X : Type 0} → ℕ → (X → List ℕ) → List X → Type 0
AreLawful n right xs = AllByRecursion (λ x. IsPartition n (right x)) xs

-- and below another one
abbrev AreBelow : {X : Type 0} → (X → List ℕ) → List ℕ → List X → Type 0
AreBelow right q xs = AllByRecursion (λ x. Le (right x) q) xs

-- what is below one partition is below a greater one
each_below : {X : Type 0} (right : X → List ℕ) (p q : List ℕ) → Le p q → (xs : List X) → AreBelow right p xs → AreBelow right q xs
each_below right p q le [] below = tt
each_below right p q le (x ∷ xs) (one, rest) = ((λ s t held. le s t (one s t held)), each_below right p q le xs rest)

-- the right side of a join is above each of theirs, and below what is above them all
joined_between : {X : Type 0} (n : ℕ) (right : X → List ℕ) (least : X → Type 0) (joins : X → X → X → Type 0) (q : List ℕ) → HaveRightSides n right least joins → IsPartition n q →
    (xs : List X) (y : X) → AreLawful n right xs → AreBelow right q xs → IsJoinOf least joins xs y → IsPartition n (right y) × AreBelow right (right y) xs × Le (right y) q
joined_between n right least joins q world top [] y lawful below is =
    let at : right y ≡ zero_of n = world.bottom y is in
    (subst (IsPartition n) (sym at) (zero_of_is_partition n top.count), tt, subst (λ (r : List ℕ). Le r q) (sym at) (zero_of_below n q top))
joined_between n right least joins q world top (x ∷ xs) y (one, rest) (under, others) (z, of, joined) =
    let so_far = joined_between n right least joins q world top xs z rest others of in
    let is = world.joined x z y joined in
    let above = join_is_least (right x) (right z) (right y) (so_far.0.length ∙ sym one.length) is in (
      join_fits n (right x) (right z) (right y) one is,
      (above.left, each_below right (right z) (right y) above.right xs so_far.1),
      above.least q (IsPartition-of (sym one.length) top) under so_far.2,
    )

-- among the values stands one whose right side is the least partition in which the two members go together
abbrev pub HasGenerator : {X : Type 0} → ℕ → (List ℕ → ℕ → ℕ → Type 0) → (X → List ℕ) → List X → (x y : ℕ) → Type 0
HasGenerator {X} values Going right generators x y = (g : X) × Contains generators g × IsLeastWith values (λ r. Going r x y) (right g)

module _ (members values : ℕ) (Going : List ℕ → ℕ → ℕ → Type 0) (going : IsGoing Going) (X : Type 0) (right : X → List ℕ) (generators : List X)
    (have : (x y : ℕ) → x < y → y < members → HasGenerator values Going right generators x y) (p q : List ℕ) (is : IsMmPairOf members values (PairBy Going) (p, q)) where
  -- Generators below q that send each of the first members where the least one of its block goes.
  record MemberTies (k : ℕ) : Type 0 where
    chosen : List X
    among : AllByRecursion (Contains generators) chosen
    lawful : AllByRecursion (λ g. IsPartition values (right g)) chosen
    below : AllByRecursion (λ g. Le (right g) q) chosen
    tied : (x : ℕ) → x < k → (r : List ℕ) → IsPartition values r → AllByRecursion (λ g. Le (right g) r) chosen → Going r (least_of p x) x

  size : length p ≡ members
  size = is.high.lawful.length

  -- a member goes where it goes itself
  itself : (k : ℕ) → k < length p → (r : List ℕ) → IsPartition values r → Going r k k
  itself k within r lawful = going.itself q r k (is.low.lawful.length ∙ sym lawful.length) (is.low.has k k (within, within, refl))

  ties : (k : ℕ) → k ≤ members → MemberTies k
  ties zero within = record { chosen = []; among = tt; lawful = tt; below = tt; tied = λ x less. absurd (omega arith) }
  ties (suc k) within =
      let so_far = ties k (omega arith) in
      let in_k : k < length p = omega (arith, size) in
      elim (cases_eq (least_of p k) k) [
        | inl least ↦ record {
          chosen = so_far.chosen;
          among = so_far.among;
          lawful = so_far.lawful;
          below = so_far.below;
          tied = λ x less r lawful above. elim (cases_lt x k) [
            | inl before ↦ so_far.tied x before r lawful above
            | inr last ↦
                let at : k ≡ x = omega arith in
                subst (λ (n : ℕ). Going r (least_of p n) n) at (subst (λ (n : ℕ). Going r n k) (sym least) (itself k in_k r lawful))
          ];
        }
        | inr other ↦
            let low : least_of p k < k = omega (arith, least_of-le p k k refl) in
            let found = have (least_of p k) k low (omega arith) in
            let held : Together p (least_of p k) k = least_of-together p k in_k in
            record {
              chosen = found.0 ∷ so_far.chosen;
              among = (found.1, so_far.among);
              lawful = (found.2.lawful, so_far.lawful);
              below = (found.2.least q is.low.lawful (is.low.has (least_of p k) k held), so_far.below);
              tied = λ x less r lawful above. elim (cases_lt x k) [
                | inl before ↦ so_far.tied x before r lawful above.1
                | inr last ↦
                    let at : k ≡ x = omega arith in
                    subst (λ (n : ℕ). Going r (least_of p n) n) at (going.above (right found.0) r (least_of p k) k above.0 found.2.has)
              ];
            }
      ]

  -- where each member goes with the least one of its block, members of one block go together
  tied_pair : (all : MemberTies members) (r : List ℕ) → IsPartition values r → AllByRecursion (λ g. Le (right g) r) all.chosen → PairBy Going p r
  tied_pair all r lawful above x y held =
      let one : Going r (least_of p x) x = all.tied x (omega (arith, held.0, size)) r lawful above in
      let two : Going r (least_of p y) y = all.tied y (omega (arith, held.1, size)) r lawful above in
      going.by_third r (least_of p x) x y one (subst (λ (n : ℕ). Going r n y) (sym (least_of-same p x y held.2)) two)

  -- some value that is generated has the right side of the Mm pair
  pub right_made : (least : X → Type 0) (joins : X → X → X → Type 0) → HaveRightSides values right least joins → HaveJoins least joins generators → (y : X) × IsGenerated least joins generators y × (right y ≡ q)
  right_made least joins world have_joins =
      let all = ties members (omega arith) in
      let join = have_joins all.chosen all.among in
      let y = join.0 in
      let between = joined_between values right least joins q world is.low.lawful all.chosen y all.lawful all.below join.1 in
      let reached : Le q (right y) = is.low.least (right y) between.0 (tied_pair all (right y) between.0 between.1) in
      let same : right y ≡ q = same_labels (right y) q between.0.numbered is.low.lawful.numbered (between.0.length ∙ sym is.low.lawful.length) (λ s t. (between.2 s t, reached s t)) in
      (y, (all.chosen, all.among, join.1), same)

-- an Mm pair is a join of Mm pairs of two members
pub fit_made : (members values : ℕ) (Going : List ℕ → ℕ → ℕ → Type 0) → IsGoing Going → Grow (PairBy Going) → (generators : List Sides) → All (IsMmPairOf members values (PairBy Going)) generators
    → ((x y : ℕ) → x < y → y < members → HasGenerator values Going (λ (z : Sides). z.1) generators x y) → HaveJoins (IsLeastPairOf members values (PairBy Going)) (IsPairJoinOf members (PairBy Going)) generators
    → (z : Sides) → IsMmPairOf members values (PairBy Going) z → IsGenerated (IsLeastPairOf members values (PairBy Going)) (IsPairJoinOf members (PairBy Going)) generators z
fit_made members values Going going grow generators fit have joins z is =
    let least : Sides → Type 0 = IsLeastPairOf members values (PairBy Going) in
    let join : Sides → Sides → Sides → Type 0 = IsPairJoinOf members (PairBy Going) in
    let made = right_made members values Going going Sides (λ (x : Sides). x.1) generators have z.0 z.1 is least join (record { bottom = λ x low. low.zero; joined = λ a b c both. both.joined }) joins in
    let fits : IsMmPairOf members values (PairBy Going) made.0 =
    IsGenerated-has least join (IsMmPairOf members values (PairBy Going)) generators made.0
    (λ x low. least_fits_of members values (PairBy Going) grow x low) (λ a b c one two both. joins_fit_of members values (PairBy Going) grow a b c one two both) fit made.1 in
    subst (IsGenerated least join generators) (same_right_of members values (PairBy Going) grow made.0 z fits.high is.high made.2) made.1

-- zero, as the world of partitions has it
abbrev pub IsZeroOf : ℕ → List ℕ → Type 0
IsZeroOf n q = q ≡ zero_of n

-- the partition is the join of some of the generators, as `join_closure` writes them
abbrev pub IsJoinOfSome : ℕ → List (List ℕ) → List ℕ → Type 0
IsJoinOfSome n generators q = IsGenerated (IsZeroOf n) IsJoin (map (λ r. r) generators) q

-- and each list of them has a join
abbrev pub HaveJoinsOf : ℕ → List (List ℕ) → Type 0
HaveJoinsOf n generators = HaveJoins (IsZeroOf n) IsJoin (map (λ r. r) generators)

-- a right side of an Mm pair is a join of right sides of two members
pub right_generated_by : (members values : ℕ) (Going : List ℕ → ℕ → ℕ → Type 0) → IsGoing Going → (found : List (List ℕ))
    → ((x y : ℕ) → x < y → y < members → HasGenerator values Going (λ (r : List ℕ). r) found x y) → HaveJoins (IsZeroOf values) IsJoin found
    → (x : Sides) → IsMmPairOf members values (PairBy Going) x → IsGenerated (IsZeroOf values) IsJoin found x.1
right_generated_by members values Going going found have joins x is =
    let made = right_made members values Going going (List ℕ) (λ (r : List ℕ). r) found have x.0 x.1 is (IsZeroOf values) IsJoin (record { bottom = λ r is_zero. is_zero; joined = λ a b c both. both }) joins in
    subst (IsGenerated (IsZeroOf values) IsJoin found) made.2 made.1
