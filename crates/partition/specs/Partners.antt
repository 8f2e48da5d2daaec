-- Least and greatest partners, and Mm pairs, for any relation of partitions on the left and on the right
-- (source: Hartmanis and Stearns, the operators m and M). The sides may have different numbers of members.
use Rattle.std.specs.Prelude.{◌≡◌, ℕ, List}
use Rattle.partition.specs.Partition.{IsPartition, Le, Together, zero_of}
use Rattle.partition.specs.MeetAndJoin.{IsJoin}
use Rattle.partition.specs.Sides.{Sides}

-- q is the least partition of the given number of members for which P holds
pub record IsLeastWith (members : ℕ) (P : List ℕ → Type 0) (q : List ℕ) : Type 0 where
  pub lawful : IsPartition members q
  pub has : P q
  pub least : (other : List ℕ) → IsPartition members other → P other → Le q other

-- p is the greatest partition of the given number of members for which P holds
pub record IsGreatestWith (members : ℕ) (P : List ℕ → Type 0) (p : List ℕ) : Type 0 where
  pub lawful : IsPartition members p
  pub has : P p
  pub greatest : (other : List ℕ) → IsPartition members other → P other → Le other p

-- the right side is the least that the left side makes a pair with, and the left side the greatest that makes a
-- pair with the right side
pub record IsMmPairOf (left right : ℕ) (Pairs : List ℕ → List ℕ → Type 0) (x : Sides) : Type 0 where
  pub low : IsLeastWith right (Pairs x.0) x.1
  pub high : IsGreatestWith left (λ p. Pairs p x.1) x.0

-- the right side is zero, and the left side its greatest partner
pub record IsLeastPairOf (left right : ℕ) (Pairs : List ℕ → List ℕ → Type 0) (x : Sides) : Type 0 where
  pub lawful : IsPartition right x.1
  pub zero : x.1 ≡ zero_of right
  pub high : IsGreatestWith left (λ p. Pairs p x.1) x.0

-- the right side is the join of the right sides, and the left side the greatest partner of that join
pub record IsPairJoinOf (left : ℕ) (Pairs : List ℕ → List ℕ → Type 0) (x y z : Sides) : Type 0 where
  pub joined : IsJoin x.1 y.1 z.1
  pub high : IsGreatestWith left (λ p. Pairs p z.1) z.0

-- members that are together in p go together in q
abbrev pub PairBy : (List ℕ → ℕ → ℕ → Type 0) → List ℕ → List ℕ → Type 0
PairBy Going p q = (x y : ℕ) → Together p x y → Going q x y
