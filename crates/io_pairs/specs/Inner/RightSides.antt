-- Least partitions in which two members go together, their joins, and lists of right sides without and with
-- their left sides.
use Rattle.std.specs.Prelude.{◌≡◌, ℕ, ◌<◌, All, AllPairs, Contains, List, map}
use Rattle.partition.specs.Order.{Before}
use Rattle.partition.specs.Partition.{IsPartition, Le}
use Rattle.io_pairs.specs.Inner.Families.{FamilyPair, Go, IsParted}
use Rattle.partition.specs.Partners.{IsLeastWith, IsMmPairOf}
use Rattle.partition.specs.Sides.{Sides}

-- q is the least partition of the values in which the two members go together
abbrev pub IsRightOf : ℕ → List (List ℕ) → (x y : ℕ) → List ℕ → Type 0
IsRightOf values functions x y q = IsLeastWith values (λ r. Go functions r x y) q

-- q is the right side of some two members
pub record IsRight (members values : ℕ) (functions : List (List ℕ)) (q : List ℕ) : Type 0 where
  pub x : ℕ
  pub y : ℕ
  pub in_x : x < members
  pub in_y : y < members
  pub right : IsRightOf values functions x y q

-- each partition of the list is the right side of some two members
abbrev pub AreRights : (members values : ℕ) → List (List ℕ) → List (List ℕ) → Type 0
AreRights members values functions found = All (IsRight members values functions) found

-- the right side of the two members is in the list
abbrev pub HasRight : ℕ → List (List ℕ) → List (List ℕ) → (x y : ℕ) → Type 0
HasRight values functions found x y = (q : List ℕ) × Contains found q × IsRightOf values functions x y q

-- the list has the right side of each two of the first members
abbrev pub HaveRights : ℕ → List (List ℕ) → ℕ → List (List ℕ) → Type 0
HaveRights values functions count found = (x y : ℕ) → x < y → y < count → HasRight values functions found x y

-- each partition in which all members go together that go together in q is above q
pub record IsReached (members values : ℕ) (functions : List (List ℕ)) (q : List ℕ) : Type 0 where
  pub lawful : IsPartition values q
  pub least : (other : List ℕ) → IsPartition values other
      → ((x y : ℕ) → x < members → y < members → Go functions q x y → Go functions other x y) → Le q other

-- an Mm pair of the family
abbrev pub IsFamilyMm : (members values : ℕ) → List (List ℕ) → Sides → Type 0
IsFamilyMm members values functions x = IsMmPairOf members values (FamilyPair functions) x

-- some p makes an Mm pair with q
abbrev pub IsRightSide : (members values : ℕ) → List (List ℕ) → List ℕ → Type 0
IsRightSide members values functions q = (p : List ℕ) × IsFamilyMm members values functions (p, q)

-- right sides that are reached, in ascending order, and each right side of an Mm pair is among them
pub record ListsRights (members values : ℕ) (functions : List (List ℕ)) (rights : List (List ℕ)) : Type 0 where
  pub ascending : AllPairs Before rights
  pub reached : All (IsReached members values functions) rights
  pub complete : (q : List ℕ) → IsRightSide members values functions q → Contains rights q

-- these are the right sides, and each left side is the greatest partner of its right side
pub record HaveLefts (members : ℕ) (functions : List (List ℕ)) (rights : List (List ℕ)) (pairs : List Sides) : Type 0 where
  pub same : map (λ (x : Sides). x.1) pairs ≡ rights
  pub high : All (λ (x : Sides). IsParted members functions x.1 x.0) pairs
