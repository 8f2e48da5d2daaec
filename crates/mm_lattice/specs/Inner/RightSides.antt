-- Right sides of two states and their joins, and lists of right sides without and with their left sides.
use Rattle.std.specs.Prelude.{◌≡◌, ℕ, ◌<◌, All, AllPairs, Contains, List, length, map}
use Rattle.kiss_file.specs.declared.file.KissFile.{KissFile}
use Rattle.partition.specs.Order.{Before}
use Rattle.partition.specs.Partition.{IsPartition, Le}
use Rattle.pair_operators.specs.Extremes.{IsHigh}
use Rattle.mm_lattice.specs.Generators.{IsRightOf}
use Rattle.partition.specs.Sides.{Sides}
use Rattle.mm_lattice.specs.Top.{IsRightSide}

-- each is m of a partition that holds two states together and nothing else
abbrev pub AreRights : KissFile → List (List ℕ) → Type 0
AreRights F found = All (λ q. (s : ℕ) × (t : ℕ) × IsRightOf F s t q) found

-- m of the partition that holds the two states together and nothing else is in the list
abbrev pub HasRight : KissFile → List (List ℕ) → (s t : ℕ) → Type 0
HasRight F found s t = (q : List ℕ) × Contains found q × IsRightOf F s t q

-- the list has that for each two of the first states
abbrev pub HaveRights : KissFile → ℕ → List (List ℕ) → Type 0
HaveRights F count found = (s t : ℕ) → s < t → t < count → HasRight F found s t

-- q is the join of the right sides of two states that are below it: a partition above all of these is above q
pub record IsReached (F : KissFile) (q : List ℕ) : Type 0 where
  pub lawful : IsPartition (length F.states) q
  pub least : (other : List ℕ) → IsPartition (length F.states) other → ((s t : ℕ) (g : List ℕ) → IsRightOf F s t g → Le g q → Le g other) → Le q other

-- the list is ascending, each element is a join of right sides of two states, and it has each right side of an
-- Mm pair
pub record ListsRights (F : KissFile) (rights : List (List ℕ)) : Type 0 where
  pub ascending : AllPairs Before rights
  pub reached : All (IsReached F) rights
  pub complete : (q : List ℕ) → IsRightSide F q → Contains rights q

-- these are the right sides, and each left side is M of its right side
pub record HaveLefts (F : KissFile) (rights : List (List ℕ)) (values : List Sides) : Type 0 where
  pub same : map (λ (x : Sides). x.1) values ≡ rights
  pub high : All (λ (x : Sides). IsHigh F x.1 x.0) values
