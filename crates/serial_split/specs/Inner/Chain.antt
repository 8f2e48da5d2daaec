-- Chains of partitions in the making.
use Rattle.std.specs.Prelude.{◌≡◌, ℕ, ◌+◌, ◌≤◌, List, [], ◌∷◌, Some, length, slice_get}
use Rattle.std.specs.List.{range_with_len}
use Rattle.kiss_file.specs.declared.file.KissFile.{KissFile}
use Rattle.partition.specs.Partition.{IsOne, IsPartition, IsZero, Lt, blocks_of, zero_of}
use Rattle.partition.specs.NestedBlocks.{IsInside}
use Rattle.closed_lattice.specs.Limits.{IsGreatestGrown}
use Rattle.state_codes.specs.declared.split.Part.{Part}
use Rattle.state_codes.specs.Kinds.{IsOwnCarrier}
use Rattle.state_codes.specs.Split.{own_part}
use Rattle.serial_split.specs.Choice.{IsBelow}

-- the part that is its own carrier and reads this many parts before it
abbrev pub part_after : List ℕ → ℕ → Part
part_after partition number = own_part partition (range_with_len 0 number)

-- one step down, and the part that it gives
pub record IsStep (F : KissFile) (c : List ℕ) (part : Part) (next : List ℕ) : Type 0 where
  pub not_zero : IsZero c → ⊥
  pub grown : IsBelow F c next
  pub greatest : IsGreatestGrown F (λ p. Lt p c) (zero_of (length F.states)) next
  pub inside : IsInside c next part.partition
  pub own : IsOwnCarrier part

-- steps from c down to d
abbrev pub StepsTo : KissFile → List ℕ → List Part → List ℕ → Type 0
StepsTo F c [] d = c ≡ d
StepsTo F c (part ∷ parts) d = (next : List ℕ) × IsStep F c part next × StepsTo F next parts d

-- each part reads those before it
abbrev pub ReadThoseBefore : List Part → Type 0
ReadThoseBefore parts = (j : ℕ) (part : Part) → slice_get parts j ≡ Some part → part.reads ≡ range_with_len 0 j

-- steps from one down to d gave these parts
pub record IsChain (F : KissFile) (parts : List Part) (d : List ℕ) : Type 0 where
  pub one : List ℕ
  pub one_lawful : IsPartition (length F.states) one
  pub one_is : IsOne one
  pub steps : StepsTo F one parts d
  pub reads : ReadThoseBefore parts
  pub lawful : IsPartition (length F.states) d
  pub few : length parts + 1 ≤ blocks_of d
