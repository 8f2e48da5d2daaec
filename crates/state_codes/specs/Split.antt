-- Splits of a machine: their parts, after Hartmanis and Stearns.
use Rattle.std.specs.Prelude.{ℕ, suc, ◌==◌, not, List, [], ◌∷◌, All, filter}
use Rattle.std.specs.List.{range_with_len}
use Rattle.partition.specs.Partition.{IsPartition, Together, Le}
use Rattle.state_codes.specs.declared.split.Part.{Part}

-- a part of a split of n states: its carrier is at or above its partition
pub record IsPart (n : ℕ) (part : Part) : Type 0 where
  pub partition : IsPartition n part.partition
  pub carrier : IsPartition n part.carrier
  pub above : Le part.partition part.carrier

-- the two states are together in the partition of each part
abbrev pub TogetherInAll : List Part → ℕ → ℕ → Type 0
TogetherInAll parts s t = All (λ part. Together part.partition s t) parts

-- the part that has this partition, is its own carrier and reads the parts with these numbers
abbrev pub own_part : List ℕ → List ℕ → Part
own_part partition reads = record { partition = partition; carrier = partition; reads = reads }

-- the numbers of all parts but j, ascending, where there are count parts
abbrev pub others : ℕ → ℕ → List ℕ
others count j = filter (λ part. not (part == j)) (range_with_len 0 count)

-- the parts that have these partitions, numbered from j on, of count parts in all: each is its own carrier and
-- may read all others
abbrev pub given_parts : ℕ → ℕ → List (List ℕ) → List Part
given_parts count j [] = []
given_parts count j (partition ∷ partitions) = own_part partition (others count j) ∷ given_parts count (suc j) partitions

-- the part that has this partition, is its own carrier and reads nothing else
abbrev pub lone_part : List ℕ → Part
lone_part partition = own_part partition []
