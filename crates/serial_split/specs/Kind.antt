-- What a serial split and a cascade are (source: Hartmanis and Stearns).
use Rattle.std.specs.Prelude.{◌≡◌, ℕ, ◌≤◌, All, List, [], ◌∷◌, Some, length, slice_get}
use Rattle.std.specs.List.{range_with_len}
use Rattle.kiss_file.specs.declared.file.KissFile.{KissFile}
use Rattle.partition.specs.Partition.{IsNontrivial, IsOne, IsPartition, IsZero, Lt, blocks_of}
use Rattle.partition.specs.MeetAndJoin.{IsMeet}
use Rattle.partition.specs.NestedBlocks.{IsLargestSize}
use Rattle.closed_lattice.specs.ClosedPartitions.{IsClosedPartition}
use Rattle.state_codes.specs.declared.split.Part.{Part}
use Rattle.state_codes.specs.Kinds.{IsOwnCarrier, PartsMeetInZero}

-- no closed partition is nontrivial
abbrev pub HasNoneNontrivial : KissFile → Type 0
HasNoneNontrivial F = (p : List ℕ) → IsClosedPartition F p → IsNontrivial p → ⊥

-- a closed partition, and one that distinguishes the states of each of its blocks, with no more blocks than that
-- needs; the second part reads the first
pub record IsSerial (F : KissFile) (parts : List Part) : Type 0 where
  pub first : Part
  pub second : Part
  pub two : parts ≡ first ∷ second ∷ []
  pub own : All IsOwnCarrier parts
  pub closed : IsClosedPartition F first.partition
  pub nontrivial : IsNontrivial first.partition
  pub in_zero : PartsMeetInZero parts
  pub blocks : IsLargestSize first.partition (blocks_of second.partition)
  pub first_reads : first.reads ≡ []
  pub second_reads : second.reads ≡ 0 ∷ []

-- from c down to d: the meet with one part after another, each of which is closed and strictly below the meet
-- before it
abbrev pub Descends : KissFile → List ℕ → List Part → List ℕ → Type 0
Descends F c [] d = c ≡ d
Descends F c (part ∷ parts) d =
    (next : List ℕ) × IsMeet c part.partition next × IsClosedPartition F next × Lt next c × Descends F next parts d

-- the meets of the first parts are closed and lead from one down to zero; each part reads those before it
pub record IsCascade (F : KissFile) (parts : List Part) : Type 0 where
  pub several : 2 ≤ length parts
  pub own : All IsOwnCarrier parts
  pub nontrivial : (first : Part) → slice_get parts 0 ≡ Some first → IsNontrivial first.partition
  pub one : List ℕ
  pub one_lawful : IsPartition (length F.states) one
  pub one_is : IsOne one
  pub zero : List ℕ
  pub zero_is : IsZero zero
  pub down : Descends F one parts zero
  pub in_zero : PartsMeetInZero parts
  pub reads : (j : ℕ) (part : Part) → slice_get parts j ≡ Some part → part.reads ≡ range_with_len 0 j
