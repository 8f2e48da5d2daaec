-- Splits whose steps cannot be made smaller (source: this project).
use Rattle.std.specs.Prelude.{◌≡◌, ℕ, List, [], ◌∷◌, Some, length, slice_get}
use Rattle.kiss_file.specs.declared.file.KissFile.{KissFile}
use Rattle.partition.specs.Partition.{IsOne, IsPartition, Lt}
use Rattle.partition.specs.MeetAndJoin.{IsMeet}
use Rattle.closed_lattice.specs.ClosedPartitions.{IsClosedPartition}
use Rattle.state_codes.specs.declared.split.Part.{Part}

-- no closed partition is strictly between the two
abbrev pub NothingBetween : KissFile → List ℕ → List ℕ → Type 0
NothingBetween F low high = (q : List ℕ) → IsClosedPartition F q → Lt low q → Lt q high → ⊥

-- no closed partition is strictly between the first part and one
abbrev pub IsBestSerial : KissFile → List Part → Type 0
IsBestSerial F parts =
    (first : Part) (one : List ℕ) → slice_get parts 0 ≡ Some first → IsPartition (length F.states) one → IsOne one
    → NothingBetween F first.partition one

-- none is strictly between c and its meet with the first part, nor between that meet and its meet with the second,
-- and so on
abbrev pub DescendsTightly : KissFile → List ℕ → List Part → Type 0
DescendsTightly F c [] = Unit {0}
DescendsTightly F c (part ∷ parts) =
    (next : List ℕ) × IsMeet c part.partition next × NothingBetween F next c × DescendsTightly F next parts

-- no closed partition is strictly between two neighbours of the chain of meets that begins with one
abbrev pub IsBestCascade : KissFile → List Part → Type 0
IsBestCascade F parts = (one : List ℕ) → IsPartition (length F.states) one → IsOne one → DescendsTightly F one parts
