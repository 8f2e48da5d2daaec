-- Mm pairs, ordered by their right sides, and their least one and joins (source: Hartmanis and Stearns).
use Rattle.std.specs.Prelude.{◌≡◌, length}
use Rattle.kiss_file.specs.declared.file.KissFile.{KissFile}
use Rattle.partition.specs.Partition.{zero_of}
use Rattle.partition.specs.MeetAndJoin.{IsJoin}
use Rattle.pair_operators.specs.Extremes.{IsHigh, MmPair}
use Rattle.partition.specs.Sides.{Sides}

-- the two sides are an Mm pair of the machine
abbrev pub IsMmPair : KissFile → Sides → Type 0
IsMmPair F x = MmPair F x.0 x.1

-- the right side is zero, and the left side is M of it
abbrev pub IsLeastMmPair : KissFile → Sides → Type 0
IsLeastMmPair F x = (x.1 ≡ zero_of (length F.states)) × IsHigh F x.1 x.0

-- the right side is the join of the right sides, and the left side is M of that join
abbrev pub IsMmJoin : KissFile → Sides → Sides → Sides → Type 0
IsMmJoin F x y z = IsJoin x.1 y.1 z.1 × IsHigh F z.1 z.0
