-- Words that define the kinds of splits, after Hartmanis and Stearns.
use Rattle.std.specs.Prelude.{◌≡◌, ℕ, List}
use Rattle.state_codes.specs.declared.split.Part.{Part}
use Rattle.state_codes.specs.Split.{TogetherInAll}

-- the part is its own carrier
abbrev pub IsOwnCarrier : Part → Type 0
IsOwnCarrier part = part.carrier ≡ part.partition

-- the meet of all parts is zero: no two states are together in each of them
abbrev pub PartsMeetInZero : List Part → Type 0
PartsMeetInZero parts = (s t : ℕ) → TogetherInAll parts s t → s ≡ t
