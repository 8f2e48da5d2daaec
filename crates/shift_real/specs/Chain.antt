-- The chain of a machine: zero, M(zero), M(M(zero)) and so on (source: Hartmanis and Stearns, the operator M).
use Rattle.std.specs.Prelude.{◌≡◌, ℕ, ◌+◌, ◌-◌, ◌<◌, ◌↔◌, List, Some, length, slice_get}
use Rattle.kiss_file.specs.declared.file.KissFile.{KissFile}
use Rattle.pair_operators.specs.Extremes.{IsHigh}
use Rattle.partition.specs.Partition.{IsPartition, IsZero, Lt, Together}
use Rattle.shift_real.specs.Words.{MeetAfter}

-- The first member is zero. Each other member is M of the member before it and strictly above it. M leaves the
-- last member as it is.
pub record IsChain (F : KissFile) (members : List (List ℕ)) : Type 0 where
  pub first : (p : List ℕ) × (slice_get members 0 ≡ Some p) × IsPartition (length F.states) p × IsZero p
  pub each : (j : ℕ) (p q : List ℕ) → slice_get members j ≡ Some p → slice_get members (j + 1) ≡ Some q → IsHigh F p q × Lt p q
  pub last : (p : List ℕ) × (slice_get members (length members - 1) ≡ Some p) × IsHigh F p p

-- states are together in a partition exactly where every word of j symbols brings them to one state
abbrev pub TellsAfter : KissFile → ℕ → List ℕ → Type 0
TellsAfter F j p = (s t : ℕ) → s < length F.states → t < length F.states → Together p s t ↔ MeetAfter F j s t

-- each member is a partition in which states are together exactly where every word of j symbols brings them to
-- one state, where j is the place of the member
abbrev pub AreTogetherAfter : KissFile → List (List ℕ) → Type 0
AreTogetherAfter F members = (j : ℕ) (p : List ℕ) → slice_get members j ≡ Some p → IsPartition (length F.states) p × TellsAfter F j p
