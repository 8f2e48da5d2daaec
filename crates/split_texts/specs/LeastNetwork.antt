-- The least code: for which machines it is sought, and what is promised of its network (source: this project).
use Rattle.std.specs.Prelude.{◌≡◌, ◌↔◌, ◌⊎◌, ℕ, ◌+◌, ◌<◌, Bool, Contains, List, Some, length, slice_get}
use Rattle.answers.specs.declared.refusals.Refusal.TheVariants.{StateCount}
use Rattle.answers.specs.Cause.{Cause}
use Rattle.decomposition.specs.OwnPairs.{ReadsLatch}
use Rattle.dependence.specs.Candidates.{IsBitOfCode}
use Rattle.dependence.specs.SufficientBits.{next_value, output_value}
use Rattle.kiss_file.specs.declared.file.KissFile.{KissFile}
use Rattle.least_codes.specs.LeastCode.{IsLeastCode}
use Rattle.least_codes.specs.LeastReads.{AreLeastReads}
use Rattle.net_core.specs.declared.Gate.{Gate}
use Rattle.net_core.specs.declared.Network.{Network}
use Rattle.state_codes.specs.declared.Codes.{Codes}
use Rattle.state_codes.specs.Code.{need}

-- the number of states is not from 3 to 8: the machine is refused with this number
abbrev pub HasOtherCount : KissFile → Cause
HasOtherCount W refusal = (refusal ≡ StateCount (length W.states)) × ((length W.states < 3) ⊎ (8 < length W.states))

-- The gate of a value reads the latches of the state bits in `bits`, and no others. These bits permit the value,
-- and no smaller set of bits of the code permits it. Of the sets of this size that permit it, theirs is the first
-- list.
pub record ReadsLeast (W : KissFile) (codes : Codes) (N : Network) (value : ℕ → List Bool → Bool) (gate : Gate) : Type 0 where
  pub bits : List ℕ
  pub reads : (c : ℕ) → ReadsLatch N gate c ↔ Contains bits c
  pub least : AreLeastReads W codes.words (IsBitOfCode codes) value bits

-- The codes are the least code, with as few bits as the states need. The gates of latches come first, then those of
-- outputs, and each reads as few state bits as permit what it gives.
pub record IsLeastNetwork (W : KissFile) (codes : Codes) (N : Network) : Type 0 where
  pub code : IsLeastCode W codes.words
  pub size : codes.bits ≡ need (length W.states)
  pub latches : (i : ℕ) (gate : Gate) → i < codes.bits → slice_get N.gates i ≡ Some gate → ReadsLeast W codes N (next_value W codes.words i) gate
  pub outputs : (b : ℕ) (gate : Gate) → b < W.outputs → slice_get N.gates (codes.bits + b) ≡ Some gate → ReadsLeast W codes N (output_value W b) gate
