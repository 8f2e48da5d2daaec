-- The latch values before the first symbol: the given ones, or else the starts of the latches.
use Rattle.std.specs.Prelude.{◌≡◌, ℕ, ◌<◌, Bool, List, Option, Some, None, IsSome, length, slice_get}
use Rattle.net_core.specs.declared.Latch.{Latch}
use Rattle.net_core.specs.declared.Network.{Network}
use Rattle.net_core.specs.Step.{AreStarts, bit_of_start}
use Rattle.net_sim.specs.BitTexts.{IsBitText}

-- the network starts with these latch values
abbrev pub IsStart : Network → Option (List ℕ) → List Bool → Type 0
IsStart N None state = AreStarts N.latches state
IsStart N (Some text) state = IsBitText (length N.latches) text state

-- the output of the first latch whose start is not known
pub record IsFirstUnknown (latches : List Latch) (name : List ℕ) : Type 0 where
  pub place : ℕ
  pub latch : Latch
  pub stands : slice_get latches place ≡ Some latch
  pub is : latch.output ≡ name
  pub unknown : bit_of_start latch.start ≡ None
  pub known_before : (k : ℕ) (other : Latch) → k < place → slice_get latches k ≡ Some other → IsSome (bit_of_start other.start)
