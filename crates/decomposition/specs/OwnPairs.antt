-- Each gate of a latch reads only what the partition pair of its latch permits.
use Rattle.std.specs.Prelude.{◌≡◌, ℕ, ◌<◌, ◌↔◌, ◌++◌, All, Contains, List, Some, length, map, slice_get}
use Rattle.blif_out.specs.declared.header.LatchNote.{LatchNote}
use Rattle.kiss_file.specs.declared.file.KissFile.{KissFile}
use Rattle.net_core.specs.declared.Gate.{Gate}
use Rattle.net_core.specs.declared.Latch.{Latch}
use Rattle.net_core.specs.declared.Network.{Network}
use Rattle.net_core.specs.FlatNetwork.{base_of}
use Rattle.net_core.specs.SoundNetwork.{driven_by}
use Rattle.machine_table.specs.NextStates.{NeverLeaves}
use Rattle.partition.specs.Partition.{IsPartition, Together}
use Rattle.state_codes.specs.Agreement.{IsBitPartition}
use Rattle.pair_operators.specs.Pair.{Pair}
use Rattle.dependence.specs.SufficientBits.{AgreeOn, Permits}

-- a gate reads state bit c: the output of latch c is among its inputs
abbrev pub ReadsLatch : Network → Gate → ℕ → Type 0
ReadsLatch N gate c = (latch : Latch) × (slice_get N.latches c ≡ Some latch) × Contains gate.inputs latch.output

-- the meet of the partitions of the bits that a gate reads: two states are together exactly where their codes agree
-- on all of these bits, so that the partition is one where the gate reads none
pub record IsReadPartition (states : ℕ) (N : Network) (gate : Gate) (words p : List ℕ) : Type 0 where
  pub lawful : IsPartition states p
  pub together : (s t : ℕ) → s < states → t < states → Together p s t ↔ AgreeOn words (ReadsLatch N gate) s t

-- the note of latch i is the pair of what its gate reads and what its bit codes
pub record HasOwnPair (W : KissFile) (N : Network) (words : List ℕ) (i : ℕ) (note : LatchNote) (gate : Gate) : Type 0 where
  pub from : IsReadPartition (length W.states) N gate words note.from
  pub to : IsBitPartition (length W.states) words i note.to
  pub pair : Pair W note.from note.to

-- There is a gate for each latch input in order, then one for each output, and no other. Each gate reads only
-- inputs and latch outputs, and the gate of a latch reads what the latch's own pair permits.
pub record OwnPairs (W : KissFile) (N : Network) (words : List ℕ) (notes : List LatchNote) : Type 0 where
  pub gates : driven_by N.gates ≡ map (λ latch. latch.input) N.latches ++ N.outputs
  pub reads : All (λ gate. All (Contains (base_of N)) gate.inputs) N.gates
  pub pairs : (i : ℕ) (note : LatchNote) (gate : Gate) → slice_get notes i ≡ Some note → slice_get N.gates i ≡ Some gate → HasOwnPair W N words i note gate

-- the bits that the gate of a latch reads permit the latch's bit
abbrev pub OwnPairsPermit : Type 0
OwnPairsPermit =
    (W : KissFile) (N : Network) (words : List ℕ) (i : ℕ) (note : LatchNote) (gate : Gate) → NeverLeaves W → HasOwnPair W N words i note gate → Permits W words (ReadsLatch N gate) i
