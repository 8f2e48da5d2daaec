-- Gates that read state bits by the rule.
use Rattle.std.specs.Prelude.{◌≡◌, ◌↔◌, ℕ, ◌+◌, Contains, List, Some, slice_get}
use Rattle.decomposition.specs.OwnPairs.{ReadsLatch}
use Rattle.dependence.specs.declared.sets.ReadSet.{ReadSet}
use Rattle.dependence.specs.declared.sets.Reads.{Reads}
use Rattle.dependence.specs.Reads.{AreReads}
use Rattle.kiss_file.specs.declared.file.KissFile.{KissFile}
use Rattle.net_core.specs.declared.Gate.{Gate}
use Rattle.net_core.specs.declared.Network.{Network}
use Rattle.state_codes.specs.declared.Codes.{Codes}
use Rattle.state_codes.specs.declared.split.Part.{Part}

-- the gate of this number reads exactly the bits of the set
abbrev pub HasReads : Network → ℕ → ReadSet → Type 0
HasReads N at set = (gate : Gate) → slice_get N.gates at ≡ Some gate → (c : ℕ) → ReadsLatch N gate c ↔ Contains set.latches c

-- the gates of latches, and the gates of outputs after them, read the bits of sets by the rule
pub record ReadByRule (W : KissFile) (parts : List Part) (codes : Codes) (N : Network) : Type 0 where
  pub sets : Reads
  pub by_rule : AreReads W parts codes sets
  pub latches : (i : ℕ) (set : ReadSet) → slice_get sets.latches i ≡ Some set → HasReads N i set
  pub outputs : (b : ℕ) (set : ReadSet) → slice_get sets.outputs b ≡ Some set → HasReads N (codes.bits + b) set
