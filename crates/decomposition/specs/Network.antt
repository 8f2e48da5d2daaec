-- The network of a machine, a split and its codes, with the notes of its latches.
use Rattle.std.specs.Prelude.{◌≡◌, All, List, length}
use Rattle.blif_out.specs.declared.header.LatchNote.{LatchNote}
use Rattle.blif_out.specs.Order.{HasKnownStarts, HasRowsInOrder}
use Rattle.dependence.specs.declared.sets.Reads.{Reads}
use Rattle.dependence.specs.Reads.{AreReads}
use Rattle.kiss_file.specs.declared.file.KissFile.{KissFile}
use Rattle.machine_table.specs.NextStates.{NeverLeaves}
use Rattle.net_core.specs.declared.Network.{Network}
use Rattle.net_core.specs.declared.SignalNames.{SignalNames}
use Rattle.net_core.specs.SoundNetwork.{Sound}
use Rattle.realise.specs.CarriedMachine.{Carries}
use Rattle.realise.specs.CodeNetwork.{AreEnough, IsRealised}
use Rattle.state_codes.specs.declared.Codes.{Codes}
use Rattle.state_codes.specs.declared.split.Part.{Part}
use Rattle.state_codes.specs.Agreement.{AreDistinct}
use Rattle.state_codes.specs.Code.{IsCode}
use Rattle.state_codes.specs.Split.{IsPart}
use Rattle.decomposition.specs.Flow.{Flows}
use Rattle.decomposition.specs.Irredundance.{AreIrredundant}
use Rattle.decomposition.specs.Notes.{AreNotes}
use Rattle.decomposition.specs.OwnPairs.{OwnPairs}
use Rattle.decomposition.specs.PartReads.{IsWithinParts}

-- The gates have read sets by the rule, which are enough for what the gates give, with no bit to spare. The network
-- has a latch for each bit. It is sound, starts at the code of the reset state, and goes from code to code as the machine goes from
-- state to state. Each gate of a latch reads only what the latch's own pair and its part permit.
pub record IsNetworkOf (W : KissFile) (parts : List Part) (codes : Codes) (names : SignalNames) (N : Network) (notes : List LatchNote) : Type 0 where
  pub sets : Reads
  pub by_rule : AreReads W parts codes sets
  pub enough : AreEnough W codes.bits codes.words sets
  pub irredundant : AreIrredundant W codes.words sets
  pub realised : IsRealised W codes.bits codes.words sets names N
  pub noted : AreNotes codes sets.latches notes
  pub latches : length N.latches ≡ codes.bits
  pub rows : HasRowsInOrder N
  pub starts : HasKnownStarts N
  pub sound : Sound N
  pub carries : Carries W N codes.words
  pub pairs : OwnPairs W N codes.words notes
  pub within : IsWithinParts W N codes.words notes parts

-- what the gates read by the rule is enough for what they give, where information flows as the parts say
abbrev pub ReadsAreEnough : Type 0
ReadsAreEnough =
    (W : KissFile) (parts : List Part) (codes : Codes) (sets : Reads) → NeverLeaves W → All (IsPart (length W.states)) parts → Flows W parts
    → IsCode (length W.states) parts codes → AreDistinct (length W.states) codes.words → AreReads W parts codes sets → AreEnough W codes.bits codes.words sets
