-- The names of states and signals that a network and its header have for a file.
use Rattle.std.specs.Prelude.{◌≡◌, length}
use Rattle.blif_out.specs.declared.header.Header.{Header}
use Rattle.gate_rows.specs.Names.{HasNames}
use Rattle.kiss_file.specs.declared.file.KissFile.{KissFile}
use Rattle.net_core.specs.declared.Network.{Network}
use Rattle.net_core.specs.declared.SignalNames.{SignalNames}
use Rattle.realise.specs.Names.{AreNames}

-- states, inputs and outputs have the names that the file gives; the other signals have names of their own
pub record Named (F : KissFile) (N : Network) (H : Header) : Type 0 where
  pub states : H.states ≡ F.states
  pub names : SignalNames
  pub own : AreNames F (length H.latches) names
  pub signals : HasNames N names
