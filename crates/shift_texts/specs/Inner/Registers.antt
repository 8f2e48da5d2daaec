-- The network of the register of a work machine, before it is written.
use Rattle.std.specs.Prelude.{◌*◌, ℕ}
use Rattle.kiss_file.specs.declared.file.KissFile.{KissFile}
use Rattle.net_core.specs.declared.Network.{Network}
use Rattle.net_core.specs.declared.SignalNames.{SignalNames}
use Rattle.net_core.specs.SoundNetwork.{Sound}
use Rattle.realise.specs.CarriedMachine.{AnswersAs}
use Rattle.realise.specs.Names.{AreNames}
use Rattle.shift_real.specs.ShiftNetwork.{IsRegister, StepsAlong}

-- N is the register of W for k symbols, with the names of the file
pub record IsRegisterOf (F W : KissFile) (k : ℕ) (N : Network) : Type 0 where
  pub names : SignalNames
  pub own : AreNames F (k * W.inputs) names
  pub register : IsRegister W k names N
  pub sound : Sound N
  pub steps : StepsAlong W k N
  pub answers : AnswersAs W N
