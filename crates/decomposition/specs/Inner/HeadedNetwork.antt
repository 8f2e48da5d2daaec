-- The network of a file's split, and the network with its header.
use Rattle.std.specs.Prelude.{◌≡◌, ℕ, List, Option}
use Rattle.blif_out.specs.declared.networks.HeadedNetwork.{HeadedNetwork}
use Rattle.net_core.specs.declared.SignalNames.{SignalNames}
use Rattle.realise.specs.Names.{AreNames}
use Rattle.state_codes.specs.declared.Codes.{Codes}
use Rattle.state_codes.specs.declared.split.Split.{Split}
use Rattle.state_reduce.specs.declared.work.WorkMachine.{WorkMachine}
use Rattle.decomposition.specs.declared.network.SplitNetwork.{SplitNetwork}
use Rattle.decomposition.specs.Inner.Header.{IsHeaderOf}
use Rattle.decomposition.specs.Network.{IsNetworkOf}

-- the network of the split, for some names of the signals of the work machine's file
pub record IsNamedNetwork (work : WorkMachine) (split : Split) (codes : Codes) (made : SplitNetwork) : Type 0 where
  pub names : SignalNames
  pub own : AreNames work.file.now codes.bits names
  pub net : IsNetworkOf work.machine split.parts codes names made.network made.notes

-- the network, with the header of the split, its codes and its notes
pub record IsHeaded (states : List (List ℕ)) (classes : Option (List ℕ)) (split : Split) (codes : Codes) (made : SplitNetwork) (headed : HeadedNetwork) : Type 0 where
  pub of_split : IsHeaderOf states classes split codes made.notes headed.header
  pub network : headed.network ≡ made.network
