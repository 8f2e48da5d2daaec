-- What `sim` prints of a network and what `walk` prints of the machine that the network was made from.
use Rattle.std.specs.Prelude.{◌≡◌, ℕ, Bool, List, None}
use Rattle.blif_out.specs.declared.design.Design.{Design}
use Rattle.kiss_file.specs.declared.file.KissFile.{KissFile}
use Rattle.net_core.specs.declared.Network.{Network}
use Rattle.net_core.specs.Denotation.{Denotes}
use Rattle.net_sim.specs.Run.{IsRun}
use Rattle.state_codes.specs.declared.split.Kind.{Kind}
use Rattle.symbol_runs.specs.Texts.{IsWalkText}
use Rattle.split_texts.specs.SplitText.{IsWritten}

-- for one file of symbols, the network that a written decomposition denotes, run from its own start, and the
-- machine of the file give one text
abbrev pub GiveOneText : Type 0
GiveOneText =
    (design : Design) (kind : Kind) (parts : List ℕ) (reduce : Bool) (F : KissFile) (N : Network) (written symbols simulated walked : List ℕ) → IsWritten design kind parts reduce F written → Denotes written N
    → IsRun N None symbols simulated → IsWalkText F symbols walked → simulated ≡ walked
