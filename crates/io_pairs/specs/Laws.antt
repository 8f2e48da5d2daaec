-- Smaller left sides and greater right sides keep pairs on inputs and on outputs.
use Rattle.kiss_file.specs.declared.file.KissFile.{KissFile}
use Rattle.partition.specs.Laws.Partners.{Grow}
use Rattle.io_pairs.specs.Inputs.{InPair}
use Rattle.io_pairs.specs.Outputs.{OutPair}

pub in_pairs_grow : (F : KissFile) → Grow (InPair F)
in_pairs_grow F p q smaller greater below above pair x y held s within = above _ _ (pair x y (below x y held) s within)

pub out_pairs_grow : (F : KissFile) → Grow (OutPair F)
out_pairs_grow F p q smaller greater below above pair s t held x within = above _ _ (pair s t (below s t held) x within)
