use Rattle.std.proofs.Common.{◌^◌, length}
use Rattle.partition.specs.Laws.Partners.{each_decides_of}
use Rattle.io_pairs.specs.Inputs.{InPair}
use Rattle.io_pairs.specs.Laws.{in_pairs_grow, out_pairs_grow}
use Rattle.io_pairs.specs.Outputs.{OutPair, occurring}
use Rattle.io_pairs.proofs.laws.partners_decide.Goals as goal

pub returns-clause-inputs : goal.returns-clause-inputs
returns-clause-inputs c F p q low high left right least greatest =
    each_decides_of (2 ^ F.inputs) (length F.states) (InPair F) (in_pairs_grow F) p q low high left right least greatest

pub returns-clause-outputs : goal.returns-clause-outputs
returns-clause-outputs c F p q low high left right least greatest =
    each_decides_of (length F.states) (length (occurring F)) (OutPair F) (out_pairs_grow F) p q low high left right least greatest
