use Rattle.std.proofs.Common.{take}
use Rattle.dependence.specs.SufficientBits.{InWord}
use Rattle.least_codes.specs.Inner.StatePairs.{TellsApart}
use Rattle.least_codes.proofs.choice.tells_apart.Given as goal

abbrev pub invariant-loop-pair : goal.invariant-loop-pair
invariant-loop-pair l = TellsApart l.words (take l.pair-index l.apart) (InWord l.set)
