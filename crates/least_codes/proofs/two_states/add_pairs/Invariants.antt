use Rattle.least_codes.specs.Inner.StatePairs.{ArePairsUpTo}
use Rattle.least_codes.proofs.two_states.add_pairs.Given as goal

abbrev pub invariant-loop-s : goal.invariant-loop-s
invariant-loop-s l = ArePairsUpTo l.pairs.items l.t l.s
