use Rattle.least_codes.specs.Inner.StatePairs.{ArePairs}
use Rattle.least_codes.proofs.two_states.all_pairs.Given as goal

abbrev pub invariant-loop-t : goal.invariant-loop-t
invariant-loop-t l = ArePairs l.pairs.items l.t
