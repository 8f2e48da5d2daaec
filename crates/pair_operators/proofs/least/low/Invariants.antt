use Rattle.pair_operators.proofs.LowSoFar.{IsLowSoFar}
use Rattle.pair_operators.proofs.least.low.Given as goal

abbrev pub invariant-loop-s : goal.invariant-loop-s
invariant-loop-s l = IsLowSoFar l.m l.p l.s l.q
