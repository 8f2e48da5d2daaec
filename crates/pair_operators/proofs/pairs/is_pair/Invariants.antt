use Rattle.pair_operators.proofs.Firsts.{FirstsGo}
use Rattle.pair_operators.proofs.pairs.is_pair.Given as goal

abbrev pub invariant-loop-s : goal.invariant-loop-s
invariant-loop-s l = FirstsGo l.m l.p l.q l.s
