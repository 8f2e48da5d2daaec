use Rattle.state_reduce.proofs.Leasts.{AreLeastsMet}
use Rattle.state_reduce.proofs.demands.first_against.Given as goal

abbrev pub invariant-loop-s : goal.invariant-loop-s
invariant-loop-s l = AreLeastsMet l.demand l.m l.p l.s
