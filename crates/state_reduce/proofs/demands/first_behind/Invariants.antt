use Rattle.state_reduce.specs.Inner.Demands.{IsMetBehind}
use Rattle.state_reduce.proofs.demands.first_behind.Given as goal

abbrev pub invariant-loop-t : goal.invariant-loop-t
invariant-loop-t l = IsMetBehind l.demand l.m l.p l.s l.t
