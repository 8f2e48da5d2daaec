use Rattle.output_consistent.proofs.Agreeing.{FirstsAgree}
use Rattle.output_consistent.proofs.consistency.is_consistent.Given as goal

abbrev pub invariant-loop-s : goal.invariant-loop-s
invariant-loop-s l = FirstsAgree l.m l.p l.s
