use Rattle.partition.proofs.Comparing.{IsAbove}
use Rattle.partition.proofs.order.is_below.Given as goal

abbrev pub invariant-loop-s : goal.invariant-loop-s
invariant-loop-s l = IsAbove l.p l.q l.above l.blocks l.s
