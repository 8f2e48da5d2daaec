use Rattle.partition.proofs.Merging.{IsMerging}
use Rattle.partition.proofs.bounds.tie_blocks.Given as goal

abbrev pub invariant-loop-s : goal.invariant-loop-s
invariant-loop-s l = IsMerging l.p l.q l.first l.found l.numbers l.s
