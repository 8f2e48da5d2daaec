use Rattle.partition.proofs.Nesting.{IsNesting}
use Rattle.partition.proofs.nested_blocks.inside_of.Given as goal

abbrev pub invariant-loop-s : goal.invariant-loop-s
invariant-loop-s l = IsNesting l.p l.q l.counts l.inner l.found l.labels.items l.blocks l.s
