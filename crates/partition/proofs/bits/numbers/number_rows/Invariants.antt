use Rattle.partition.specs.Inner.Rows.{AreRowNumbers}
use Rattle.partition.proofs.bits.numbers.number_rows.Given as goal

abbrev pub invariant-loop-label : goal.invariant-loop-label
invariant-loop-label l = AreRowNumbers l.labels l.numbers l.count l.label-index
