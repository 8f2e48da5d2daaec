use Rattle.partition.specs.Laws.Relabelling.{merged_already}
use Rattle.partition.proofs.bits.lattice.join_two.Goals as goal

pub returns-then-same-clause-merged : goal.returns-then-same-clause-merged
returns-then-same-clause-merged c = merged_already c.args.partition.now c.args.s c.args.t c.requires.lawful (c.same.ensures.0 c.if-same.true)
