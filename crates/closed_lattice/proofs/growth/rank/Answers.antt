use Rattle.std.proofs.Common.{arith}
use Rattle.partition.specs.Laws.Labels.{blocks_of-le}
use Rattle.closed_lattice.proofs.growth.rank.Goals as goal

pub overflow_sub-result : goal.overflow_sub-result
overflow_sub-result c = omega (arith, blocks_of-le c.args.p.now c.len.ensures.lawful.numbered, c.len.ensures.len, c.blocks-2.ensures)

pub returns-clause-rank : goal.returns-clause-rank
returns-clause-rank c = omega (arith, blocks_of-le c.args.p.now c.len.ensures.lawful.numbered, c.len.ensures.len, c.blocks-2.ensures)
