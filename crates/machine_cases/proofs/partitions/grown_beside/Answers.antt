use Rattle.std.proofs.Common.{◌≡◌, length, ap, ◌∙◌}
use Rattle.partition.specs.Partition.{zero_of}
use Rattle.closed_lattice.specs.Laws.Generating.{states_counted, zero_closed}
use Rattle.machine_cases.proofs.partitions.grown_beside.Goals as goal

pub apart-requires-clause-closed : goal.apart-requires-clause-closed
apart-requires-clause-closed c =
    zero_closed c.args.m.now c.in_ok-zero.zero c.states-n.ensures.inside (states_counted c.args.m.now c.states-n.result c.states-n.ensures.count c.states-n.ensures.some c.states-n.ensures.limit)
    (c.in_ok-zero.ensures.labels ∙ ap zero_of c.states-n.ensures.count)

pub apart-requires-clause-in_zero : goal.apart-requires-clause-in_zero
apart-requires-clause-in_zero c s t held there = c.in_ok-zero.ensures.zero s t held
