use Rattle.std.proofs.Common.{arith}
use Rattle.partition.specs.Laws.Labels.{IsPartition-of}
use Rattle.partition.specs.Laws.Extremes.{holding_is_hold}
use Rattle.partition.specs.Laws.Outcomes.{IfOk-from_both}
use Rattle.partition.proofs.Partition.hold.Goals as goal

pub returns : goal.returns
returns c =
    IfOk-from_both c.numbered.result c.numbered.ensures.lawful c.numbered.ensures.together (λ p lawful same.
    holding_is_hold c.args.n c.args.s c.args.t c.loop-u.values.items p c.requires.s c.requires.t (omega arith) c.loop-u.invariant.holding (IsPartition-of (omega arith) lawful) (rw (← c.deref.ensures.value) same))
