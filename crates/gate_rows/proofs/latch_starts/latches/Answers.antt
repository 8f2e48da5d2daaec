use Rattle.std.proofs.Common.{[], arith}
use Rattle.gate_rows.specs.Laws.Ranges.{map-range-push}
use Rattle.gate_rows.specs.Latches.{latch_of}
use Rattle.gate_rows.specs.Laws.LatchNames.{latches_at}
use Rattle.gate_rows.proofs.latch_starts.latches.Goals as goal

pub loop-i-preserved : goal.loop-i-preserved
loop-i-preserved c = map-range-push (latch_of c.args.names.now _) [] _ _ _ _ c.loop-i.invariant c.in_ok-push.ensures.ok c.in_ok-latch.ensures

pub returns : goal.returns
returns c = latches_at c.args.names.now c.args.bits c.args.word c.loop-i.latches c.loop-i.i c.requires.inputs c.requires.outputs (omega arith) c.loop-i.invariant
