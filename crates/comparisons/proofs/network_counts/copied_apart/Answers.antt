use Rattle.std.proofs.Common.{sym, arith}
use Rattle.comparisons.proofs.Noted.{apart_all, apart_more}
use Rattle.comparisons.proofs.network_counts.copied_apart.Goals as goal

pub loop-i-preserved : goal.loop-i-preserved
loop-i-preserved c =
    apart_more c.args.latches.now c.args.notes.now c.requires c.loop-i.i c.index-latches-i.result c.index-notes-i.result c.loop-i-test.true (sym c.index-latches-i.is) (sym c.index-notes-i.is)
    c.args.part c.loop-i.outputs c.push_apart.new.outputs c.loop-i.invariant c.in_ok-push_apart.ensures

pub returns : goal.returns
returns c = apart_all c.args.latches.now c.args.notes.now c.loop-i.i (omega (arith, c.loop-i-test.false)) c.args.part c.loop-i.outputs c.loop-i.invariant
