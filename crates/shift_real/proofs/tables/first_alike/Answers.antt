use Rattle.shift_real.proofs.Alike.{firsts_more}
use Rattle.shift_real.proofs.tables.first_alike.Goals as goal

pub loop-s-preserved : goal.loop-s-preserved
loop-s-preserved c = firsts_more c.args.m.now c.args.b c.loop-s.s c.loop-s.firsts.items _ c.first_for-first.result c.loop-s.invariant c.first_for-first.ensures c.in_ok-push.ensures.items
