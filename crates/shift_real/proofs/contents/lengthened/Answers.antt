use Rattle.shift_real.proofs.ContentLists.{next_contents_more}
use Rattle.shift_real.proofs.contents.lengthened.Goals as goal

pub loop-content-preserved : goal.loop-content-preserved
loop-content-preserved c =
    next_contents_more c.args.m.now c.args.shorter.now c.loop-content.content-index (record { latches = 0; state = 0 }) c.loop-content.longer.items _ c.loop-content-test.true c.loop-content.invariant
    c.in_ok-add_next.ensures
