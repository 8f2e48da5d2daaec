use Rattle.std.proofs.Common.{false, get_or, arith}
use Rattle.kiss2.proofs.Written.{marked_more}
use Rattle.kiss2.proofs.writer.mark_states.Goals as goal

pub loop-row-preserved : goal.loop-row-preserved
loop-row-preserved c s lt =
    marked_more c.args.rows.now c.loop-row.row-index s c.row-item.result (get_or c.args.standing.now s false) (get_or c.loop-row.standing s false) (get_or c.mark.new.standing s false) (get_or c.mark_next.new.standing s false)
    c.loop-row-test.true c.row-item.is (c.loop-row.invariant s (omega arith)) (c.mark.ensures s (omega arith)) (c.mark_next.ensures s lt)
