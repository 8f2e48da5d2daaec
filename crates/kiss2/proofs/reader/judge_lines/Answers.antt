use Rattle.std.proofs.Common.{◌+◌}
use Rattle.std.proofs.lemmas.Result.{err_from_is_err_and}
use Rattle.hs_io.specs.Lines.{lines_of}
use Rattle.kiss2.proofs.Ending.{not_begun}
use Rattle.kiss2.proofs.reader.judge_lines.Goals as goal

pub loop-init : goal.loop-init
loop-init c = (0, not_begun (lines_of c.args.bytes.now) c.args.kept.now.said c.args.kept.now.rows.items c.new-reader.result c.requires.empty c.new-reader.ensures)

pub judge_next-requires : goal.judge_next-requires
judge_next-requires c = (c.args.bytes.now, c.loop.invariant.0, c.requires.short, c.loop.invariant.1)

pub loop-preserved : goal.loop-preserved
loop-preserved c = (c.loop.invariant.0 + 1, c.in_ok-judge_next.ensures.goes_on c.if-branch.true c.args.bytes.now c.loop.invariant.0 c.loop.invariant.1)

pub loop-smaller : goal.loop-smaller
loop-smaller c = c.in_ok-judge_next.ensures.shorter c.if-branch.true

pub returns-clause-kept : goal.returns-clause-kept
returns-clause-kept c = c.in_ok-judge_next.ensures.done c.if-branch.false c.args.bytes.now c.loop.invariant.0 c.loop.invariant.1

pub returns-in_err-judge_next-clause-refused : goal.returns-in_err-judge_next-clause-refused
returns-in_err-judge_next-clause-refused c fault same =
    let fail = err_from_is_err_and c.from_residual.result c.from_residual.ensures.1 in
    c.in_err-judge_next.ensures.refused fault (cc (same, fail.1, fail.2, c.in_err-judge_next.is, c.in_err-judge_next.was)) c.args.bytes.now c.loop.invariant.0 c.loop.invariant.1
