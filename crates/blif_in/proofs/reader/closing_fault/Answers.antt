use Rattle.std.proofs.Common.{sym, ◌∙◌}
use Rattle.blif_in.proofs.Progressing.{closed_clock, closed_some}
use Rattle.blif_in.proofs.reader.closing_fault.Goals as goal

pub returns-in-Some : goal.returns-in-Some
returns-in-Some c lines is net =
    c.clock_fault.ensures
    ∙ sym (closed_clock lines c.args.net.now c.args.progress.now.clock c.in-Some.clock is.clock c.in-Some.is)
    ∙ closed_some lines c.args.progress.now c.args.net.now is c.if-not-progress.false net
