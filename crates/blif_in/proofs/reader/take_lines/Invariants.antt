use Rattle.std.proofs.Common.{length}
use Rattle.net_core.specs.JoinedLines.{joined}
use Rattle.blif_in.specs.Inner.JoinedLines.{lines_read, statement_lines}
use Rattle.blif_in.proofs.Progressing.{IsReadBy}
use Rattle.blif_in.proofs.reader.take_lines.Given as goal

abbrev pub invariant-loop-line : goal.invariant-loop-line
invariant-loop-line l = IsReadBy (lines_read l.bytes) (statement_lines (joined l.lines)) l.progress l.draft

abbrev pub decreases-loop-line : goal.decreases-loop-line
decreases-loop-line l = length (statement_lines (joined l.lines))
