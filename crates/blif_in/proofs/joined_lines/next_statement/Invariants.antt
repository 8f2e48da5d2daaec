use Rattle.std.proofs.Common.{◌≡◌, length}
use Rattle.net_core.specs.JoinedLines.{joined}
use Rattle.blif_in.specs.Inner.JoinedLines.{statement_lines}
use Rattle.blif_in.proofs.joined_lines.next_statement.Given as goal

abbrev pub invariant-loop-line : goal.invariant-loop-line
invariant-loop-line l = statement_lines (joined l.lines) ≡ statement_lines (joined l.fn.lines)

abbrev pub decreases-loop-line : goal.decreases-loop-line
decreases-loop-line l = length (joined l.lines)
