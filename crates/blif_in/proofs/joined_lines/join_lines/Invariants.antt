use Rattle.std.proofs.Common.{◌≡◌, length}
use Rattle.net_core.specs.JoinedLines.{joined}
use Rattle.blif_in.specs.Inner.JoinedLines.{lines_behind}
use Rattle.blif_in.proofs.joined_lines.join_lines.Given as goal

abbrev pub invariant-loop-line : goal.invariant-loop-line
invariant-loop-line l = lines_behind l.front (joined l.lines) ≡ lines_behind l.fn.front (joined l.fn.lines)

abbrev pub decreases-loop-line : goal.decreases-loop-line
decreases-loop-line l = length l.lines
