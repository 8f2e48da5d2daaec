use Rattle.std.proofs.Common.{◌≡◌, ◌++◌, length}
use Rattle.hs_io.specs.Lines.{lines_of}
use Rattle.hs_io.proofs.lines.line_list.cut_lines.Given as goal

abbrev pub invariant-loop-lines : goal.invariant-loop-lines
invariant-loop-lines l = l.lines.items ++ l.reader ≡ lines_of l.bytes

abbrev pub decreases-loop-lines : goal.decreases-loop-lines
decreases-loop-lines l = length l.reader
