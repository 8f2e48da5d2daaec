-- The lines of the outputs so far were appended.
use Rattle.std.proofs.Common.{◌≡◌, take}
use Rattle.std.specs.List.{enumerate_from, flat_map}
use Rattle.machine_reports.specs.OutputTexts.{output_line}
use Rattle.machine_reports.proofs.output_lines.output_lines.Given as goal

abbrev pub invariant-loop-number : goal.invariant-loop-number
invariant-loop-number l = l.text.items ≡ flat_map (output_line l.bits) (take l.number (enumerate_from 0 l.outs))
