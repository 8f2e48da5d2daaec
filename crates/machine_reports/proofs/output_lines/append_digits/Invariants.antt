-- The digits of the outputs so far were appended.
use Rattle.std.proofs.Common.{◌≡◌, ◌++◌}
use Rattle.machine_reports.specs.OutputTexts.{output_digits}
use Rattle.machine_reports.proofs.output_lines.append_digits.Given as goal

abbrev pub invariant-loop-place : goal.invariant-loop-place
invariant-loop-place l = l.text.items ≡ l.fn.text.items ++ output_digits l.place l.word
