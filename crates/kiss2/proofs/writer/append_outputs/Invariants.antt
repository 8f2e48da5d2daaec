use Rattle.std.proofs.Common.{◌≡◌, ◌++◌}
use Rattle.kiss2.specs.KissText.{output_characters}
use Rattle.kiss2.proofs.writer.append_outputs.Given as goal

abbrev pub invariant-loop-output : goal.invariant-loop-output
invariant-loop-output l = l.text.items ≡ l.initial.text.items ++ output_characters l.output l.row
