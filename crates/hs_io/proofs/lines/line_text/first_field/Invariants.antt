use Rattle.std.proofs.Common.{◌≡◌, ◌≤◌, length}
use Rattle.hs_io.specs.Lines.{fields_of}
use Rattle.hs_io.proofs.lines.line_text.first_field.Given as goal

abbrev pub invariant-loop-end : goal.invariant-loop-end
invariant-loop-end l = record {
  same : fields_of l.text ≡ fields_of l.rest;
  within : length l.rest ≤ length l.text;
}

abbrev pub decreases-loop-end : goal.decreases-loop-end
decreases-loop-end l = length l.rest
