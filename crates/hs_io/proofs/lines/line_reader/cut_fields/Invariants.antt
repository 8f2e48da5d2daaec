use Rattle.std.proofs.Common.{◌≡◌, ◌+◌, ◌<◌, ◌∷◌, ◌++◌, length}
use Rattle.hs_io.specs.Lines.{fields_of}
use Rattle.hs_io.proofs.lines.line_reader.cut_fields.Given as goal

abbrev pub invariant-loop-field : goal.invariant-loop-field
invariant-loop-field l = record {
  none : length l.field ≡ 0 → l.fields ≡ fields_of l.text;
  some : 0 < length l.field → l.fields ++ l.field ∷ fields_of l.rest ≡ fields_of l.text;
}

abbrev pub decreases-loop-field : goal.decreases-loop-field
decreases-loop-field l = length l.field + length l.rest
