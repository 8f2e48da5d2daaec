-- The names of the states so far that are in the block were appended.
use Rattle.std.proofs.Common.{◌≡◌, [], ◌∷◌, ◌++◌}
use Rattle.hs_io.specs.Spelling.{line_text}
use Rattle.machine_reports.proofs.StateNames.{has_some, names_within}
use Rattle.machine_reports.proofs.state_texts.append_block.Given as goal

abbrev pub invariant-loop-s : goal.invariant-loop-s
invariant-loop-s l = record {
  some : l.some ≡ has_some (names_within l.names l.part l.block l.s);
  text : l.text.items ≡ (l.fn.text.items ++ 123 ∷ []) ++ line_text (names_within l.names l.part l.block l.s);
}
