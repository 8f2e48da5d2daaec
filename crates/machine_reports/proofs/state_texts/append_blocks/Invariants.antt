-- The blocks so far were appended.
use Rattle.std.proofs.Common.{◌≡◌, ◌++◌, map}
use Rattle.std.specs.List.{range_with_len}
use Rattle.hs_io.specs.Spelling.{line_text}
use Rattle.machine_reports.specs.StateTexts.{block_text}
use Rattle.machine_reports.proofs.state_texts.append_blocks.Given as goal

abbrev pub invariant-loop-block : goal.invariant-loop-block
invariant-loop-block l = l.text.items ≡ l.fn.text.items ++ line_text (map (block_text l.names l.part) (range_with_len 0 l.block))
