use Rattle.std.proofs.Common.{◌≡◌, ◌++◌, take}
use Rattle.std.specs.List.{flat_map}
use Rattle.kiss2.proofs.Written.{row_text}
use Rattle.kiss2.proofs.writer.append_rows.Given as goal

abbrev pub invariant-loop-row : goal.invariant-loop-row
invariant-loop-row l = l.text.items ≡ l.initial.text.items ++ flat_map (row_text l.names l.outputs) (take l.row-index l.rows)
