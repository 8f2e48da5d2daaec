use Rattle.std.proofs.Common.{take}
use Rattle.std.specs.List.{AllZip}
use Rattle.kiss2.specs.Kiss.{IsRowOf}
use Rattle.kiss2.proofs.record.add_rows.Given as goal

abbrev pub invariant-loop-line : goal.invariant-loop-line
invariant-loop-line l = AllZip (IsRowOf l.states) (take l.line-index l.lines) l.rows
