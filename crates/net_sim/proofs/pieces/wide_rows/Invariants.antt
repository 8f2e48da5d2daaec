use Rattle.std.proofs.Common.{◌≡◌, All, Bool, List, length, take}
use Rattle.std.specs.List.{list_any}
use Rattle.net_core.specs.Step.{row_holds}
use Rattle.net_sim.specs.Inner.Pieces.{HaveWidths, pieces_hold}
use Rattle.net_sim.proofs.pieces.wide_rows.Given as goal

abbrev pub invariant-loop-row : goal.invariant-loop-row
invariant-loop-row l = record {
  widths : All (HaveWidths (length l.gate.inputs.items)) l.rows;
  held : (symbol : List Bool) → length symbol ≡ length l.gate.inputs.items → list_any (λ cubes. pieces_hold cubes symbol) l.rows ≡ list_any (λ row. row_holds row symbol) (take l.row-index l.gate.rows);
}
