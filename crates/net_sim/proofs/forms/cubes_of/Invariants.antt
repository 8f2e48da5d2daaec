use Rattle.std.proofs.Common.{◌≡◌, All, Bool, List, length, take}
use Rattle.std.specs.List.{list_any}
use Rattle.cubes.specs.Cube.{holds}
use Rattle.net_core.specs.Step.{row_holds}
use Rattle.net_sim.proofs.forms.cubes_of.Given as goal

abbrev pub invariant-loop-row : goal.invariant-loop-row
invariant-loop-row l = record {
  widths : All (λ cube. cube.width ≡ l.width) l.cubes;
  held : (symbol : List Bool) → length symbol ≡ l.width → list_any (λ cube. holds cube symbol) l.cubes ≡ list_any (λ row. row_holds row symbol) (take l.row-index l.gate.rows);
}
