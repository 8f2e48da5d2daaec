use Rattle.std.proofs.Common.{◌≡◌, drop}
use Rattle.std.specs.List.{list_any}
use Rattle.net_sim.specs.Inner.Pieces.{numbers_hold}
use Rattle.net_sim.proofs.pieces.holds_some.Given as goal

abbrev pub invariant-loop-row : goal.invariant-loop-row
invariant-loop-row l = list_any (λ cubes. numbers_hold cubes l.numbers) l.rows ≡ list_any (λ cubes. numbers_hold cubes l.numbers) (drop l.row-index l.rows)
