use Rattle.std.proofs.Common.{◌≡◌, drop}
use Rattle.net_sim.specs.Inner.Pieces.{AreBelow, numbers_hold}
use Rattle.net_sim.proofs.pieces.holds_pieces.Given as goal

abbrev pub invariant-loop-cube : goal.invariant-loop-cube
invariant-loop-cube l = record {
  below : AreBelow (drop l.cube-index l.cubes) l.others;
  held : numbers_hold l.cubes l.numbers ≡ numbers_hold (drop l.cube-index l.cubes) l.others;
}
