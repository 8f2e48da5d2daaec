use Rattle.std.proofs.Common.{◌≡◌, drop}
use Rattle.std.specs.List.{list_any}
use Rattle.cubes.specs.Cube.{holds}
use Rattle.cubes.specs.Symbol.{symbol_of}
use Rattle.net_sim.proofs.gate_values.is_held.Given as goal

abbrev pub invariant-loop-cube : goal.invariant-loop-cube
invariant-loop-cube l =
    list_any (λ cube. holds cube (symbol_of cube.width l.number)) l.cubes
    ≡ list_any (λ cube. holds cube (symbol_of cube.width l.number)) (drop l.cube-index l.cubes)
