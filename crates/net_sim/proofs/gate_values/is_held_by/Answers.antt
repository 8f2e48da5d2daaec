use Rattle.cubes.specs.Laws.Deciding.{held_from_test, test_from_held}
use Rattle.cubes.specs.Symbol.{symbol_of}
use Rattle.net_sim.proofs.FormValues.{same_test}
use Rattle.cubes.specs.Cube.{holds}
use Rattle.net_sim.proofs.gate_values.is_held_by.Goals as goal

pub returns : goal.returns
returns c =
    let cube = c.args.cube.now in
    let symbol = symbol_of cube.width c.args.number in
    same_test c.holds.result (holds cube symbol) (λ yes. test_from_held cube symbol (c.holds.ensures.0 yes)) (λ yes. c.holds.ensures.1 (held_from_test cube symbol yes))
