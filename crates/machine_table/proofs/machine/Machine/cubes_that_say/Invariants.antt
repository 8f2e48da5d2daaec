use Rattle.machine_table.specs.Inner.OpenSymbol.{AreCubesOf}
use Rattle.machine_table.proofs.machine.Machine.cubes_that_say.Given as goal

abbrev pub invariant-loop-number : goal.invariant-loop-number
invariant-loop-number l = AreCubesOf l.self l.s l.part l.number-items l.number-index l.cubes.items
