use Rattle.std.proofs.Common.{◌≡◌, All}
use Rattle.machine_table.specs.Inner.OpenSymbol.{AreFullCubes}
use Rattle.machine_table.proofs.machine.Machine.full_cubes.Given as goal

abbrev pub invariant-loop-number : goal.invariant-loop-number
invariant-loop-number l = All (λ c. c.width ≡ l.self.inputs) l.cubes.items × AreFullCubes l.self l.s l.cubes.items
