use Rattle.std.proofs.Common.{ℕ, ◌↔◌, List, sym, subst}
use Rattle.cubes.specs.declared.cube.Cube.{Cube}
use Rattle.cubes.specs.Gap.{IsHeld}
use Rattle.machine_table.specs.OpenEntries.{IsSaid}
use Rattle.machine_table.proofs.OpenCubes.{first_from_gap}
use Rattle.machine_table.proofs.machine.Machine.first_open_of.Goals as goal

pub returns : goal.returns
returns c =
    first_from_gap c.args.self.now c.args.s c.args.part c.deref.result.now c.inputs.result c.inputs.ensures.count
    (subst (λ (cubes : List Cube). (number : ℕ) → IsHeld cubes number ↔ IsSaid c.args.self.now c.args.s number c.args.part) (sym c.deref.ensures.value) c.in_ok-cubes.ensures.held)
    c.first_gap.result c.first_gap.ensures.some c.first_gap.ensures.none
