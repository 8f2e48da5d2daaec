use Rattle.std.proofs.Common.{ℕ, ◌<◌, ◌≡◌, None, Some, get_or, slice_get}
use Rattle.cubes.specs.Cube.{HoldsNumber}
use Rattle.kiss_file.specs.Machine.{given_bit}
use Rattle.kiss_file.specs.declared.file.KissRow.{KissRow}
use Rattle.machine_table.proofs.machine.Machine.output_bit.Given as goal

abbrev pub invariant-loop-number : goal.invariant-loop-number
invariant-loop-number l =
    (k d : ℕ) (row : KissRow) → k < l.number-index → slice_get l.self.rows (get_or l.number-items k d) ≡ Some row → HoldsNumber row.cube l.x → given_bit l.b row ≡ None
