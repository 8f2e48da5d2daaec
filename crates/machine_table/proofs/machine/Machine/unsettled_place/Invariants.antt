use Rattle.std.proofs.Common.{ℕ, ◌≡◌, ◌<◌, Some, get_or, slice_get}
use Rattle.kiss_file.specs.declared.file.KissRow.{KissRow}
use Rattle.machine_table.specs.Inner.SettledCubes.{IsAllOrNone}
use Rattle.machine_table.proofs.machine.Machine.unsettled_place.Given as goal

abbrev pub invariant-loop-number : goal.invariant-loop-number
invariant-loop-number l =
    (k d : ℕ) (row : KissRow) → k < l.number-index → slice_get l.self.rows (get_or l.number-items k d) ≡ Some row → IsAllOrNone l.cube row.cube
