use Rattle.std.proofs.Common.{ℕ, ◌<◌, ◌≡◌, Some, get_or, slice_get}
use Rattle.kiss_file.specs.declared.file.KissRow.{KissRow}
use Rattle.machine_table.specs.Inner.OpenSymbol.{IsFull}
use Rattle.machine_table.proofs.machine.Machine.says_all.Given as goal

abbrev pub invariant-loop-number : goal.invariant-loop-number
invariant-loop-number l =
    (k d : ℕ) (row : KissRow) → k < l.number-index → slice_get l.self.rows (get_or l.number-items k d) ≡ Some row → IsFull l.self.outputs row
