use Rattle.std.proofs.Common.{ℕ, ◌<◌, ◌+◌}
use Rattle.machine_table.specs.Inner.OpenSymbol.{IsSaidEverywhere}
use Rattle.machine_table.proofs.machine.Machine.first_open.Given as goal

abbrev pub invariant-loop-s : goal.invariant-loop-s
invariant-loop-s l = (t : ℕ) → t < l.s → IsSaidEverywhere l.self t (l.self.outputs + 1)
