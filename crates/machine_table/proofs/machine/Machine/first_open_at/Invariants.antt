use Rattle.std.proofs.Common.{◌+◌}
use Rattle.machine_table.specs.Inner.OpenSymbol.{IsFirstAmong}
use Rattle.machine_table.proofs.machine.Machine.first_open_at.Given as goal

abbrev pub invariant-loop-b : goal.invariant-loop-b
invariant-loop-b l = IsFirstAmong l.self l.s (l.b + 1) l.first
