-- The names so far were added.
use Rattle.std.proofs.Common.{◌≡◌, ◌++◌, map, take}
use Rattle.gate_rows.specs.Names.{name_at}
use Rattle.gate_rows.proofs.gate_names.push_names.Given as goal

abbrev pub invariant-loop-number : goal.invariant-loop-number
invariant-loop-number l = l.listed ≡ l.initial.listed ++ map (name_at l.names) (take l.number-index l.numbers)
