use Rattle.std.proofs.Common.{◌≡◌, false, take}
use Rattle.std.specs.List.{list_any}
use Rattle.kiss2.specs.Words.{has_backslash}
use Rattle.kiss2.proofs.line_operands.some_backslash.Given as goal

abbrev pub invariant-loop-name : goal.invariant-loop-name
invariant-loop-name l = list_any has_backslash (take l.name-index l.names) ≡ false
