use Rattle.std.proofs.Common.{◌≡◌, take}
use Rattle.kiss2.specs.Inner.ReaderState.{once_after}
use Rattle.kiss2.specs.Standing.{names_in_column}
use Rattle.kiss2.proofs.record.add_column.Given as goal

abbrev pub invariant-loop-line : goal.invariant-loop-line
invariant-loop-line l = l.names ≡ once_after l.initial.names (names_in_column l.place (take l.line-index l.lines))
