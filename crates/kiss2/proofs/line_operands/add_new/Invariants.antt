use Rattle.std.proofs.Common.{◌≡◌, ◌++◌, take}
use Rattle.kiss_file.specs.Names.{AreDistinct}
use Rattle.kiss2.proofs.line_operands.add_new.Given as goal

abbrev pub invariant-loop-name : goal.invariant-loop-name
invariant-loop-name l = (l.seen ≡ l.initial.seen ++ take l.name-index l.names) × AreDistinct l.seen
