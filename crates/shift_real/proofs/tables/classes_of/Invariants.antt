-- The classes so far.
use Rattle.std.proofs.Common.{◌≡◌, map, slice_index, take}
use Rattle.shift_real.proofs.tables.classes_of.Given as goal

abbrev pub invariant-loop-s : goal.invariant-loop-s
invariant-loop-s l = l.classes.items ≡ map (slice_index l.firsts) (take l.s-index l.table)
