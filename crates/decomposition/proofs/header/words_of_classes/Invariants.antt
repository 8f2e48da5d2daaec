-- The words of the states so far.
use Rattle.std.proofs.Common.{◌≡◌, map, take}
use Rattle.std.specs.List.{slice_index}
use Rattle.decomposition.proofs.header.words_of_classes.Given as goal

abbrev pub invariant-loop-s : goal.invariant-loop-s
invariant-loop-s l = l.printed ≡ map (slice_index l.words) (take l.s l.classes)
