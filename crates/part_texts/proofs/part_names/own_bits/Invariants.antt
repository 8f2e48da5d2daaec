-- Those of the bits so far that the part owns.
use Rattle.std.proofs.Common.{◌≡◌}
use Rattle.part_texts.proofs.OwnBits.{own_below}
use Rattle.part_texts.proofs.part_names.own_bits.Given as goal

abbrev pub invariant-loop-c : goal.invariant-loop-c
invariant-loop-c l = l.own.items ≡ own_below l.codes.owner l.part l.c
