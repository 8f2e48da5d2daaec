use Rattle.std.proofs.Common.{◌≡◌, take}
use Rattle.kiss_file.proofs.copies.copied_states.Given as goal

abbrev pub invariant-loop-i : goal.invariant-loop-i
invariant-loop-i l = l.copy ≡ take l.i l.states
