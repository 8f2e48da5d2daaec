-- The bits of the places so far.
use Rattle.std.proofs.Common.{◌≡◌}
use Rattle.shift_real.specs.Inner.Contents.{turned_bits}
use Rattle.shift_real.proofs.contents.turned.Given as goal

abbrev pub invariant-loop-place : goal.invariant-loop-place
invariant-loop-place l = l.latches ≡ turned_bits l.place l.x
