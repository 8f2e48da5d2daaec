use Rattle.std.proofs.Common.{◌≡◌, ◌<◌, ℕ}
use Rattle.partition.specs.Bits.{bit_of}
use Rattle.partition.specs.Inner.Rows.{place_in}
use Rattle.partition.proofs.bits.rows.row_with.Given as goal

abbrev pub invariant-loop-i : goal.invariant-loop-i
invariant-loop-i l = (j : ℕ) → j < l.i → bit_of l.rows (place_in l.width j l.s) ≡ 0
