use Rattle.std.proofs.Common.{◌≢◌, ℕ, ◌<◌, bit_and, get_or}
use Rattle.dependence.proofs.sufficient_bits.searched_like.Given as goal

abbrev pub invariant-loop-t : goal.invariant-loop-t
invariant-loop-t l = (u : ℕ) → u < l.t → bit_and (get_or l.words u 0) l.set ≢ l.code
