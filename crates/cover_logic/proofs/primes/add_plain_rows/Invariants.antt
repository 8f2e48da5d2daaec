use Rattle.std.proofs.Common.{vec_len}
use Rattle.std.specs.List.{Contains}
use Rattle.cover_logic.specs.Inner.Index.{terms_of}
use Rattle.cover_logic.proofs.PrimeRows.{ArePrimes}
use Rattle.cover_logic.proofs.primes.add_plain_rows.Given as goal

abbrev pub invariant-loop-seed : goal.invariant-loop-seed
invariant-loop-seed l = ArePrimes l.on (terms_of l.off) l.width (Contains l.left.items) l.rows.items

abbrev pub decreases-loop-seed : goal.decreases-loop-seed
decreases-loop-seed l = vec_len l.left
