use Rattle.cover_logic.specs.Inner.Groups.{all_live}
use Rattle.cover_logic.specs.Inner.Index.{terms_of}
use Rattle.cover_logic.specs.Inner.WaitingTerms.{IsWaiting}
use Rattle.cover_logic.proofs.PrimeRows.{ArePrimes}
use Rattle.cover_logic.proofs.primes.add_guided_rows.Given as goal

abbrev pub invariant-loop-seed : goal.invariant-loop-seed
invariant-loop-seed l = ArePrimes l.on (terms_of l.off) l.width (IsWaiting l.waiting) l.rows.items

abbrev pub decreases-loop-seed : goal.decreases-loop-seed
decreases-loop-seed l = all_live l.waiting.groups.items
