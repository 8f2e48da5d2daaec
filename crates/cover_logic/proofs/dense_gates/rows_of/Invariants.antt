use Rattle.std.proofs.Common.{◌≤◌, length, take}
use Rattle.std.specs.List.{Contains}
use Rattle.cover_logic.specs.Inner.Tables.{IsMarkTableOf}
use Rattle.cover_logic.proofs.PrimeRows.{ArePrimes}
use Rattle.cover_logic.proofs.dense_gates.rows_of.Given as goal

abbrev pub invariant-loop-left : goal.invariant-loop-left
invariant-loop-left l =
    ArePrimes l.on l.zeros.terms.items l.width (Contains (take l.left l.on)) l.rows.terms.items × IsMarkTableOf l.width l.rows.terms.items l.rows × (l.left ≤ length l.on)

abbrev pub decreases-loop-left : goal.decreases-loop-left
decreases-loop-left l = l.left
