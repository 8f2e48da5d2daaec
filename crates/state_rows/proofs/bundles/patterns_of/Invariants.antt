use Rattle.state_rows.specs.Bundles.{ArePatterns}
use Rattle.state_rows.proofs.bundles.patterns_of.Given as goal

abbrev pub invariant-loop-number : goal.invariant-loop-number
invariant-loop-number l = ArePatterns l.aspect l.rows l.numbers l.number-index l.patterns.items
