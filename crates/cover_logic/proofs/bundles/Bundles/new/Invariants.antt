use Rattle.cover_logic.proofs.Entries.{AreFirst}
use Rattle.cover_logic.proofs.bundles.Bundles.new.Given as goal

abbrev pub invariant-loop-number : goal.invariant-loop-number
invariant-loop-number l = AreFirst l.terms l.number l.entries.items
