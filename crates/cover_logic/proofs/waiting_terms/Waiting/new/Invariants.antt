use Rattle.std.proofs.Common.{vec_len}
use Rattle.cover_logic.proofs.Groups.{AreGrouped}
use Rattle.cover_logic.proofs.waiting_terms.Waiting.new.Given as goal

abbrev pub invariant-loop-bundle : goal.invariant-loop-bundle
invariant-loop-bundle l = AreGrouped l.terms l.left.items l.groups.items

abbrev pub decreases-loop-bundle : goal.decreases-loop-bundle
decreases-loop-bundle l = vec_len l.left
