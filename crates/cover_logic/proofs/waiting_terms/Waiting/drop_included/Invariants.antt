use Rattle.cover_logic.proofs.Groups.{AreFirstDropped}
use Rattle.cover_logic.proofs.waiting_terms.Waiting.drop_included.Given as goal

abbrev pub invariant-loop-group : goal.invariant-loop-group
invariant-loop-group l = AreFirstDropped l.fn.row l.fn.self.groups.items l.group-items l.group-index
