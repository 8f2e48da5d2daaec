use Rattle.std.proofs.Common.{◌≡◌, ℕ, ◌<◌, get_or}
use Rattle.cover_logic.specs.declared.waiting_terms.Group.{Group}
use Rattle.cover_logic.proofs.waiting_terms.Waiting.first_live.Given as goal

abbrev pub invariant-loop-i : goal.invariant-loop-i
invariant-loop-i l = (k : ℕ) (d : Group) → k < l.i → (get_or l.self.groups.items k d).live ≡ 0
