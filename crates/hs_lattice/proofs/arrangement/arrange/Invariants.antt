use Rattle.hs_lattice.proofs.Moving.{IsArranging}
use Rattle.hs_lattice.proofs.arrangement.arrange.Given as goal

abbrev pub invariant-loop-i : goal.invariant-loop-i
invariant-loop-i g l = IsArranging l.initial.items l.order l.i l.items l.standing.items l.places.items
