use Rattle.hs_lattice.specs.Inner.Arrangement.{AreNumbers}
use Rattle.hs_lattice.proofs.arrangement.numbers.Given as goal

abbrev pub invariant-loop-number : goal.invariant-loop-number
invariant-loop-number l = AreNumbers l.number l.numbers.items
