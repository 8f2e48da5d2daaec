-- The state is none of those so far.
use Rattle.std.proofs.Common.{Contains, take}
use Rattle.shift_real.proofs.tables.is_among.Given as goal

abbrev pub invariant-loop-s : goal.invariant-loop-s
invariant-loop-s l = Contains (take l.s-index l.states) l.state → ⊥
