use Rattle.io_pairs.specs.Inner.Families.{TiesBelow, functions_of}
use Rattle.io_pairs.proofs.least.tie.Given as goal

abbrev pub invariant-loop-k : goal.invariant-loop-k
invariant-loop-k l = TiesBelow (functions_of l.family) l.k l.x l.y l.initial.q l.q
