use Rattle.io_pairs.specs.Inner.Families.{functions_of}
use Rattle.io_pairs.proofs.Tying.{IsLeastSoFar}
use Rattle.io_pairs.proofs.least.least_partner.Given as goal

abbrev pub invariant-loop-y : goal.invariant-loop-y
invariant-loop-y l = IsLeastSoFar l.family.values (functions_of l.family) l.p l.y l.q
