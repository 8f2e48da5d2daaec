-- The demands of the classes so far.
use Rattle.shift_real.specs.Inner.ContentDemands.{AreClassDemands, IsOfClassBelow}
use Rattle.shift_real.proofs.demands.content_demands.Given as goal

abbrev pub invariant-loop-class : goal.invariant-loop-class
invariant-loop-class l = AreClassDemands l.m l.b l.classes (IsOfClassBelow l.classes l.mask l.class) l.demands.items
