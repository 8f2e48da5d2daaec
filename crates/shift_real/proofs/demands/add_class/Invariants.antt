-- The demands of the class so far, and those before.
use Rattle.std.proofs.Common.{◌⊎◌}
use Rattle.shift_real.specs.Inner.ContentDemands.{AreClassDemands, IsOfClassAsFar, IsOfClassBelow}
use Rattle.shift_real.proofs.demands.add_class.Given as goal

abbrev pub invariant-loop-number : goal.invariant-loop-number
invariant-loop-number l =
    AreClassDemands l.m l.b l.classes (λ n. IsOfClassBelow l.classes l.mask l.class n ⊎ IsOfClassAsFar l.classes l.mask l.class l.number n) l.demands.items
