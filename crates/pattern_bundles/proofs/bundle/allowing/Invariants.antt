use Rattle.pattern_bundles.specs.Inner.Plane.{Allows}
use Rattle.pattern_bundles.proofs.Marking.{MarksFirst}
use Rattle.pattern_bundles.proofs.bundle.allowing.Given as goal

abbrev pub invariant-loop-k : goal.invariant-loop-k
invariant-loop-k l = MarksFirst l.patterns (Allows l.place l.one) l.k l.marks
