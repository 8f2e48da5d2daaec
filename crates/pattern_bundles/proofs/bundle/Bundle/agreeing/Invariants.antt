use Rattle.std.proofs.Common.{ℕ, ◌≡◌}
use Rattle.std.specs.Int.{bit_at}
use Rattle.pattern_bundles.specs.Pattern.{Marks}
use Rattle.pattern_bundles.specs.Inner.Plane.{AgreeExcept}
use Rattle.pattern_bundles.proofs.bundle.Bundle.agreeing.Given as goal

abbrev pub invariant-loop-place : goal.invariant-loop-place
invariant-loop-place l = record {
  marked : Marks l.self-inside.patterns.items (AgreeExcept l.places l.pattern) l.marks;
  left : (place : ℕ) → bit_at l.places place ≡ 1 → bit_at l.pattern.care place ≡ 1;
}

abbrev pub decreases-loop-place : goal.decreases-loop-place
decreases-loop-place l = l.places
