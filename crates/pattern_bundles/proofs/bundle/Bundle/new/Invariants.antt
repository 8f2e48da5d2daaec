use Rattle.std.proofs.Common.{ℕ, ◌≡◌, Some, false, length, slice_get, true}
use Rattle.pattern_bundles.specs.declared.bundle.Plane.{Plane}
use Rattle.pattern_bundles.specs.Pattern.{Marks}
use Rattle.pattern_bundles.specs.Inner.Plane.{Allows}
use Rattle.pattern_bundles.proofs.bundle.Bundle.new.Given as goal

abbrev pub invariant-loop-place : goal.invariant-loop-place
invariant-loop-place l = record {
  size : length l.planes.items ≡ l.place;
  zeros : (k : ℕ) (plane : Plane) → slice_get l.planes.items k ≡ Some plane → Marks l.patterns (Allows k false) plane.zeros;
  ones : (k : ℕ) (plane : Plane) → slice_get l.planes.items k ≡ Some plane → Marks l.patterns (Allows k true) plane.ones;
}
