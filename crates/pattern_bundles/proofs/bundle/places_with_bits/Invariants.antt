use Rattle.std.proofs.Common.{ℕ, ◌≡◌, ◌<◌, Some, slice_get}
use Rattle.std.specs.Int.{bit_at}
use Rattle.pattern_bundles.specs.declared.pattern.Pattern.{Pattern}
use Rattle.pattern_bundles.proofs.bundle.places_with_bits.Given as goal

abbrev pub invariant-loop-pattern : goal.invariant-loop-pattern
invariant-loop-pattern l =
    (k place : ℕ) (p : Pattern) → slice_get l.patterns k ≡ Some p → k < l.pattern-index → bit_at p.care place ≡ 1 → bit_at l.care place ≡ 1
