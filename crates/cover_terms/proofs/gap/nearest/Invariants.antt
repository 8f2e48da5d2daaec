use Rattle.std.specs.List.{Contains}
use Rattle.cover_terms.proofs.gap.nearest.Given as goal

abbrev pub invariant-loop-term : goal.invariant-loop-term
invariant-loop-term l = Contains l.near l.nearest
