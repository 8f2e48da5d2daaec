use Rattle.std.proofs.Common.{◌≡◌, true}
use Rattle.cubes.specs.Symbol.{bit}
use Rattle.cubes.proofs.gap.most_looked_at.Given as goal

abbrev pub invariant-loop-place : goal.invariant-loop-place
invariant-loop-place l = bit l.places l.best ≡ true
