use Rattle.std.proofs.Common.{ℕ, ◌≡◌, ◌<◌, get_or}
use Rattle.cubes.specs.declared.cube.Cube.{Cube}
use Rattle.cubes.specs.Inner.Region.{looked_at}
use Rattle.cubes.proofs.gap.holds_whole.Given as goal

abbrev pub invariant-loop-cube : goal.invariant-loop-cube
invariant-loop-cube l = (k : ℕ) (d : Cube) → k < l.cube-index → looked_at l.region (get_or l.cubes k d) ≡ 0 → ⊥
