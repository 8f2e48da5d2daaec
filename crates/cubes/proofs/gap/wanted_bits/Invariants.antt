use Rattle.std.proofs.Common.{ℕ, ◌<◌, get_or}
use Rattle.cubes.specs.declared.cube.Cube.{Cube}
use Rattle.cubes.proofs.Wanting.{AreOpen, Wants}
use Rattle.cubes.proofs.gap.wanted_bits.Given as goal

-- what the cubes so far want
pub record SoFar (cubes : ℕ → Cube → Cube) (region : Cube) (count ones zeros : ℕ) : Type 0 where
  pub ones_open : AreOpen region ones
  pub zeros_open : AreOpen region zeros
  pub each : (i : ℕ) (d : Cube) → i < count → Wants region ones zeros (cubes i d)

abbrev pub invariant-loop-cube : goal.invariant-loop-cube
invariant-loop-cube l = SoFar (get_or l.cubes) l.region l.cube-index l.ones l.zeros
