use Rattle.std.proofs.Common.{◌-◌, ◌^◌}
use Rattle.cubes.proofs.gap.+some_gap.Given as goal

abbrev pub decreases-some_gap : goal.decreases-some_gap
decreases-some_gap l = 2 ^ 32 - l.region.now.care
