use Rattle.std.proofs.Common.{◌-◌, ◌^◌}
use Rattle.dependence.proofs.whole_rows.+fill_cube.Given as goal

abbrev pub decreases-fill_cube : goal.decreases-fill_cube
decreases-fill_cube l = 2 ^ l.cube.width - l.cube.care
