use Rattle.std.proofs.Common.{◌-◌, ◌^◌}
use Rattle.state_pairs.proofs.rows.RowsByState.+first_open_in.Given as goal

abbrev pub decreases-first_open_in : goal.decreases-first_open_in
decreases-first_open_in g l = 2 ^ l.cube.width - l.cube.care
