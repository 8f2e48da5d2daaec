use Rattle.std.proofs.Common.{◌-◌, ◌^◌}
use Rattle.machine_table.proofs.machine.Machine.+add_pieces.Given as goal

abbrev pub decreases-add_pieces : goal.decreases-add_pieces
decreases-add_pieces l = 2 ^ l.cube.width - l.cube.care
