use Rattle.std.proofs.Common.{◌-◌, ◌^◌}
use Rattle.cover_split.proofs.joint.+add_joints.Given as goal

abbrev pub decreases-add_joints : goal.decreases-add_joints
decreases-add_joints l = 2 ^ l.cube.width - l.cube.care
