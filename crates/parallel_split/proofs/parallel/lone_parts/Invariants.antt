use Rattle.std.proofs.Common.{◌≡◌, map}
use Rattle.state_codes.specs.Split.{lone_part}
use Rattle.parallel_split.proofs.parallel.lone_parts.Given as goal

abbrev pub invariant-loop-partition : goal.invariant-loop-partition
invariant-loop-partition l = l.parts ≡ map lone_part l.yielded
