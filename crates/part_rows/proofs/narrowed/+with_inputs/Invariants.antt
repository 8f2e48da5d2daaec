use Rattle.std.proofs.Common.{length}
use Rattle.part_rows.proofs.narrowed.+with_inputs.Given as goal

abbrev pub decreases-with_inputs : goal.decreases-with_inputs
decreases-with_inputs l = length l.inputs.now
