use Rattle.std.proofs.Common.{length}
use Rattle.gate_rows.proofs.columns.+input_term.Given as goal

abbrev pub decreases-input_term : goal.decreases-input_term
decreases-input_term l = length l.inputs.now
