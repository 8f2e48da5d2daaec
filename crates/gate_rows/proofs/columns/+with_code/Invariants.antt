use Rattle.std.proofs.Common.{length}
use Rattle.gate_rows.proofs.columns.+with_code.Given as goal

abbrev pub decreases-with_code : goal.decreases-with_code
decreases-with_code l = length l.places.now
