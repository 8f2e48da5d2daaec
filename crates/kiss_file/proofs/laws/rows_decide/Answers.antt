use Rattle.kiss_file.specs.Laws.Machine.{rows_decide}
use Rattle.kiss_file.proofs.laws.rows_decide.Goals as goal

pub returns : goal.returns
returns c = rows_decide
