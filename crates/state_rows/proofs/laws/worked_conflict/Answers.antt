use Rattle.state_rows.specs.Laws.WorkedConflict.{first_two, only_two}
use Rattle.state_rows.proofs.laws.worked_conflict.Goals as goal

pub returns-clause-first : goal.returns-clause-first
returns-clause-first c = first_two

pub returns-clause-only : goal.returns-clause-only
returns-clause-only c = only_two
