use Rattle.std.proofs.Common.{refl}
use Rattle.cubes.specs.Field.{characters}
use Rattle.cubes.specs.Symbol.{symbol_of}
use Rattle.machine_table.proofs.WorkedFile.{conflict, entry, no_other}
use Rattle.machine_table.proofs.laws.worked_file.Goals as goal

pub returns-clause-conflict : goal.returns-clause-conflict
returns-clause-conflict c = conflict

pub returns-clause-no_other : goal.returns-clause-no_other
returns-clause-no_other c = no_other

pub returns-clause-entry : goal.returns-clause-entry
returns-clause-entry c = entry

pub returns-clause-next_state : goal.returns-clause-next_state
unfolding characters symbol_of
returns-clause-next_state c = refl

pub returns-clause-outputs : goal.returns-clause-outputs
unfolding characters symbol_of
returns-clause-outputs c = refl

pub returns-clause-open_next_state : goal.returns-clause-open_next_state
unfolding characters symbol_of
returns-clause-open_next_state c = refl

pub returns-clause-open_outputs : goal.returns-clause-open_outputs
unfolding characters symbol_of
returns-clause-open_outputs c = refl
