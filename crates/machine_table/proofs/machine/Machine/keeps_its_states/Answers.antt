use Rattle.kiss_file.specs.declared.file.KissFile.{KissFile}
use Rattle.kiss_file.specs.Machine.{Conflicting}
use Rattle.kiss_file.specs.Names.{AreDistinct}
use Rattle.std.proofs.Common.{subst}
use Rattle.state_pairs.specs.Table.{IsTable}
use Rattle.state_pairs.specs.NextStates.{NeverLeaves}
use Rattle.machine_table.proofs.machine.Machine.keeps_its_states.Goals as goal

pub returns-clause-table : goal.returns-clause-table
returns-clause-table c = subst IsTable c.self.view_is c.self.invariant.0

pub returns-clause-no_conflict : goal.returns-clause-no_conflict
returns-clause-no_conflict c = subst (λ (G : KissFile). Conflicting G → ⊥) c.self.view_is c.self.invariant.1

pub returns-clause-next : goal.returns-clause-next
returns-clause-next c = subst NeverLeaves c.self.view_is c.states.ensures.inside

pub returns-clause-names : goal.returns-clause-names
returns-clause-names c = subst (λ (F : KissFile). AreDistinct F.states) c.self.view_is c.states.ensures.names
