use Rattle.std.proofs.Common.{subst}
use Rattle.kiss_file.specs.declared.file.KissFile.{KissFile}
use Rattle.kiss_file.specs.Machine.{Conflicting, Specified}
use Rattle.state_pairs.specs.Table.{IsTable}
use Rattle.machine_table.proofs.machine.Machine.is_complete.Goals as goal

pub returns-clause-specified : goal.returns-clause-specified
returns-clause-specified c complete = subst Specified c.self.view_is (c.self.invariant.2 complete)

pub returns-clause-table : goal.returns-clause-table
returns-clause-table c = subst IsTable c.self.view_is c.self.invariant.0

pub returns-clause-no_conflict : goal.returns-clause-no_conflict
returns-clause-no_conflict c = subst (λ (F : KissFile). Conflicting F → ⊥) c.self.view_is c.self.invariant.1
