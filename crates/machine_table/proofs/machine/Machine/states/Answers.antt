use Rattle.std.proofs.Common.{◌≡◌, length, subst}
use Rattle.kiss_file.specs.declared.file.KissFile.{KissFile}
use Rattle.state_pairs.specs.NextStates.{NeverLeaves}
use Rattle.machine_table.proofs.machine.Machine.states.Goals as goal

pub returns-clause-count : goal.returns-clause-count
returns-clause-count c = subst (λ (F : KissFile). c.states.result ≡ length F.states) c.self.view_is c.states.ensures.count

pub returns-clause-inside : goal.returns-clause-inside
returns-clause-inside c = subst NeverLeaves c.self.view_is c.states.ensures.inside
