use Rattle.std.proofs.Common.{subst}
use Rattle.kiss_file.specs.declared.file.KissFile.{KissFile}
use Rattle.state_pairs.specs.NextStates.{NeverLeaves}
use Rattle.state_pairs.specs.Laws.Staying.{never_leaves}
use Rattle.state_pairs.proofs.rows.RowsByState.states.Goals as goal

pub returns-clause-inside : goal.returns-clause-inside
returns-clause-inside c =
    subst (λ (F : KissFile). NeverLeaves F) c.self.view_is (never_leaves c.self.inside.file c.self.invariant.0 c.self.invariant.1)
