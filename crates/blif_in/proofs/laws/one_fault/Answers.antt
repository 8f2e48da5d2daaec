use Rattle.blif_in.proofs.Texts.{never_both, one_fault}
use Rattle.blif_in.proofs.laws.one_fault.Goals as goal

pub returns-clause-never_both : goal.returns-clause-never_both
returns-clause-never_both c = never_both

pub returns-clause-once : goal.returns-clause-once
returns-clause-once c = one_fault
