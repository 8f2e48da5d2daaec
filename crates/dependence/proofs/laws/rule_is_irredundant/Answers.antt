use Rattle.std.proofs.Common.{Contains}
use Rattle.list_facts.specs.Laws.Members.{among_or_not}
use Rattle.dependence.specs.Candidates.{IsBitOfCode, IsCandidate}
use Rattle.dependence.specs.Laws.Irredundant.{rule_least}
use Rattle.dependence.proofs.laws.rule_is_irredundant.Goals as goal

pub returns-clause-tests : goal.returns-clause-tests
returns-clause-tests c F words bits candidate read value within permits rule =
    rule_least F words _ (Contains read) value (among_or_not read) rule bits within permits

pub returns-clause-latches : goal.returns-clause-latches
returns-clause-latches c F words parts codes i read value permits rule =
    rule_least F words (IsCandidate parts codes i) (Contains read) value (among_or_not read) rule codes.bits (λ d is. is.bit) permits

pub returns-clause-outputs : goal.returns-clause-outputs
returns-clause-outputs c F words codes read value permits rule =
    rule_least F words (IsBitOfCode codes) (Contains read) value (among_or_not read) rule codes.bits (λ d is. is) permits
