use Rattle.std.proofs.Common.{subst}
use Rattle.answers.specs.Outcome.{IsJudged}
use Rattle.blif_out.specs.NetworkText.{CanBeText}
use Rattle.kiss_file.specs.declared.file.KissFile.{KissFile}
use Rattle.kiss_file.specs.Machine.{Conflicting}
use Rattle.shift_texts.specs.Causes.{RefusesShift}
use Rattle.shift_texts.specs.ShiftText.{IsShiftNetwork}
use Rattle.state_reduce.specs.Laws.Works.{with_its_file}
use Rattle.shift_texts.proofs.registers.shift.Goals as goal

pub shift_of-requires-clause-no_conflict : goal.shift_of-requires-clause-no_conflict
shift_of-requires-clause-no_conflict c = λ conflict. c.requires.accepted.no_conflict (subst Conflicting c.in_ok-work.ensures.file conflict)

pub returns : goal.returns
returns c =
    subst (λ (F : KissFile). IsJudged (RefusesShift c.args.reduce F) (λ made. CanBeText made × IsShiftNetwork c.args.reduce F made) c.shift_of.result)
    c.in_ok-work.ensures.file (c.shift_of.ensures c.args.reduce (with_its_file c.args.reduce c.args.file.now c.in_ok-work.work c.in_ok-work.ensures))
