use Rattle.std.proofs.Common.{subst}
use Rattle.answers.specs.Outcome.{IsJudged}
use Rattle.blif_out.specs.NetworkText.{CanBeText}
use Rattle.generated_texts.specs.Trial.{IsTrialNetwork, LongCodeRow}
use Rattle.kiss_file.specs.declared.file.KissFile.{KissFile}
use Rattle.kiss_file.specs.Machine.{Conflicting}
use Rattle.generated_texts.proofs.trials.trial_of.Goals as goal

pub trial_on-requires-clause-no_conflict : goal.trial_on-requires-clause-no_conflict
trial_on-requires-clause-no_conflict c = λ conflict. c.requires.accepted.no_conflict (subst Conflicting c.in_ok-work.ensures.file conflict)

pub returns : goal.returns
returns c =
    subst
    (λ (F : KissFile). IsJudged (LongCodeRow c.args.numbers.seed c.args.numbers.a c.args.numbers.b c.args.numbers.k)
    (λ made. CanBeText made × IsTrialNetwork c.args.numbers.seed c.args.numbers.a c.args.numbers.b c.args.numbers.k F made) c.trial_on.result)
    c.in_ok-work.ensures.file c.trial_on.ensures
