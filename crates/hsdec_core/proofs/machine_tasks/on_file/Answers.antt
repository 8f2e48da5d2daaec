use Rattle.std.proofs.Common.{IfOk, refl, subst, length}
use Rattle.answers.specs.declared.numbers.Answer.TheVariants as answers
use Rattle.answers.specs.Outcome.{IsJudged}
use Rattle.blif_out.specs.NetworkText.{CanBeText}
use Rattle.cover_texts.specs.Flaws.{BadCoverRow}
use Rattle.cover_texts.specs.Laws.Causes.{bad_cover_is_of}
use Rattle.cover_texts.specs.CoverText.{IsCoverNetwork}
use Rattle.hsdec_core.specs.declared.tasks.FileTask.TheVariants.{Check, Cover, High, Low, Reduce}
use Rattle.hsdec_core.specs.Clocks.{HasCoverLatches}
use Rattle.hsdec_core.specs.Judgement.{file_cause}
use Rattle.hsdec_core.specs.Promise.{IsFileText}
use Rattle.hsdec_core.proofs.Clocks.{cover_linked}
use Rattle.hsdec_core.proofs.Reports.{drawn_reported, few_of, judged_reported, reported_as, whole_reported}
use Rattle.hsdec_core.proofs.machine_tasks.on_file.Goals as goal
use Rattle.machine_reports.specs.PartnerTexts.{IsHighText, IsLowText}
use Rattle.machine_reports.specs.ReducedText.{IsReducedText}
use Rattle.operands.specs.PartFaults.{BadPart}
use Rattle.operands.specs.Laws.Parts.{bad_part_is_of}

pub returns-in-Check : goal.returns-in-Check
returns-in-Check c =
    reported_as (λ task. file_cause task c.args.job.now) (λ task. IsFileText task c.args.job.now) (λ _ _ _. ⊥)
    _ Check c.args.file.now c.args.file.now c.whole.result c.in-Check.is refl
    (whole_reported (λ v. v.items) _ _ c.check.result c.whole.result c.whole.ensures c.check.ensures)

pub returns-in-Reduce : goal.returns-in-Reduce
returns-in-Reduce c =
    reported_as (λ task. file_cause task c.args.job.now) (λ task. IsFileText task c.args.job.now) (λ _ _ _. ⊥)
    _ Reduce c.args.file.now c.args.file.now c.whole-in-Reduce.result c.in-Reduce.is refl
    (whole_reported (λ v. v.items) _ _ c.reduce.result c.whole-in-Reduce.result c.whole-in-Reduce.ensures
    (subst (λ fill. IfOk c.reduce.result (λ v. IsReducedText c.args.file.now fill v.items)) c.fill.ensures c.reduce.ensures))

pub returns-in-Low : goal.returns-in-Low
returns-in-Low c =
    let M = c.args.machine.now in
    let job = c.args.job.now in
    reported_as (λ task. file_cause task job) (λ task. IsFileText task job) (λ _ _ _. ⊥)
    _ Low c.args.file.now M c.judged.result c.in-Low.is c.requires.machine
    (judged_reported (λ v. v.items) _ _ _ c.low.result c.judged.result c.judged.ensures (few_of answers.PartRefused _ (λ e. cc) (bad_part_is_of (length M.states) job.second))
    (subst (λ shown. IsJudged (BadPart (length M.states) job.second) (λ v. IsLowText shown M job.second v.items) c.low.result) c.shown.ensures
    (subst (λ part. IsJudged (BadPart (length M.states) part) (λ v. IsLowText c.shown.result M part v.items) c.low.result) c.bytes.ensures c.low.ensures)))

pub returns-in-High : goal.returns-in-High
returns-in-High c =
    let M = c.args.machine.now in
    let job = c.args.job.now in
    reported_as (λ task. file_cause task job) (λ task. IsFileText task job) (λ _ _ _. ⊥)
    _ High c.args.file.now M c.judged-in-High.result c.in-High.is c.requires.machine
    (judged_reported (λ v. v.items) _ _ _ c.high.result c.judged-in-High.result c.judged-in-High.ensures (few_of answers.PartRefused _ (λ e. cc) (bad_part_is_of (length M.states) job.second))
    (subst (λ shown. IsJudged (BadPart (length M.states) job.second) (λ v. IsHighText shown M job.second v.items) c.high.result) c.shown-in-High.ensures
    (subst (λ part. IsJudged (BadPart (length M.states) part) (λ v. IsHighText c.shown-in-High.result M part v.items) c.high.result) c.bytes-in-High.ensures c.high.ensures)))

pub returns-in-Cover : goal.returns-in-Cover
returns-in-Cover c =
    let F = c.args.file.now in
    let job = c.args.job.now in
    reported_as (λ task. file_cause task job) (λ task. IsFileText task job) (λ _ _ _. ⊥)
    _ Cover F F c.drawn.result c.in-Cover.is refl
    (drawn_reported job c.requires.named (BadCoverRow F job.second) (HasCoverLatches job.second) F _ _ (IsCoverNetwork F job.second) c.cover.result c.drawn.result c.drawn.ensures
    (few_of answers.CoverRefused _ (λ e. cc) (bad_cover_is_of F job.second)) (λ network right. cover_linked job F job.second network right) (λ network right text told. (network, right, told))
    (subst (λ text. IsJudged (BadCoverRow F text) (λ made. CanBeText made × IsCoverNetwork F text made) c.cover.result) c.bytes-in-Cover.ensures c.cover.ensures))
