use Rattle.std.proofs.Common.{ap, inl, inr, refl, ◌∙◌, subst}
use Rattle.answers.specs.declared.numbers.Answer.TheVariants as answers
use Rattle.answers.specs.Outcome.{IsJudged}
use Rattle.blif_out.specs.NetworkText.{CanBeHeaded}
use Rattle.hsdec_core.specs.declared.tasks.WorkTask.TheVariants.{Compare, Decompose, Definite, Part, Shift}
use Rattle.hsdec_core.specs.Clocks.{HasRegisterLatches, HasSplitLatches}
use Rattle.hsdec_core.specs.Judgement.{work_cause}
use Rattle.hsdec_core.specs.Promise.{IsWorkText}
use Rattle.hsdec_core.specs.SplitOperands.{split_kind, which_of}
use Rattle.hsdec_core.proofs.Clocks.{register_linked, split_linked}
use Rattle.hsdec_core.proofs.Families.{not_written_plain, part_plain, shift_plain}
use Rattle.hsdec_core.proofs.Reports.{drawn_reported, few_of, headed_reported, judged_first, judged_reported, parts_few, plain_few, reported_as, whole_reported}
use Rattle.hsdec_core.proofs.machine_tasks.on_work.Goals as goal
use Rattle.machine_reports.specs.Causes.{NotDefiniteRow}
use Rattle.machine_reports.specs.DefiniteText.{IsChainText}
use Rattle.machine_reports.specs.Laws.Causes.{not_definite_is_of}
use Rattle.split_texts.specs.Causes.{IsNotWritten}
use Rattle.split_texts.specs.SplitText.{IsOfKind}
use Rattle.shift_texts.specs.Causes.{RefusesShift}
use Rattle.shift_texts.specs.ShiftText.{IsShiftNetwork}

pub decompose-made-requires-clause-few : goal.decompose-made-requires-clause-few
decompose-made-requires-clause-few c = λ assign. parts_few c.args.job.now.second c.bytes.result.now c.bytes.ensures (c.requires.few (inl (c.in-Decompose.is ∙ ap Decompose assign)))

pub headed-requires : goal.headed-requires
headed-requires c = judged_first _ CanBeHeaded (IsOfKind c.in-Decompose.kind c.bytes.result.now c.args.job.now.reduce c.args.file.now) c.decompose-made.result c.decompose-made.ensures

pub returns-in-Definite : goal.returns-in-Definite
returns-in-Definite c =
    let F = c.args.file.now in
    let reduce = c.args.job.now.reduce in
    reported_as (λ task. work_cause task c.args.job.now) (λ task. IsWorkText task c.args.job.now) (λ _ _ _. ⊥)
    _ Definite F F c.judged.result c.in-Definite.is refl
    (judged_reported (λ v. v.items) _ _ _ c.definite-made.result c.judged.result c.judged.ensures (few_of answers.NotDefinite _ (λ e. cc) (not_definite_is_of reduce F))
    (subst (λ shown. IsJudged (NotDefiniteRow reduce F) (λ v. IsChainText shown reduce F v.items) c.definite-made.result) c.shown.ensures c.definite-made.ensures))

pub returns-in-Compare : goal.returns-in-Compare
returns-in-Compare c =
    let F = c.args.file.now in
    reported_as (λ task. work_cause task c.args.job.now) (λ task. IsWorkText task c.args.job.now) (λ _ _ _. ⊥)
    _ Compare F F c.whole.result c.in-Compare.is refl
    (whole_reported (λ v. v.items) _ _ c.compare.result c.whole.result c.whole.ensures c.compare.ensures)

pub returns-in-Shift : goal.returns-in-Shift
returns-in-Shift c =
    let F = c.args.file.now in
    let job = c.args.job.now in
    reported_as (λ task. work_cause task job) (λ task. IsWorkText task job) (λ _ _ _. ⊥)
    _ Shift F F c.drawn.result c.in-Shift.is refl
    (drawn_reported job c.requires.named (RefusesShift job.reduce F) (HasRegisterLatches job.reduce) F _ _ (IsShiftNetwork job.reduce F) c.shift-made.result c.drawn.result c.drawn.ensures
    (λ refusal h. plain_few _ (shift_plain job.reduce F refusal h)) (λ network right. register_linked job job.reduce F network c.requires.lawful right) (λ network right text told. (network, right, told)) c.shift-made.ensures)

pub part_of_split-requires-clause-few : goal.part_of_split-requires-clause-few
part_of_split-requires-clause-few c = c.requires.few (inr c.in-Part.is)

pub returns-in-Part : goal.returns-in-Part
returns-in-Part c =
    let F = c.args.file.now in
    let job = c.args.job.now in
    reported_as (λ task. work_cause task job) (λ task. IsWorkText task job) (λ _ _ _. ⊥)
    _ Part F F c.judged-in-Part.result c.in-Part.is refl
    (judged_reported (λ v. v.items) _ _ _ c.part_of_split.result c.judged-in-Part.result c.judged-in-Part.ensures
    (λ refusal h. plain_few _ (part_plain (split_kind job.second) job.second (which_of job.part) job.reduce F refusal h)) c.part_of_split.ensures)

pub returns-in-Decompose : goal.returns-in-Decompose
returns-in-Decompose c =
    let F = c.args.file.now in
    let job = c.args.job.now in
    let kind = c.in-Decompose.kind in
    let reduce = job.reduce in
    reported_as (λ task. work_cause task job) (λ task. IsWorkText task job) (λ _ _ _. ⊥)
    _ (Decompose kind) F F c.headed.result c.in-Decompose.is refl
    (headed_reported job c.requires.named (IsNotWritten kind job.second reduce F) (HasSplitLatches kind job.second reduce) F _ _ (IsOfKind kind job.second reduce F) c.decompose-made.result c.headed.result c.headed.ensures
    (λ refusal h. plain_few _ (not_written_plain kind job.second reduce F refusal h)) (λ headed right. split_linked job kind job.second reduce F headed right) (λ headed right text told. (headed, right, told))
    (subst (λ text. IsJudged (IsNotWritten kind text reduce F) (λ made. CanBeHeaded made × IsOfKind kind text reduce F made) c.decompose-made.result) c.bytes.ensures c.decompose-made.ensures))
