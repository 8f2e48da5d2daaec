use Rattle.std.proofs.Common.{subst}
use Rattle.answers.specs.Outcome.{IsJudged}
use Rattle.hsdec_core.proofs.Reports.{parts_few}
use Rattle.hsdec_core.proofs.machine_tasks.part_of_split.Goals as goal
use Rattle.hsdec_core.specs.SplitOperands.{split_kind}
use Rattle.part_texts.specs.PartCauses.{HasNoPart}
use Rattle.part_texts.specs.PartText.{IsPartText}

pub part-requires-clause-few : goal.part-requires-clause-few
part-requires-clause-few c = λ assign. parts_few c.args.job.now.second c.bytes-split.result.now c.bytes-split.ensures c.requires.few

pub returns : goal.returns
returns c =
    let F = c.args.file.now in
    let job = c.args.job.now in
    subst (λ which. IsJudged (HasNoPart (split_kind job.second) job.second which job.reduce F) (λ written. IsPartText (split_kind job.second) job.second which job.reduce F written.items) c.part.result) c.which.ensures
    (subst (λ text. IsJudged (HasNoPart (split_kind text) text c.which.result job.reduce F) (λ written. IsPartText (split_kind text) text c.which.result job.reduce F written.items) c.part.result) c.bytes-split.ensures
    (subst (λ kind. IsJudged (HasNoPart kind c.bytes-split.result.now c.which.result job.reduce F) (λ written. IsPartText kind c.bytes-split.result.now c.which.result job.reduce F written.items) c.part.result) c.kind_of_split.ensures c.part.ensures))
