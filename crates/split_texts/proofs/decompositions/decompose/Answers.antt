use Rattle.std.proofs.Common.{subst}
use Rattle.answers.specs.Outcome.{IsJudged}
use Rattle.blif_out.specs.NetworkText.{CanBeHeaded}
use Rattle.kiss_file.specs.declared.file.KissFile.{KissFile}
use Rattle.kiss_file.specs.Machine.{Conflicting}
use Rattle.split_texts.specs.Causes.{IsNotWritten}
use Rattle.split_texts.specs.SplitText.{IsOfKind}
use Rattle.state_reduce.specs.Laws.Works.{with_its_file}
use Rattle.split_texts.proofs.decompositions.decompose.Goals as goal

pub decompose_work-requires-clause-no_conflict : goal.decompose_work-requires-clause-no_conflict
decompose_work-requires-clause-no_conflict c = λ conflict. c.requires.accepted.no_conflict (subst Conflicting c.in_ok-work.ensures.file conflict)

pub returns : goal.returns
returns c =
    subst
    (λ (F : KissFile). IsJudged (IsNotWritten c.args.kind c.args.text.now c.args.reduce F) (λ made. CanBeHeaded made × IsOfKind c.args.kind c.args.text.now c.args.reduce F made) c.decompose_work.result)
    c.in_ok-work.ensures.file (c.decompose_work.ensures c.args.reduce (with_its_file c.args.reduce c.args.file.now c.in_ok-work.work c.in_ok-work.ensures))
