use Rattle.std.proofs.Common.{subst}
use Rattle.answers.specs.Outcome.{IsJudged}
use Rattle.kiss_file.specs.declared.file.KissFile.{KissFile}
use Rattle.kiss_file.specs.Machine.{Conflicting}
use Rattle.part_texts.specs.PartCauses.{HasNoPart}
use Rattle.part_texts.specs.PartText.{IsPartText}
use Rattle.state_reduce.specs.Laws.Works.{with_its_file}
use Rattle.part_texts.proofs.machines.part.Goals as goal

pub part_of_work-requires-clause-no_conflict : goal.part_of_work-requires-clause-no_conflict
part_of_work-requires-clause-no_conflict c = λ conflict. c.requires.accepted.no_conflict (subst Conflicting c.in_ok-work.ensures.file conflict)

pub returns : goal.returns
returns c =
    subst
    (λ (F : KissFile). IsJudged (HasNoPart c.args.kind c.args.text.now c.args.which c.args.reduce F) (λ written. IsPartText c.args.kind c.args.text.now c.args.which c.args.reduce F written.items) c.part_of_work.result)
    c.in_ok-work.ensures.file (c.part_of_work.ensures c.args.reduce (with_its_file c.args.reduce c.args.file.now c.in_ok-work.work c.in_ok-work.ensures))
