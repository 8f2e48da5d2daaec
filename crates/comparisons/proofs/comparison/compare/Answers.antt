use Rattle.std.proofs.Common.{IfOk, subst}
use Rattle.comparisons.specs.Comparison.{IsCompared}
use Rattle.kiss_file.specs.declared.file.KissFile.{KissFile}
use Rattle.kiss_file.specs.Machine.{Conflicting}
use Rattle.state_reduce.specs.Laws.Works.{with_its_file}
use Rattle.comparisons.proofs.comparison.compare.Goals as goal

pub compare_work-requires-clause-no_conflict : goal.compare_work-requires-clause-no_conflict
compare_work-requires-clause-no_conflict c = λ conflict. c.requires.accepted.no_conflict (subst Conflicting c.in_ok-work.ensures.file conflict)

pub returns : goal.returns
returns c =
    subst (λ (F : KissFile). IfOk c.compare_work.result (λ text. IsCompared c.args.reduce F text.items)) c.in_ok-work.ensures.file
    (c.compare_work.ensures c.args.reduce (with_its_file c.args.reduce c.args.file.now c.in_ok-work.work c.in_ok-work.ensures))
