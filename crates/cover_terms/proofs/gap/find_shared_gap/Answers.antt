use Rattle.std.proofs.lemmas.Result.{IfOk-weaker}
use Rattle.cover_terms.specs.Laws.Gaps.{shared_gap}
use Rattle.cover_terms.proofs.gap.find_shared_gap.Goals as goal

pub returns-in-Some : goal.returns-in-Some
returns-in-Some c =
    IfOk-weaker c.find_gap.result _ _ (λ gap h. shared_gap c.args.row c.args.term c.in-Some.part c.args.others.now gap c.in-Some.ensures h) c.find_gap.ensures
