use Rattle.state_pairs.specs.RowLabels.{SayTwo}
use Rattle.state_pairs.specs.Laws.Sought.{two_turned}
use Rattle.state_rows.specs.Laws.Least.{if_some_map}
use Rattle.state_pairs.proofs.rows.RowsByState.first_by_fewer.Goals as goal

pub returns-clause-some : goal.returns-clause-some
returns-clause-some g c =
    let F = c.args.self.now in
    let said = g.Q.Question.said c.args.search.now.question.now in
    if_some_map (SayTwo said F c.args.search.now.t c.args.search.now.s) (SayTwo said F c.args.search.now.s c.args.search.now.t) c.first_by_pairs-2.result
    (two_turned F said c.args.search.now.t c.args.search.now.s) c.first_by_pairs-2.ensures.some

pub returns-clause-met : goal.returns-clause-met
returns-clause-met g c y two =
    c.first_by_pairs-2.ensures.met y (two_turned c.args.self.now (g.Q.Question.said c.args.search.now.question.now) c.args.search.now.s c.args.search.now.t y two)
