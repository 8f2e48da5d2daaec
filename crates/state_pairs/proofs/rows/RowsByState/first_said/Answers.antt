use Rattle.std.proofs.Common.{IfSome, length}
use Rattle.state_pairs.specs.RowLabels.{ApartBelow, SayTwo}
use Rattle.state_pairs.proofs.AlikeRows.{met_by_places, two_from_places}
use Rattle.state_rows.specs.Laws.Least.{if_some_map}
use Rattle.state_pairs.proofs.rows.RowsByState.first_said.Goals.{After-first_by_rows-found}
use Rattle.state_pairs.proofs.rows.RowsByState.first_said.Given as given
use Rattle.state_pairs.proofs.rows.RowsByState.first_said.Goals as goal

-- what is found among rows of equal cubes differs between the states
found_some : (g : given.Over) (c : After-first_by_rows-found g)
    → IfSome c.first_by_rows-found.result (SayTwo (g.Q.Question.said c.args.search.now.question.now) c.args.self.now c.args.search.now.s c.args.search.now.t)
found_some g c =
    let F = c.args.self.now in
    let said = g.Q.Question.said c.args.search.now.question.now in
    let first = c.in-Some.rows.first.now in
    let second = c.in-Some.rows.second.now in
    if_some_map (ApartBelow said F.rows first second (length first)) (SayTwo said F c.args.search.now.s c.args.search.now.t) c.first_by_rows-found.result
    (two_from_places F c.aligned_rows.ensures.table said c.requires.one c.args.search.now.s c.args.search.now.t first second c.args.search.now.least c.in-Some.ensures.aligned)
    c.first_by_rows-found.ensures.some

pub returns-then-is_settled-clause-some : goal.returns-then-is_settled-clause-some
returns-then-is_settled-clause-some g c = found_some g (goal.at.returns-then-is_settled-clause-some g c).After-first_by_rows-found

pub returns-then-all_say-clause-some : goal.returns-then-all_say-clause-some
returns-then-all_say-clause-some g c = found_some g (goal.at.returns-then-all_say-clause-some g c).After-first_by_rows-found

pub returns-then-all_say-clause-met : goal.returns-then-all_say-clause-met
returns-then-all_say-clause-met g c =
    met_by_places c.args.self.now c.aligned_rows.ensures.table (g.Q.Question.said c.args.search.now.question.now) c.requires.one c.args.search.now.s c.args.search.now.t c.in-Some.rows.first.now
    c.in-Some.rows.second.now c.args.search.now.least c.in-Some.ensures.aligned (c.all_say.ensures c.if-all_say.true) c.first_by_rows-found.result c.first_by_rows-found.ensures.met
