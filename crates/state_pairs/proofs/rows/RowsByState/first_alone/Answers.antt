use Rattle.std.proofs.Common.{◌+◌, get_or}
use Rattle.std.proofs.lemmas.List.Elements.{Contains-get_or}
use Rattle.state_pairs.specs.RowLabels.{IsAloneAt, IsSearched, SaysAlone}
use Rattle.state_pairs.specs.Laws.Sought.{alone_wanted, alone_of_row, meets_all, row_of, searched_more}
use Rattle.state_rows.specs.Laws.Least.{if_some_map}
use Rattle.state_pairs.proofs.rows.RowsByState.first_alone.Goals.{After-lesser-found}
use Rattle.state_pairs.proofs.rows.RowsByState.first_alone.Given as given
use Rattle.state_pairs.proofs.rows.RowsByState.first_alone.Goals as goal

searched : (g : given.Over) (c : After-lesser-found g) → IsSearched c.args.self.now c.numbers_of-number-items.result.now (c.loop-number.number-index + 1)
    (IsAloneAt (g.Q.Question.said c.args.search.now.question.now) c.args.self.now c.args.search.now.t (g.Q.Question.unsaid c.args.search.now.question.now c.args.search.now.t)) (SaysAlone (g.Q.Question.said c.args.search.now.question.now) c.args.self.now c.args.search.now.s c.args.search.now.t (g.Q.Question.unsaid c.args.search.now.question.now c.args.search.now.t)) c.lesser-found.result c.args.search.now.least
searched g c =
    let F = c.args.self.now in
    let asked = c.numbers_of-number-items in
    let i = get_or asked.result.now c.loop-number.number-index 0 in
    let row = c.row.result.now in
    let own = asked.ensures.own i (Contains-get_or asked.result.now c.loop-number.number-index 0 c.loop-number-test.true) in
    searched_more F asked.result.now c.loop-number.number-index (IsAloneAt (g.Q.Question.said c.args.search.now.question.now) c.args.self.now c.args.search.now.t (g.Q.Question.unsaid c.args.search.now.question.now c.args.search.now.t)) (SaysAlone (g.Q.Question.said c.args.search.now.question.now) c.args.self.now c.args.search.now.s c.args.search.now.t (g.Q.Question.unsaid c.args.search.now.question.now c.args.search.now.t))
    c.loop-number.found c.first_alone_in.result c.lesser-found.result c.args.search.now.least row
    c.loop-number.invariant c.lesser-found.ensures c.loop-number-test.true c.row.ensures.row
    (if_some_map (IsAloneAt (g.Q.Question.said c.args.search.now.question.now) c.args.self.now c.args.search.now.t (g.Q.Question.unsaid c.args.search.now.question.now c.args.search.now.t) row) (SaysAlone (g.Q.Question.said c.args.search.now.question.now) c.args.self.now c.args.search.now.s c.args.search.now.t (g.Q.Question.unsaid c.args.search.now.question.now c.args.search.now.t)) c.first_alone_in.result
    (alone_of_row F asked.ensures.table (g.Q.Question.said c.args.search.now.question.now) c.args.search.now.s c.args.search.now.t (g.Q.Question.unsaid c.args.search.now.question.now c.args.search.now.t) row (row_of F c.args.search.now.s i row own c.row.ensures.row)) c.first_alone_in.ensures.some)
    c.first_alone_in.ensures.within c.first_alone_in.ensures.met

pub loop-number-preserved : goal.loop-number-preserved
loop-number-preserved g c = searched g (goal.at.loop-number-preserved g c).After-lesser-found

pub returns-then-is_settled-clause-some : goal.returns-then-is_settled-clause-some
returns-then-is_settled-clause-some g c = (searched g (goal.at.returns-then-is_settled-clause-some g c).After-lesser-found).some

pub returns-then-is_settled-clause-within : goal.returns-then-is_settled-clause-within
returns-then-is_settled-clause-within g c = (searched g (goal.at.returns-then-is_settled-clause-within g c).After-lesser-found).within

pub returns-clause-met : goal.returns-clause-met
returns-clause-met g c y wants =
    let asked = c.numbers_of-number-items in
    let said = g.Q.Question.said c.args.search.now.question.now in
    let there = alone_wanted c.args.self.now asked.ensures.table said c.args.search.now.s c.args.search.now.t (g.Q.Question.unsaid c.args.search.now.question.now c.args.search.now.t) y wants in
    meets_all c.args.self.now c.args.search.now.s asked.result.now c.loop-number.number-index (IsAloneAt (g.Q.Question.said c.args.search.now.question.now) c.args.self.now c.args.search.now.t (g.Q.Question.unsaid c.args.search.now.question.now c.args.search.now.t))
    c.loop-number.found c.args.search.now.least asked.ensures.each c.loop-number.invariant.met c.loop-number-test.false there.0 there.1 y there.2
