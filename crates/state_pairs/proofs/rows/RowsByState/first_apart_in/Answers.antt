use Rattle.std.proofs.Common.{ℕ, ◌≡◌, ◌<◌, ◌^◌, List, IfSome, Some, get_or, slice_get, length, subst, sym}
use Rattle.state_pairs.specs.MarkedRows.{IsSearchedTo}
use Rattle.state_pairs.proofs.MarkedRows.{searched_first, searched_in, searched_next}
use Rattle.state_rows.specs.Laws.Least.{met_settled}
use Rattle.state_pairs.proofs.rows.RowsByState.first_apart_in.Goals.{After-lesser-found}
use Rattle.state_pairs.proofs.rows.RowsByState.first_apart_in.Given as given
use Rattle.state_pairs.proofs.rows.RowsByState.first_apart_in.Goals as goal

pub loop-place-init : goal.loop-place-init
loop-place-init g c =
    searched_first (g.Q.Question.said c.args.search.now.question.now) c.args.self.now c.args.bundle.now.numbers c.args.row.now c.args.search.now.least c.meeting-marks.result
    (c.meeting-marks.ensures c.args.self.now.rows c.requires.bundle c.requires.fit)

searched : (g : given.Over) (c : After-lesser-found g)
    → IsSearchedTo (g.Q.Question.said c.args.search.now.question.now) c.args.self.now c.args.bundle.now.numbers c.args.row.now c.args.search.now.least c.take_first.new.marks c.lesser-found.result
searched g c =
    let F = c.args.self.now in
    let said = g.Q.Question.said c.args.search.now.question.now in
    let numbers = c.args.bundle.now.numbers in
    let at : slice_get F.rows (get_or numbers c.in-Some.place 0) ≡ Some c.row-other.result.now =
    subst (λ (list : List ℕ). slice_get F.rows (get_or list c.in-Some.place 0) ≡ Some c.row-other.result.now) c.as_slice-numbers.ensures c.row-other.ensures.row in
    searched_next said F numbers c.args.row.now c.args.search.now.least c.loop-place.marks c.in-Some.place c.take_first.new.marks c.loop-place.found c.first_between.result
    c.lesser-found.result c.row-other.result.now c.loop-place.invariant c.in-Some.ensures.taken c.in-Some.ensures.first.marked at c.lesser-found.ensures c.first_between.ensures.some
    (subst (λ (w : ℕ). IfSome c.first_between.result (λ x. x < 2 ^ w)) c.requires.row.width c.first_between.ensures.within) c.first_between.ensures.least

pub bounds-numbers-place : goal.bounds-numbers-place
bounds-numbers-place g c =
    subst (λ (list : List ℕ). c.in-Some.place < length list) (sym c.as_slice-numbers.ensures) (c.loop-place.invariant.left.inside c.in-Some.place c.in-Some.ensures.first.marked)

pub loop-place-preserved : goal.loop-place-preserved
loop-place-preserved g c = searched g (goal.at.loop-place-preserved g c).After-lesser-found

pub loop-place-smaller : goal.loop-place-smaller
loop-place-smaller g c = c.in-Some.ensures.taken.less

pub returns-then-is_settled : goal.returns-then-is_settled
returns-then-is_settled g c =
    let known = searched g (goal.at.returns-then-is_settled g c).After-lesser-found in
    record {
      some = known.some;
      within = known.within;
      met = λ k other at y apart. met_settled c.lesser-found.result c.args.search.now.least y (c.is_settled.ensures.some c.if-is_settled.true) (c.is_settled.ensures.any c.if-is_settled.true);
    }

pub returns : goal.returns
returns g c =
    searched_in (g.Q.Question.said c.args.search.now.question.now) c.args.self.now c.args.bundle.now.numbers c.args.row.now c.args.search.now.least c.requires.fit c.loop-place.marks c.loop-place.found
    c.in_default.ensures.none c.loop-place.invariant
