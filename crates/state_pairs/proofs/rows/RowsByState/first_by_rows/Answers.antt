use Rattle.std.proofs.Common.{ℕ, ◌<◌, ◌+◌, ◌^◌, IfSome, Option, length, subst, sym, arith}
use Rattle.kiss_file.specs.declared.file.KissRow.{KissRow}
use Rattle.state_pairs.specs.RowLabels.{ApartBelow, AreApartAt, MeetsApart}
use Rattle.state_rows.specs.Least.{IsMetBy, lesser_of}
use Rattle.state_pairs.proofs.AlikeRows.{pair_more}
use Rattle.state_rows.specs.Laws.Least.{if_some_map, lesser_has, met_least, met_left, met_right, met_settled}
use Rattle.state_pairs.proofs.rows.RowsByState.first_by_rows.Goals.{After-lesser-found}
use Rattle.state_pairs.proofs.rows.RowsByState.first_by_rows.Given as given
use Rattle.state_pairs.proofs.rows.RowsByState.first_by_rows.Goals as goal

found_some : (g : given.Over) (c : After-lesser-found g)
    → IfSome c.lesser-found.result (ApartBelow (g.Q.Question.said c.args.search.now.question.now) c.args.self.now.rows c.args.first.now c.args.second.now (length c.args.first.now))
found_some g c =
    let said = g.Q.Question.said c.args.search.now.question.now in
    let inside : c.loop-i.i < length c.args.first.now = omega arith in
    let Apart : ℕ → Type 0 = ApartBelow said c.args.self.now.rows c.args.first.now c.args.second.now (length c.args.first.now) in
    subst (λ (o : Option ℕ). IfSome o Apart) (sym c.lesser-found.ensures)
    (lesser_has Apart c.loop-i.found c.first_between.result c.loop-i.invariant.some
    (if_some_map (AreApartAt said c.row-row.result.now c.row-other.result.now) Apart c.first_between.result
    (λ x apart. (c.loop-i.i, c.row-row.result.now, c.row-other.result.now, inside, c.row-row.ensures.row, c.row-other.ensures.row, apart)) c.first_between.ensures.some))

found_within : (g : given.Over) (c : After-lesser-found g) → IfSome c.lesser-found.result (λ x. x < 2 ^ c.args.self.now.inputs)
found_within g c =
    subst (λ (o : Option ℕ). IfSome o (λ x. x < 2 ^ c.args.self.now.inputs)) (sym c.lesser-found.ensures)
    (lesser_has (λ x. x < 2 ^ c.args.self.now.inputs) c.loop-i.found c.first_between.result c.loop-i.invariant.within
    (subst (λ (w : ℕ). IfSome c.first_between.result (λ x. x < 2 ^ w)) c.row-row.ensures.lawful.width c.first_between.ensures.within))

pub loop-i-preserved : goal.loop-i-preserved
loop-i-preserved g c =
    let said = g.Q.Question.said c.args.search.now.question.now in
    let rows = c.args.self.now.rows in
    let first = c.args.first.now in
    let second = c.args.second.now in
    let i = c.loop-i.i in
    let least = c.args.search.now.least in
    let old = c.loop-i.found in
    let more = c.first_between.result in
    let inside : i < length first = omega arith in
    let also : i < length second = omega arith in
    record {
      some = found_some g (goal.at.loop-i-preserved g c).After-lesser-found;
      within = found_within g (goal.at.loop-i-preserved g c).After-lesser-found;
      met = subst (λ (o : Option ℕ). MeetsApart said rows first second (i + 1) o least) (sym c.lesser-found.ensures)
          (pair_more rows first second i (λ (r : KissRow) (o : KissRow). (y : ℕ) → AreApartAt said r o y → IsMetBy (lesser_of old more) least y)
          c.row-row.result.now c.row-other.result.now inside also c.row-row.ensures.row c.row-other.ensures.row
          (λ y apart. met_right old more least y (met_least more least y (c.first_between.ensures.least y apart)))
          (λ k d e r o below at_r at_o y apart. met_left old more least y (c.loop-i.invariant.met k d e r o below at_r at_o y apart)));
    }

pub returns-then-is_settled-clause-some : goal.returns-then-is_settled-clause-some
returns-then-is_settled-clause-some g c = found_some g (goal.at.returns-then-is_settled-clause-some g c).After-lesser-found

pub returns-then-is_settled-clause-within : goal.returns-then-is_settled-clause-within
returns-then-is_settled-clause-within g c = found_within g (goal.at.returns-then-is_settled-clause-within g c).After-lesser-found

pub returns-then-is_settled-clause-met : goal.returns-then-is_settled-clause-met
returns-then-is_settled-clause-met g c k d e row other within at_row at_other y apart =
    met_settled c.lesser-found.result c.args.search.now.least y (c.is_settled.ensures.some c.if-is_settled.true) (c.is_settled.ensures.any c.if-is_settled.true)

pub returns-clause-met : goal.returns-clause-met
returns-clause-met g c k d e row other within at_row at_other y apart =
    c.loop-i.invariant.met k d e row other (omega (arith, within, c.loop-i-test.false)) at_row at_other y apart
