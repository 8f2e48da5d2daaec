use Rattle.std.proofs.Common.{ℕ, IsNone, get_or, is_some, sym, ◌∙◌, inl, inr, arith}
use Rattle.std.proofs.lemmas.Bool.{cases_Bool, true≢false}
use Rattle.std.proofs.lemmas.List.Elements.{Contains-get_or}
use Rattle.cubes.specs.Cube.{HoldsNumber}
use Rattle.kiss_file.specs.declared.file.KissRow.{KissRow}
use Rattle.state_pairs.specs.Laws.Asking.{looked_at, of_each_row}
use Rattle.cubes.specs.Laws.SharedCubes.{meets_from_held}
use Rattle.state_pairs.specs.Laws.Sought.{at_from_held, row_of}
use Rattle.state_pairs.proofs.rows.RowsByState.said_in.Goals as goal

pub returns-then-says_in-clause-some : goal.returns-then-says_in-clause-some
returns-then-says_in-clause-some g c y held silent =
    let F = c.args.self.now in
    let asked = c.numbers_of-number-items in
    let i = get_or asked.result.now c.loop-number.number-index 0 in
    let row = c.row-row.result.now in
    let own = asked.ensures.own i (Contains-get_or asked.result.now c.loop-number.number-index 0 c.loop-number-test.true) in
    let says = c.says_in.ensures.0 c.if-says_in.true in
    true≢false (sym says.0 ∙ silent row (at_from_held F asked.ensures.table c.args.s y row (row_of F c.args.s i row own c.row-row.ensures.row) held))

pub loop-number-preserved : goal.loop-number-preserved
loop-number-preserved g c =
    let said = g.Q.Question.said c.args.question.now in
    let row = c.row-row.result.now in
    looked_at c.args.self.now.rows c.numbers_of-number-items.result.now c.loop-number.number-index
    (λ (r : KissRow). (y : ℕ) → HoldsNumber c.args.cube.now y → HoldsNumber r.cube y → IsNone (said r)) row
    c.loop-number.invariant c.loop-number-test.true c.row-row.ensures.row
    (λ y first second.
    elim (cases_Bool (is_some (said row))) [
      | inl some ↦
          absurd (true≢false (sym (c.says_in.ensures.1 (some, meets_from_held c.args.cube.now row.cube y (c.requires.width ∙ sym c.row-row.ensures.lawful.width) first second))
          ∙ c.if-says_in.false))
      | inr none ↦ none
    ])

pub returns-clause-none : goal.returns-clause-none
returns-clause-none g c y held row at =
    let asked = c.numbers_of-number-items in
    of_each_row c.args.self.now asked.ensures.table c.args.s y asked.result.now (λ (r : KissRow). IsNone (g.Q.Question.said c.args.question.now r)) asked.ensures.each
    (λ k d r within at_r held_r. c.loop-number.invariant k d r (omega (arith, within, c.loop-number-test.false)) at_r y held held_r)
    row at
