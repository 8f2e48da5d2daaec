use Rattle.std.proofs.Common.{ℕ, ◌≡◌, length, ◌∙◌, subst, arith}
use Rattle.state_pairs.specs.AddedPairs.{AddsPairs, AtPlace, BelowCount, OfSomeRow, IsNamedBeside}
use Rattle.state_pairs.specs.Laws.AddedPairs.{adds_as, adds_more, at_some_row, at_this_place}
use Rattle.state_pairs.proofs.rows.RowsByState.add_by_rows.Goals as goal

pub loop-number-preserved : goal.loop-number-preserved
loop-number-preserved c =
    let rows = c.args.self.now.rows in
    let numbers = c.numbers_of-number-items.result.now in
    let index = c.loop-number.number-index in
    let row = c.row.result.now in
    let At = AtPlace rows numbers (IsNamedBeside c.args.self.now c.args.t) in
    record {
      pairs = adds_more At index (IsNamedBeside c.args.self.now c.args.t row) c.args.pairs.now.pairs c.loop-number.pairs.pairs c.add_beside.new.pairs.pairs
          (at_this_place rows numbers (IsNamedBeside c.args.self.now c.args.t) index row c.row.ensures.row) c.loop-number.invariant.pairs
          c.in_ok-add_beside.ensures.pairs;
      states = c.in_ok-add_beside.ensures.states ∙ c.loop-number.invariant.states;
    }

pub returns-clause-pairs : goal.returns-clause-pairs
returns-clause-pairs c =
    let F = c.args.self.now in
    let numbers = c.numbers_of-number-items.result.now in
    let now = c.loop-number.pairs.pairs in
    let all : c.loop-number.number-index ≡ length numbers = omega (arith, c.loop-number-test.false, c.loop-number.auto.number-index-end) in
    adds_as (BelowCount (AtPlace F.rows numbers (IsNamedBeside c.args.self.now c.args.t)) (length numbers)) (OfSomeRow F c.args.s (IsNamedBeside c.args.self.now c.args.t)) c.args.pairs.now.pairs now
    (at_some_row F c.args.s numbers (IsNamedBeside c.args.self.now c.args.t) c.numbers_of-number-items.ensures.own c.numbers_of-number-items.ensures.each)
    (subst (λ (n : ℕ). AddsPairs (BelowCount (AtPlace F.rows numbers (IsNamedBeside c.args.self.now c.args.t)) n) c.args.pairs.now.pairs now) all c.loop-number.invariant.pairs)
