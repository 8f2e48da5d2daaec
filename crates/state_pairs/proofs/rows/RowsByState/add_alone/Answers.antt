use Rattle.std.proofs.Common.{ℕ, ◌≡◌, ◌<◌, IfSome, Option, length, ◌∙◌, subst, arith}
use Rattle.state_pairs.specs.AddedPairs.{AddsPairs, AtPlace, BelowCount, OfSomeRow, NamesAlone, IsFound}
use Rattle.state_pairs.specs.Laws.AddedPairs.{adds_as, adds_more, at_some_row, at_this_place}
use Rattle.state_pairs.proofs.NamedIn.{alone_states}
use Rattle.state_pairs.proofs.rows.RowsByState.add_alone.Goals as goal

pub loop-number-preserved : goal.loop-number-preserved
loop-number-preserved c =
    let rows = c.args.self.now.rows in
    let numbers = c.numbers_of-number-items.result.now in
    let index = c.loop-number.number-index in
    let row = c.row.result.now in
    record {
      pairs = adds_more (AtPlace rows numbers (NamesAlone c.args.self.now c.args.t c.args.turned)) index (NamesAlone c.args.self.now c.args.t c.args.turned row) c.args.pairs.now.pairs c.loop-number.pairs.pairs c.add_found.new.pairs.pairs
          (at_this_place rows numbers (NamesAlone c.args.self.now c.args.t c.args.turned) index row c.row.ensures.row) c.loop-number.invariant.pairs
          (adds_as (IsFound c.alone_pair.result) (NamesAlone c.args.self.now c.args.t c.args.turned row) c.loop-number.pairs.pairs c.add_found.new.pairs.pairs c.alone_pair.ensures c.in_ok-add_found.ensures.pairs);
      states = c.in_ok-add_found.ensures.states ∙ c.loop-number.invariant.states;
    }

pub returns-clause-pairs : goal.returns-clause-pairs
returns-clause-pairs c =
    let F = c.args.self.now in
    let numbers = c.numbers_of-number-items.result.now in
    let now = c.loop-number.pairs.pairs in
    let all : c.loop-number.number-index ≡ length numbers = omega (arith, c.loop-number-test.false, c.loop-number.auto.number-index-end) in
    adds_as (BelowCount (AtPlace F.rows numbers (NamesAlone c.args.self.now c.args.t c.args.turned)) (length numbers)) (OfSomeRow F c.args.s (NamesAlone c.args.self.now c.args.t c.args.turned)) c.args.pairs.now.pairs now
    (at_some_row F c.args.s numbers (NamesAlone c.args.self.now c.args.t c.args.turned) c.numbers_of-number-items.ensures.own c.numbers_of-number-items.ensures.each)
    (subst (λ (n : ℕ). AddsPairs (BelowCount (AtPlace F.rows numbers (NamesAlone c.args.self.now c.args.t c.args.turned)) n) c.args.pairs.now.pairs now) all c.loop-number.invariant.pairs)

pub add_found-requires : goal.add_found-requires
add_found-requires c u v is =
    let states : c.loop-number.pairs.states ≡ length c.args.self.now.states = c.loop-number.invariant.states ∙ c.requires.states in
    let found = (c.alone_pair.ensures u v).0 is in
    let both =
    alone_states c.args.turned (length c.args.self.now.states) found.1 c.args.t u v
    (subst (λ (o : Option ℕ). IfSome o (λ s. s < length c.args.self.now.states)) found.5 c.row.ensures.lawful.to) c.requires.t found.6 in
    (omega (arith, both.0, states), omega (arith, both.1, states))
