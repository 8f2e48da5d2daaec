use Rattle.std.proofs.Common.{ℕ, ◌≡◌, length, ◌∙◌, subst, arith}
use Rattle.state_pairs.specs.AddedPairs.{AddsPairs, AreNamedBy, AtBothPlaces, BelowCount, IsFound}
use Rattle.state_pairs.specs.Laws.AddedPairs.{adds_as, adds_more, at_these_places}
use Rattle.state_pairs.proofs.NamedIn.{named_states}
use Rattle.state_pairs.proofs.rows.RowsByState.add_by_places.Goals as goal

pub loop-i-preserved : goal.loop-i-preserved
loop-i-preserved c =
    let rows = c.args.self.now.rows in
    let first = c.args.first.now in
    let second = c.args.second.now in
    let row = c.row-row.result.now in
    let other = c.row-other.result.now in
    let i = c.loop-i.i in
    let now = c.loop-i.pairs.pairs in
    let more = c.add_found.new.pairs.pairs in
    record {
      pairs = adds_more (AtBothPlaces rows first second) i (AreNamedBy row other) c.args.pairs.now.pairs now more
          (at_these_places rows first second i row other c.row-row.ensures.row c.row-other.ensures.row) c.loop-i.invariant.pairs
          (adds_as (IsFound c.named_pair.result) (AreNamedBy row other) now more c.named_pair.ensures c.in_ok-add_found.ensures.pairs);
      states = c.in_ok-add_found.ensures.states ∙ c.loop-i.invariant.states;
    }

pub returns-clause-pairs : goal.returns-clause-pairs
returns-clause-pairs c =
    let places = AtBothPlaces c.args.self.now.rows c.args.first.now c.args.second.now in
    let all : c.loop-i.i ≡ length c.args.first.now = omega (arith, c.loop-i-test.false, c.loop-i.auto.i-end) in
    subst (λ (n : ℕ). AddsPairs (BelowCount places n) c.args.pairs.now.pairs c.loop-i.pairs.pairs) all c.loop-i.invariant.pairs

pub add_found-requires : goal.add_found-requires
add_found-requires c u v is =
    let states : c.loop-i.pairs.states ≡ length c.args.self.now.states = c.loop-i.invariant.states ∙ c.requires.states in
    let both =
    named_states (length c.args.self.now.states) c.row-row.result.now c.row-other.result.now c.row-row.ensures.lawful.to c.row-other.ensures.lawful.to u v
    ((c.named_pair.ensures u v).0 is) in
    (omega (arith, both.0, states), omega (arith, both.1, states))
