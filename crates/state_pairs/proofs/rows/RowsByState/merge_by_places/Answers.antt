use Rattle.std.proofs.Common.{ℕ, ◌≡◌, ◌<◌, length, ◌∙◌, sym, subst, arith}
use Rattle.state_pairs.specs.AddedPairs.{AreNamedAtPlaces, AreNamedBy, AtBothPlaces, BelowCount, IsFound}
use Rattle.state_pairs.specs.MergedStates.{MergesPairs}
use Rattle.state_pairs.specs.Laws.AddedPairs.{at_these_places}
use Rattle.state_pairs.specs.Laws.MergedPairs.{merges_as, merges_below_none, merges_more, merges_rest}
use Rattle.state_pairs.proofs.rows.RowsByState.merge_by_places.Goals as goal

pub loop-i-init : goal.loop-i-init
loop-i-init c = merges_below_none (AtBothPlaces c.args.self.now.rows c.args.first.now c.args.second.now) c.args.part.now c.requires.lawful

pub merge_found-requires-clause-states : goal.merge_found-requires-clause-states
merge_found-requires-clause-states c u v found =
    let i = c.loop-i.i in
    let first = c.args.first.now in
    let second = c.args.second.now in
    let row = c.row.result.now in
    let other = c.row-in-loop-i.result.now in
    let at = (at_these_places c.args.self.now.rows first second i row other c.row.ensures.row c.row-in-loop-i.ensures.row u v).0 ((c.named_pair.ensures u v).0 found) in
    let within : i < length first = omega (arith, c.loop-i-test.true) in
    let both = c.requires.states u v (i, within, at) in
    let size = c.loop-i.invariant.lawful.length in
    (omega (arith, both.0, size), omega (arith, both.1, size))

pub loop-i-preserved : goal.loop-i-preserved
loop-i-preserved c =
    let rows = c.args.self.now.rows in
    let first = c.args.first.now in
    let second = c.args.second.now in
    let row = c.row.result.now in
    let other = c.row-in-loop-i.result.now in
    let i = c.loop-i.i in
    let now = c.loop-i.part in
    let more = c.merge_found.new.part in
    merges_more (AtBothPlaces rows first second) i (AreNamedBy row other) c.args.part.now now more
    (at_these_places rows first second i row other c.row.ensures.row c.row-in-loop-i.ensures.row) c.loop-i.invariant
    (merges_as (IsFound c.named_pair.result) (AreNamedBy row other) now more c.named_pair.ensures c.merge_found.ensures)

pub returns-then-blocks-eq1 : goal.returns-then-blocks-eq1
returns-then-blocks-eq1 c =
    let places = AtBothPlaces c.args.self.now.rows c.args.first.now c.args.second.now in
    let i = c.loop-i.i in
    merges_rest (BelowCount places i) (AreNamedAtPlaces c.args.self.now.rows c.args.first.now c.args.second.now) c.args.part.now c.loop-i.part (sym c.blocks-in-loop-i.ensures ∙ c.if-blocks-eq1.true)
    (λ u v below. (below.0, omega (arith, below.1, c.loop-i.auto.i-end), below.2)) c.requires.states c.loop-i.invariant

pub returns : goal.returns
returns c =
    let places = AtBothPlaces c.args.self.now.rows c.args.first.now c.args.second.now in
    let all : c.loop-i.i ≡ length c.args.first.now = omega (arith, c.loop-i-test.false, c.loop-i.auto.i-end) in
    subst (λ (n : ℕ). MergesPairs (BelowCount places n) c.args.part.now c.loop-i.part) all c.loop-i.invariant
