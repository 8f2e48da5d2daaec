use Rattle.std.proofs.Common.{ℕ, ◌≡◌, length, sym, ◌∙◌, subst, arith}
use Rattle.state_pairs.specs.AddedPairs.{AddsPairs, AreNamedIn, AtBundle, BelowCount, IsNamedBeside}
use Rattle.state_pairs.specs.Laws.AddedPairs.{adds_as, adds_more, adds_none}
use Rattle.state_pairs.proofs.NamedIn.{at_some_bundle, at_this_bundle, fit_among}
use Rattle.state_pairs.proofs.rows.RowsByState.add_beside.Goals as goal

pub returns-in_default-clause-pairs : goal.returns-in_default-clause-pairs
returns-in_default-clause-pairs c =
    adds_none (IsNamedBeside c.args.self.now c.args.t c.args.row.now) c.args.pairs.now.pairs (λ u v found. c.in_default.not-Some u found.2.first)

pub add_in-requires-clause-bundle : goal.add_in-requires-clause-bundle
add_in-requires-clause-bundle c =
    c.bundles_of-bundle-items.ensures.right c.bundle-item.result (c.loop-bundle.bundle-index, c.loop-bundle-test.true, sym c.bundle-item.is)

pub loop-bundle-preserved : goal.loop-bundle-preserved
loop-bundle-preserved c =
    let rows = c.args.self.now.rows in
    let bundles = c.bundles_of-bundle-items.result.now in
    let cube = c.args.row.now.cube in
    let next = c.in-Some.next in
    let index = c.loop-bundle.bundle-index in
    let bundle = c.bundle-item.result in
    record {
      pairs = adds_more (AtBundle rows bundles cube next) index (AreNamedIn rows bundle.numbers cube next) c.args.pairs.now.pairs c.loop-bundle.pairs.pairs c.add_in.new.pairs.pairs
          (at_this_bundle rows bundles cube next index bundle c.bundle-item.is c.loop-bundle-test.true) c.loop-bundle.invariant.pairs c.in_ok-add_in.ensures.pairs;
      states = c.in_ok-add_in.ensures.states ∙ c.loop-bundle.invariant.states;
    }

pub returns-clause-pairs : goal.returns-clause-pairs
returns-clause-pairs c =
    let F = c.args.self.now in
    let row = c.args.row.now in
    let asked = c.bundles_of-bundle-items in
    let bundles = asked.result.now in
    let next = c.in-Some.next in
    let now = c.loop-bundle.pairs.pairs in
    let all : c.loop-bundle.bundle-index ≡ length bundles = omega (arith, c.loop-bundle-test.false, c.loop-bundle.auto.bundle-index-end) in
    adds_as (BelowCount (AtBundle F.rows bundles row.cube next) (length bundles)) (IsNamedBeside F c.args.t row) c.args.pairs.now.pairs now
    (at_some_bundle F c.args.t bundles row next c.in-Some.is (fit_among F row c.requires.row.width asked.ensures.fit) asked.ensures.own asked.ensures.each)
    (subst (λ (n : ℕ). AddsPairs (BelowCount (AtBundle F.rows bundles row.cube next) n) c.args.pairs.now.pairs now) all c.loop-bundle.invariant.pairs)
