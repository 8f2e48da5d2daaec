use Rattle.std.proofs.Common.{◌+◌, ◌∙◌, get_or, sym, subst, arith}
use Rattle.std.proofs.lemmas.List.{get_or_default}
use Rattle.std.proofs.lemmas.Bool.{false≢true}
use Rattle.std.proofs.lemmas.Option.{slice_get_within}
use Rattle.mm_lattice.specs.declared.placed_pairs.PlacedPair.{PlacedPair}
use Rattle.mm_lattice.proofs.Placed.{IsLeftSoFar, goes_above_right, left_all, left_merged, left_none, left_passed, right_below}
use Rattle.mm_lattice.proofs.placed_pairs.left_by_pairs.Goals as goal
use Rattle.mm_lattice.proofs.placed_pairs.left_by_pairs.Goals.{then-index, else-index}

pub loop-pair-preserved : goal.loop-pair-preserved
loop-pair-preserved c =
    let F = c.args.m.now in
    let q = c.args.q.now in
    let pairs = c.args.pairs.now in
    let i = c.loop-pair.pair-index in
    let none : PlacedPair = record { s = 0; t = 0; place = 0 } in
    let pair : PlacedPair = get_or pairs i none in
    let is = c.requires.pairs.placed i none c.loop-pair-test.true in
    let here = λ (d : PlacedPair). get_or_default pairs i d none c.loop-pair-test.true in
    let below = c.in_ok-below.ensures.each pair.place c.index.result.now is.right (slice_get_within c.args.rights.now pair.place is.right is.at) is.at in
    elim c.if-index.branch [
      | then-index w ↦
          subst (IsLeftSoFar F q pairs (i + 1)) (sym w.p-is)
          (left_merged F q pairs i c.loop-pair.p pair here c.loop-pair.invariant w.merge.new.self (omega (arith, is.order, is.state)) is.state
          (goes_above_right F q pair.s pair.t is.right is.is (below.0 (sym c.index.ensures ∙ w.if-index.true))) w.merge.ensures)
      | else-index w ↦
          subst (IsLeftSoFar F q pairs (i + 1)) (sym w.p-is)
          (left_passed F q pairs i c.loop-pair.p pair here c.loop-pair.invariant
          (λ goes. false≢true (sym w.if-index.false ∙ c.index.ensures ∙ below.1 (right_below F q pair.s pair.t is.right c.requires.q is.is goes))))
    ]

pub returns : goal.returns
returns c =
    left_all c.args.m.now c.args.q.now c.args.rights.now c.args.pairs.now c.loop-pair.pair-index c.loop-pair.p c.states.ensures.inside c.requires.q.length c.loop-pair-test.false c.requires.pairs c.loop-pair.invariant
