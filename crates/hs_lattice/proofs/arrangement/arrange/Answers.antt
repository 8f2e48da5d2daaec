use Rattle.std.proofs.Common.{◌≡◌, ◌<◌, length, subst, arith}
use Rattle.std.proofs.lemmas.Result.{IfOk-from_err}
use Rattle.hs_lattice.specs.Inner.Arrangement.{IsArranged}
use Rattle.hs_lattice.proofs.Moving.{arranging_none, arranging_read, from_within, other_within}
use Rattle.hs_lattice.proofs.arrangement.arrange.Goals as goal

pub loop-i-preserved : goal.loop-i-preserved
loop-i-preserved g c =
    arranging_read c.args.items.now c.args.order.now c.loop-i.i c.index-from.result.now c.index-other.result.now c.loop-i.items c.swap.new.self c.loop-i.standing.items c.loop-i.places.items
    c.requires.count c.requires.within c.requires.once c.loop-i.invariant c.loop-i-test.true c.index-from.ensures c.index-other.ensures c.swap.ensures.after

pub returns-in_err-standing : goal.returns-in_err-standing
returns-in_err-standing g c = IfOk-from_err c.from_residual.result _ c.from_residual.ensures.0

pub returns-in_err-places : goal.returns-in_err-places
returns-in_err-places g c = IfOk-from_err c.from_residual-in_err-places.result _ c.from_residual-in_err-places.ensures.0

pub loop-i-init : goal.loop-i-init
loop-i-init g c = arranging_none c.args.items.now c.args.order.now c.in_ok-standing.standing.items c.in_ok-places.places.items c.requires.within c.in_ok-standing.ensures c.in_ok-places.ensures

pub index-from-requires : goal.index-from-requires
index-from-requires g c = omega (arith, c.requires.within c.loop-i.i 0 c.loop-i-test.true, c.loop-i.invariant.all_places, c.loop-i.places.ok.0)

pub index-other-requires : goal.index-other-requires
index-other-requires g c = omega (arith, c.loop-i.invariant.all_standing, c.loop-i.standing.ok.0)

pub swap-requires-clause-a_in_bounds : goal.swap-requires-clause-a_in_bounds
swap-requires-clause-a_in_bounds g c = omega (arith, c.loop-i.invariant.arranged.size)

pub swap-requires-clause-b_in_bounds : goal.swap-requires-clause-b_in_bounds
swap-requires-clause-b_in_bounds g c =
    let from : c.index-from.result.now < length c.args.items.now = from_within c.args.items.now c.args.order.now c.loop-i.i c.index-from.result.now c.loop-i.items c.loop-i.standing.items c.loop-i.places.items c.requires.within c.loop-i.invariant c.loop-i-test.true c.index-from.ensures in
    omega (arith, from, c.loop-i.invariant.arranged.size)

pub index_mut-requires : goal.index_mut-requires
index_mut-requires g c =
    let from : c.index-from.result.now < length c.args.items.now = from_within c.args.items.now c.args.order.now c.loop-i.i c.index-from.result.now c.loop-i.items c.loop-i.standing.items c.loop-i.places.items c.requires.within c.loop-i.invariant c.loop-i-test.true c.index-from.ensures in
    omega (arith, from, c.loop-i.invariant.all_standing, c.loop-i.standing.ok.0)

pub index_mut-requires-in-loop-i : goal.index_mut-requires-in-loop-i
index_mut-requires-in-loop-i g c =
    let other : c.index-other.result.now < length c.args.items.now = other_within c.args.items.now c.args.order.now c.loop-i.i c.index-other.result.now c.loop-i.items c.loop-i.standing.items c.loop-i.places.items c.loop-i.invariant (omega arith) c.index-other.ensures in
    omega (arith, other, c.loop-i.invariant.all_places, c.loop-i.places.ok.0)

pub returns : goal.returns
returns g c =
    let end : c.loop-i.i ≡ length c.args.order.now = omega arith in
    subst (λ n. IsArranged c.args.items.now c.args.order.now n c.loop-i.items) end c.loop-i.invariant.arranged
