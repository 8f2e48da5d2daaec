use Rattle.std.proofs.Common.{arith}
use Rattle.hs_lattice.proofs.Collections.{TotalOrder, narrowed_up, narrowed_down, place_met, other_at}
use Rattle.hs_lattice.proofs.Values.{read_fits}
use Rattle.hs_lattice.proofs.collection.place_for.Goals as goal
use Rattle.hs_lattice.proofs.collection.place_for.Goals.{else-low-order-via-then-low-order+else-same, else-low-order-via-else-low-order}

pub loop-low-preserved-then-before : goal.loop-low-preserved-then-before
loop-low-preserved-then-before g c =
    let w = g.W.JoinWorld in
    let laws = g.met.W.JoinWorld in
    let world = c.args.world.now in
    let lawful = c.requires.world in
    let order : TotalOrder (w.fits world) (w.precedes world) = record {
      irreflexive = λ x. laws.precedes_irreflexive world x lawful;
      transitive = λ x y z. laws.precedes_transitive world x y z lawful;
      total = λ x y. laws.precedes_total world x y lawful;
    } in
    narrowed_up w.meaning (w.fits world) (w.precedes world) c.args.items.now c.args.order.now c.args.item.now c.index-items-order.result _ _ _ order
    c.requires.items_fit c.requires.item_fits c.requires.order c.loop-low.invariant (omega arith) (omega arith)
    c.index-items-order.is (c.before-in-loop-low.ensures.0 c.if-before.true)

pub loop-low-preserved : goal.loop-low-preserved
loop-low-preserved g c =
    let w = g.W.JoinWorld in
    let laws = g.met.W.JoinWorld in
    let world = c.args.world.now in
    let lawful = c.requires.world in
    let order : TotalOrder (w.fits world) (w.precedes world) = record {
      irreflexive = λ x. laws.precedes_irreflexive world x lawful;
      transitive = λ x y z. laws.precedes_transitive world x y z lawful;
      total = λ x y. laws.precedes_total world x y lawful;
    } in
    narrowed_down w.meaning (w.fits world) (w.precedes world) c.args.items.now c.args.order.now c.args.item.now c.index-items-order.result _ _ _ order
    c.requires.items_fit c.requires.item_fits c.requires.order c.loop-low.invariant (omega arith) (omega arith)
    c.index-items-order.is (λ before. let t = c.before-in-loop-low.ensures.1 before in cc)

pub returns-else-low-order-clause-new : goal.returns-else-low-order-clause-new
returns-else-low-order-clause-new g c =
    let w = g.W.JoinWorld in
    let laws = g.met.W.JoinWorld in
    let world = c.args.world.now in
    let lawful = c.requires.world in
    let order : TotalOrder (w.fits world) (w.precedes world) = record {
      irreflexive = λ x. laws.precedes_irreflexive world x lawful;
      transitive = λ x y z. laws.precedes_transitive world x y z lawful;
      total = λ x y. laws.precedes_total world x y lawful;
    } in
    place_met w.meaning (w.fits world) (w.precedes world) c.args.items.now c.args.order.now c.args.item.now _ _ order
    c.requires.items_fit c.requires.item_fits c.requires.order c.loop-low.invariant (omega arith)
    (λ d lt.
    elim c.else-low-order.branch [
      | else-low-order-via-then-low-order+else-same w2 ↦
          other_at w.meaning c.args.items.now c.args.order.now c.args.item.now w2.index-items-order-then-low-order.result _ c.requires.order.places lt w2.index-items-order-then-low-order.is
          (λ equal. let t = w2.same.ensures.1 equal in cc) d
      | else-low-order-via-else-low-order w2 ↦ absurd (omega arith)
    ])

pub bounds-items-order : goal.bounds-items-order
bounds-items-order g c = c.requires.order.places _ 0 (omega arith)

pub offset_bounds-items-order : goal.offset_bounds-items-order
offset_bounds-items-order g c = omega (arith, bounds-items-order g c)

pub before-requires-clause-left : goal.before-requires-clause-left
before-requires-clause-left g c =
    let w = g.W.JoinWorld in
    read_fits w.meaning (w.fits c.args.world.now) c.args.items.now _ c.index-items-order.result c.requires.items_fit (c.requires.order.places _ 0 (omega arith)) c.index-items-order.is

pub bounds-items-order-then-low-order : goal.bounds-items-order-then-low-order
bounds-items-order-then-low-order g c = c.requires.order.places c.loop-low.low 0 (omega arith)

pub same-requires-clause-left : goal.same-requires-clause-left
same-requires-clause-left g c =
    let w = g.W.JoinWorld in
    read_fits w.meaning (w.fits c.args.world.now) c.args.items.now _ c.index-items-order-then-low-order.result c.requires.items_fit
    (c.requires.order.places c.loop-low.low 0 (omega arith)) c.index-items-order-then-low-order.is
