use Rattle.std.proofs.Common.{◌↔◌, IsTrue, sym, subst}
use Rattle.hs_lattice.specs.Collection.{IsCollection, ItemsAndOrder, Knows}
use Rattle.hs_lattice.proofs.Collections.{TotalOrder, not_known, known_where_none}
use Rattle.hs_lattice.proofs.collection.Collection.holds.Goals as goal

pub place_for-requires-clause-order : goal.place_for-requires-clause-order
place_for-requires-clause-order g c =
    let w = g.W.JoinWorld in
    let here = subst (IsCollection w.meaning (w.fits c.args.world.now) (w.precedes c.args.world.now)) (sym c.self.view_is) c.requires.collection in
    rw (c.as_slice.ensures.value, c.as_slice-2.ensures.value) here.ordered

pub place_for-requires-clause-items_fit : goal.place_for-requires-clause-items_fit
place_for-requires-clause-items_fit g c =
    let w = g.W.JoinWorld in
    let here = subst (IsCollection w.meaning (w.fits c.args.world.now) (w.precedes c.args.world.now)) (sym c.self.view_is) c.requires.collection in
    rw c.as_slice.ensures.value here.fit

pub returns : goal.returns
returns g c =
    let w = g.W.JoinWorld in
    let laws = g.met.W.JoinWorld in
    let world = c.args.world.now in
    let lawful = c.requires.world in
    let order : TotalOrder (w.fits world) (w.precedes world) = record {
      irreflexive = λ x. laws.precedes_irreflexive world x lawful;
      transitive = λ x y z. laws.precedes_transitive world x y z lawful;
      total = λ x y. laws.precedes_total world x y lawful;
    } in
    let here = subst (IsCollection w.meaning (w.fits world) (w.precedes world)) (sym c.self.view_is) c.requires.collection in
    let found = rw (c.as_slice.ensures.value, c.as_slice-2.ensures.value) at c.place_for.ensures in
    subst (λ (kept : ItemsAndOrder g.row.T.Denot). IsTrue c.is_none.result ↔ Knows w.meaning kept.items (w.meaning c.args.item.now)) c.self.view_is
    (known_where_none c.place_for.result c.is_none.result _ _ c.is_none.ensures found.known found.new
    (λ place. not_known w.meaning (w.fits world) (w.precedes world) c.self.inside.items.items c.self.inside.order.items c.args.item.now place order c.requires.item here.ordered))
