use Rattle.std.proofs.Common.{◌≡◌, length, sym, subst, ◌∙◌, arith}
use Rattle.std.proofs.lemmas.Result.{IfOk-from_err}
use Rattle.hs_lattice.specs.Collection.{Adds, IsCollection, ItemsAndOrder}
use Rattle.hs_lattice.proofs.Collections.{TotalOrder, adds_item, adds_nothing, different_more}
use Rattle.hs_lattice.proofs.collection.Collection.add.Goals as goal

pub place_for-requires-clause-order : goal.place_for-requires-clause-order
place_for-requires-clause-order g c =
    let w = g.W.JoinWorld in
    let here = subst (IsCollection w.meaning (w.fits c.args.world.now) (w.precedes c.args.world.now)) (sym c.self.view_is) c.requires.collection in
    rw (c.as_slice.ensures.value, c.as_slice-2.ensures.value) here.ordered

pub returns-in_ok-insert-clause-collection : goal.returns-in_ok-insert-clause-collection
returns-in_ok-insert-clause-collection g c =
    let w = g.W.JoinWorld in
    let laws = g.met.W.JoinWorld in
    let world = c.args.world.now in
    let lawful = c.requires.world in
    let order : TotalOrder (w.fits world) (w.precedes world) = record {
      irreflexive = λ x. laws.precedes_irreflexive world x lawful;
      transitive = λ x y z. laws.precedes_transitive world x y z lawful;
      total = λ x y. laws.precedes_total world x y lawful;
    } in
    let here = subst (IsCollection w.meaning (w.fits world) (w.precedes world)) (sym c.self.view_is) c.requires.collection in
    let last : c.len-last.result ≡ length c.self.inside.items.items = c.len-last.ensures ∙ sym (rw c.as_slice.ensures.value at c.as_slice.ensures.len) in
    rw (c.in_ok-push.ensures.items, c.in_ok-insert.ensures.items, last)
    (different_more w.meaning (w.fits world) (w.precedes world) c.self.inside.items.items c.self.inside.order.items c.args.item c.in-Some.place order c.requires.item here
    (rw (c.as_slice.ensures.value, c.as_slice-2.ensures.value) at c.in-Some.ensures.new))

pub returns-in_ok-insert-clause-adds : goal.returns-in_ok-insert-clause-adds
returns-in_ok-insert-clause-adds g c =
    let w = g.W.JoinWorld in
    subst (λ (old : ItemsAndOrder g.row.T.Denot). Adds w.meaning old.items (w.meaning c.args.item) c.push.new.self.items) c.self.view_is
    (rw c.in_ok-push.ensures.items (adds_item w.meaning c.self.inside.items.items c.args.item))

pub place_for-requires-clause-items_fit : goal.place_for-requires-clause-items_fit
place_for-requires-clause-items_fit g c =
    let w = g.W.JoinWorld in
    let here = subst (IsCollection w.meaning (w.fits c.args.world.now) (w.precedes c.args.world.now)) (sym c.self.view_is) c.requires.collection in
    rw c.as_slice.ensures.value here.fit

pub insert-requires : goal.insert-requires
insert-requires g c = omega (arith, c.in-Some.ensures.new.within, c.as_slice-2.ensures.len)

pub returns-in_err-push-clause-collection : goal.returns-in_err-push-clause-collection
returns-in_err-push-clause-collection g c = IfOk-from_err c.from_residual.result _ c.from_residual.ensures.0

pub returns-in_err-push-clause-adds : goal.returns-in_err-push-clause-adds
returns-in_err-push-clause-adds g c = IfOk-from_err c.from_residual.result _ c.from_residual.ensures.0

pub returns-in_err-insert-clause-collection : goal.returns-in_err-insert-clause-collection
returns-in_err-insert-clause-collection g c = IfOk-from_err c.from_residual-in_err-insert.result _ c.from_residual-in_err-insert.ensures.0

pub returns-in_err-insert-clause-adds : goal.returns-in_err-insert-clause-adds
returns-in_err-insert-clause-adds g c = IfOk-from_err c.from_residual-in_err-insert.result _ c.from_residual-in_err-insert.ensures.0

pub returns-in_default-clause-collection : goal.returns-in_default-clause-collection
returns-in_default-clause-collection g c = c.requires.collection

pub returns-in_default-clause-adds : goal.returns-in_default-clause-adds
returns-in_default-clause-adds g c =
    let w = g.W.JoinWorld in
    subst (λ (old : ItemsAndOrder g.row.T.Denot). Adds w.meaning old.items (w.meaning c.args.item) old.items) c.self.view_is
    (adds_nothing w.meaning c.self.inside.items.items (w.meaning c.args.item) (rw c.as_slice.ensures.value at c.in_default.ensures.known))
