use Rattle.std.proofs.Common.{◌↔◌, List, ◌∙◌, sym, subst}
use Rattle.std.proofs.lemmas.List.{with_items_is}
use Rattle.hs_lattice.specs.Collection.{IsCollection, ItemsAndOrder, Knows}
use Rattle.hs_lattice.proofs.Collections.{arranged_ascend, arranged_from, arranged_all, ordered_once}
use Rattle.hs_lattice.proofs.collection.Collection.ascending.Goals as goal

pub arrange-requires-clause-once : goal.arrange-requires-clause-once
arrange-requires-clause-once g c =
    let w = g.W.JoinWorld in
    let world = c.args.world.now in
    let here = subst (IsCollection w.meaning (w.fits world) (w.precedes world)) (sym c.self.view_is) c.requires.collection in
    rw c.as_slice.ensures.value
    (ordered_once w.meaning (w.fits world) (w.precedes world) c.self.inside.items.items c.self.inside.order.items
    (λ x. g.met.W.JoinWorld.precedes_irreflexive world x c.requires.world) here.fit here.ordered)

pub returns-clause-ascending : goal.returns-clause-ascending
returns-clause-ascending g c =
    let w = g.W.JoinWorld in
    let world = c.args.world.now in
    let here = subst (IsCollection w.meaning (w.fits world) (w.precedes world)) (sym c.self.view_is) c.requires.collection in
    let arranged = rw (c.as_slice.ensures.value, c.as_mut_slice.ensures.value) at c.in_ok-arrange.ensures in
    rw (c.from.ensures, with_items_is c.self.inside.items c.arrange.new.items (c.in_ok-arrange.ensures.size ∙ c.as_mut_slice.ensures.len))
    (arranged_ascend w.meaning (w.precedes world) c.self.inside.items.items c.self.inside.order.items c.arrange.new.items
    here.ordered arranged)

pub returns-clause-values : goal.returns-clause-values
returns-clause-values g c =
    let w = g.W.JoinWorld in
    let world = c.args.world.now in
    let meaning = w.meaning in
    let precedes = w.precedes world in
    let items = c.self.inside.items.items in
    let order = c.self.inside.order.items in
    let new = c.arrange.new.items in
    let here = subst (IsCollection w.meaning (w.fits world) (w.precedes world)) (sym c.self.view_is) c.requires.collection in
    let arranged = rw (c.as_slice.ensures.value, c.as_mut_slice.ensures.value) at c.in_ok-arrange.ensures in
    rw (c.from.ensures, with_items_is c.self.inside.items new (c.in_ok-arrange.ensures.size ∙ c.as_mut_slice.ensures.len))
    (subst (λ (kept : ItemsAndOrder g.row.T.Denot). (z : w.Meaning) → Knows meaning new z ↔ Knows meaning kept.items z) c.self.view_is
    (λ z. (arranged_from meaning precedes items order new here.ordered arranged z, arranged_all meaning precedes items order new here.ordered arranged z)))
