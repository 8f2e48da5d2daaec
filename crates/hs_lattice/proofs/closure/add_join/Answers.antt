use Rattle.std.proofs.lemmas.Result.{IfOk-from_err}
use Rattle.hs_lattice.proofs.Passes.{adds_known_join, adds_new_join}
use Rattle.hs_lattice.proofs.Values.{read_fits}
use Rattle.hs_lattice.proofs.closure.add_join.Goals as goal

pub returns-else-not-same-clause-adds : goal.returns-else-not-same-clause-adds
returns-else-not-same-clause-adds g c =
    let w = g.W.JoinWorld in
    adds_known_join w.meaning (w.joins c.args.world.now) c.args.known.now.items c.args.place c.index-as_slice-place.result c.args.generator.now (w.meaning c.in_ok-joined.joined)
    c.requires.place (rw c.as_slice.ensures at c.index-as_slice-place.is) c.in_ok-joined.ensures (c.same.ensures.0 c.if-not-same.false)

pub returns-in_err-joined-clause-known : goal.returns-in_err-joined-clause-known
returns-in_err-joined-clause-known g c = IfOk-from_err c.from_residual.result _ c.from_residual.ensures.0

pub returns-in_err-joined-clause-adds : goal.returns-in_err-joined-clause-adds
returns-in_err-joined-clause-adds g c = IfOk-from_err c.from_residual.result _ c.from_residual.ensures.0

pub same-requires-clause-left : goal.same-requires-clause-left
same-requires-clause-left g c =
    let w = g.W.JoinWorld in
    g.met.W.JoinWorld.joins_fit c.args.world.now _ _ _ c.requires.world c.requires.generator
    (read_fits w.meaning (w.fits c.args.world.now) c.args.known.now.items c.args.place c.index-as_slice-place.result c.requires.known.fit c.requires.place (rw c.as_slice.ensures at c.index-as_slice-place.is))
    c.in_ok-joined.ensures

pub same-requires-clause-right : goal.same-requires-clause-right
same-requires-clause-right g c =
    let w = g.W.JoinWorld in
    read_fits w.meaning (w.fits c.args.world.now) c.args.known.now.items c.args.place c.index-as_slice-place.result c.requires.known.fit c.requires.place (rw c.as_slice.ensures at c.index-as_slice-place.is)

pub add-requires-clause-item : goal.add-requires-clause-item
add-requires-clause-item g c =
    let w = g.W.JoinWorld in
    g.met.W.JoinWorld.joins_fit c.args.world.now _ _ _ c.requires.world c.requires.generator
    (read_fits w.meaning (w.fits c.args.world.now) c.args.known.now.items c.args.place c.index-as_slice-place.result c.requires.known.fit c.requires.place (rw c.as_slice.ensures at c.index-as_slice-place.is))
    c.in_ok-joined.ensures

pub returns-in_err-add-clause-known : goal.returns-in_err-add-clause-known
returns-in_err-add-clause-known g c = IfOk-from_err c.from_residual-in_err-add.result _ c.from_residual-in_err-add.ensures.0

pub returns-in_err-add-clause-adds : goal.returns-in_err-add-clause-adds
returns-in_err-add-clause-adds g c = IfOk-from_err c.from_residual-in_err-add.result _ c.from_residual-in_err-add.ensures.0

pub returns-in_ok-add-clause-adds : goal.returns-in_ok-add-clause-adds
returns-in_ok-add-clause-adds g c =
    let w = g.W.JoinWorld in
    adds_new_join w.meaning (w.joins c.args.world.now) c.args.known.now.items c.args.place c.index-as_slice-place.result c.args.generator.now (w.meaning c.in_ok-joined.joined) c.add.new.self.items
    c.requires.place (rw c.as_slice.ensures at c.index-as_slice-place.is) c.in_ok-joined.ensures c.in_ok-add.ensures.adds
