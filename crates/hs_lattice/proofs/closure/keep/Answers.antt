use Rattle.std.proofs.Common.{sym, subst}
use Rattle.std.proofs.lemmas.Result.{IfOk-from_err}
use Rattle.hs_lattice.specs.Collection.{Adds, items_in}
use Rattle.hs_lattice.proofs.Collections.{adds_nothing}
use Rattle.hs_lattice.proofs.closure.keep.Goals as goal

pub returns-in_err-copy-clause-kept : goal.returns-in_err-copy-clause-kept
returns-in_err-copy-clause-kept g c = IfOk-from_err c.from_residual.result _ c.from_residual.ensures.0

pub returns-in_err-copy-clause-adds : goal.returns-in_err-copy-clause-adds
returns-in_err-copy-clause-adds g c = IfOk-from_err c.from_residual.result _ c.from_residual.ensures.0

pub returns-in_err-add-clause-kept : goal.returns-in_err-add-clause-kept
returns-in_err-add-clause-kept g c = IfOk-from_err c.from_residual-in_err-add.result _ c.from_residual-in_err-add.ensures.0

pub returns-in_err-add-clause-adds : goal.returns-in_err-add-clause-adds
returns-in_err-add-clause-adds g c = IfOk-from_err c.from_residual-in_err-add.result _ c.from_residual-in_err-add.ensures.0

pub add-requires-clause-item : goal.add-requires-clause-item
add-requires-clause-item g c = subst (g.W.JoinWorld.fits c.args.world.now) (sym c.in_ok-copy.ensures) c.requires.item

pub returns-in_ok-add-clause-adds : goal.returns-in_ok-add-clause-adds
returns-in_ok-add-clause-adds g c = subst (λ v. Adds g.W.JoinWorld.meaning (items_in c.args.kept.now) v (items_in c.add.new.self)) c.in_ok-copy.ensures c.in_ok-add.ensures.adds

pub returns-else-not-holds-clause-adds : goal.returns-else-not-holds-clause-adds
returns-else-not-holds-clause-adds g c = adds_nothing g.W.JoinWorld.meaning (items_in c.args.kept.now) (g.W.JoinWorld.meaning c.args.item.now) (c.holds.ensures.0 c.if-not-holds.false)
