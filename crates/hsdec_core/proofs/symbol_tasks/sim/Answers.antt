use Rattle.std.proofs.lemmas.Result.{err_from_is_err_and}
use Rattle.hsdec_core.proofs.Making.{no_network}
use Rattle.hsdec_core.proofs.Symbols.{made_later}
use Rattle.hsdec_core.proofs.symbol_tasks.sim.Goals as goal

pub returns-in_err-opened-clause-made : goal.returns-in_err-opened-clause-made
returns-in_err-opened-clause-made g c =
    let p = err_from_is_err_and c.from_residual.result c.from_residual.ensures.1 in
    rw (p.1, p.2) (no_network c.args.job.now (g.F.Shelf.holds c.args.shelf.now) _ c.in_err-opened.field-0.0 c.requires.task c.in_err-opened.ensures.opened)

pub returns-clause-made : goal.returns-clause-made
returns-clause-made g c =
    made_later c.args.job.now (g.F.Shelf.holds c.args.shelf.now) _ _ _ _ c.run_network.result c.in_ok-opened.ensures.holds_the_same c.in_ok-opened.ensures.never_falls c.run_network.ensures.made
