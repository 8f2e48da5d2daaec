use Rattle.std.proofs.Common.{Ok, Err}
use Rattle.std.proofs.lemmas.Result.{err_from_is_err_and}
use Rattle.operands.specs.Laws.Loads.{stop_of_load, text_of_load}
use Rattle.hsdec_core.proofs.Making.{walk_made, walk_unloaded}
use Rattle.hsdec_core.proofs.symbol_tasks.run_machine.Goals as goal

pub returns-in_err-symbols-clause-made : goal.returns-in_err-symbols-clause-made
returns-in_err-symbols-clause-made g c =
    let p = err_from_is_err_and c.from_residual.result c.from_residual.ensures.1 in
    rw (p.1, p.2)
    (walk_unloaded c.args.job.now (g.F.Shelf.holds c.args.shelf.now) _ c.args.machine.now c.requires.task c.requires.held.0 c.requires.held.1 c.in_err-symbols.field-0.0
    (stop_of_load (g.F.Shelf.holds c.args.shelf.now) _ c.bytes.result.now c.args.job.now.second c.in_err-symbols.field-0.0 c.in_err-symbols.ensures.loaded c.bytes.ensures))

pub returns-in_err-text-clause-made : goal.returns-in_err-text-clause-made
returns-in_err-text-clause-made g c =
    let p = err_from_is_err_and c.from_residual-in_err-text.result c.from_residual-in_err-text.ensures.1 in
    rw (p.1, p.2)
    (walk_made c.args.job.now (g.F.Shelf.holds c.args.shelf.now) _ c.args.machine.now c.requires.task c.requires.held.0 c.requires.held.1 c.as_slice.result.now (Err c.in_err-text.field-0.0)
    (text_of_load (g.F.Shelf.holds c.args.shelf.now) c.bytes.result.now c.args.job.now.second c.in_ok-symbols.symbols c.as_slice.result.now c.in_ok-symbols.ensures.loaded c.bytes.ensures c.as_slice.ensures)
    c.in_err-text.ensures)

pub returns-clause-made : goal.returns-clause-made
returns-clause-made g c =
    rw c.from.ensures
    (walk_made c.args.job.now (g.F.Shelf.holds c.args.shelf.now) (Unit {0}) c.args.machine.now c.requires.task c.requires.held.0 c.requires.held.1 c.as_slice.result.now (Ok c.in_ok-text.text.items)
    (text_of_load (g.F.Shelf.holds c.args.shelf.now) c.bytes.result.now c.args.job.now.second c.in_ok-symbols.symbols c.as_slice.result.now c.in_ok-symbols.ensures.loaded c.bytes.ensures c.as_slice.ensures)
    c.in_ok-text.ensures)
