use Rattle.std.proofs.Common.{subst}
use Rattle.operands.specs.Inner.TextRefusal.{IsReadOf}
use Rattle.operands.specs.Laws.Loads.{text_of_load}
use Rattle.operands.proofs.Opened.{opened_of_read}
use Rattle.operands.proofs.opened_operands.open_machine.Goals as goal

pub returns-clause-opened : goal.returns-clause-opened
returns-clause-opened g c =
    opened_of_read c.args.job.now (g.F.Shelf.holds c.args.shelf.now) _ c.as_slice.result.now c.read_machine.result
    (text_of_load (g.F.Shelf.holds c.args.shelf.now) c.bytes.result.now c.args.job.now.file c.in_ok-text.text c.as_slice.result.now c.in_ok-text.ensures.loaded c.bytes.ensures c.as_slice.ensures)
    (subst (λ fill. IsReadOf fill c.as_slice.result.now c.read_machine.result) c.fill.ensures c.read_machine.ensures)
