use Rattle.std.proofs.Common.{Err, ap}
use Rattle.hs_io.specs.Counts.{Rose}
use Rattle.operands.proofs.Loads.{stop_of_fail}
use Rattle.operands.proofs.text.load_operand.Goals as goal

pub returns-in-Err-clause-loaded : goal.returns-in-Err-clause-loaded
returns-in-Err-clause-loaded g c =
    let shelf = g.F.Shelf in
    stop_of_fail (shelf.holds c.args.shelf.now c.args.name.now) (Rose (shelf.faults c.args.shelf.now) (shelf.faults c.load.new.self)) c.args.name.now c.in-Err.fail c.refusal_of.result c.refusal_of.ensures
    (λ is. c.in-Err.ensures.failed (ap Err is)) (λ is. c.in-Err.ensures.longer (ap Err is))
