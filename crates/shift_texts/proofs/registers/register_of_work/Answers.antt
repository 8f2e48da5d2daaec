use Rattle.std.proofs.lemmas.Result.{err_from_is_err_and}
use Rattle.shift_texts.proofs.Judging.{stop_of_order, stop_of_register}
use Rattle.shift_texts.proofs.Registering.{register_is}
use Rattle.shift_texts.proofs.registers.register_of_work.Goals as goal

pub returns-in_err-order : goal.returns-in_err-order
returns-in_err-order c = λ reduce is.
    let p = err_from_is_err_and c.from_residual.result c.from_residual.ensures.1 in
    rw (p.1, p.2) (stop_of_order reduce c.args.work.now.file.now c.args.work.now is _ c.in_err-order.ensures)

pub returns-in_err-network : goal.returns-in_err-network
returns-in_err-network c = λ reduce is.
    let p = err_from_is_err_and c.from_residual-in_err-network.result c.from_residual-in_err-network.ensures.1 in
    rw (p.1, p.2) (stop_of_register reduce c.args.work.now.file.now c.args.work.now is c.in_ok-order.ensures.0 _ c.in_err-network.ensures)

pub returns : goal.returns
returns c = λ reduce is.
    register_is reduce c.args.work.now.file.now c.args.work.now is c.requires.lawful c.requires.no_conflict c.in_ok-order.order c.in_ok-order.ensures.1 c.in_ok-network.network c.in_ok-network.ensures.1 c.in_ok-order.ensures.0 c.in_ok-network.ensures.0
