use Rattle.std.proofs.lemmas.Result.{err_from_is_err_and}
use Rattle.machine_reports.proofs.Defining.{right_chain, stop_of_order}
use Rattle.machine_reports.proofs.chains.chain_text.Goals as goal

pub returns : goal.returns
returns c = λ reduce is.
    right_chain reduce c.args.work.now.file.now c.args.work.now is c.args.shown _ c.in_ok-members.members _ c.work_names-names.result.now c.in_ok-lines_of_parts.field-0.items c.keeps_its_states.ensures.next c.in_ok-order_by_chain.ensures.judged.1 c.in_ok-members.ensures.chain c.in_ok-members.ensures.together c.as_slice.ensures c.work_names-names.ensures c.in_ok-lines_of_parts.ensures

pub returns-in_err-order_by_chain : goal.returns-in_err-order_by_chain
returns-in_err-order_by_chain c = λ reduce is.
    let p = err_from_is_err_and c.from_residual-in_err-order_by_chain.result c.from_residual-in_err-order_by_chain.ensures.1 in
    rw (p.1, p.2) (stop_of_order reduce c.args.work.now.file.now c.args.work.now is _ c.in_err-order_by_chain.ensures.judged)
