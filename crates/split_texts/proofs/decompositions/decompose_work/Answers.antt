use Rattle.std.proofs.lemmas.Result.{err_from_is_err_and}
use Rattle.split_texts.proofs.Judging.{judged_network, stop_of_plan}
use Rattle.split_texts.proofs.decompositions.decompose_work.Goals as goal

pub returns-in_err-split : goal.returns-in_err-split
returns-in_err-split c = λ reduce is.
    let p = err_from_is_err_and c.from_residual.result c.from_residual.ensures.1 in
    rw (p.1, p.2) (stop_of_plan c.args.kind c.args.text.now reduce c.args.work.now.file.now c.args.work.now c.requires.lawful c.requires.no_conflict is _ c.in_err-split.ensures)

pub returns : goal.returns
returns c = λ reduce is.
    judged_network c.args.kind c.args.text.now reduce c.args.work.now.file.now c.args.work.now c.requires.lawful c.requires.no_conflict is c.in_ok-split.split c.in_ok-split.ensures c.network_of_plan.result c.network_of_plan.ensures
