use Rattle.std.proofs.lemmas.Result.{err_from_is_err_and}
use Rattle.split_texts.proofs.Judging.{stop_of_code, stop_of_plan}
use Rattle.part_texts.proofs.Planning.{split_is}
use Rattle.part_texts.proofs.split_machine.split_machine.Goals as goal

pub returns-in_err-split-clause-judged : goal.returns-in_err-split-clause-judged
returns-in_err-split-clause-judged c = λ reduce is.
    let p = err_from_is_err_and c.from_residual.result c.from_residual.ensures.1 in
    rw (p.1, p.2) (stop_of_plan c.args.kind c.args.text.now reduce c.args.work.now.file.now c.args.work.now c.requires.lawful c.requires.no_conflict is _ c.in_err-split.ensures)

pub returns-in_err-codes-clause-judged : goal.returns-in_err-codes-clause-judged
returns-in_err-codes-clause-judged c = λ reduce is.
    let p = err_from_is_err_and c.from_residual-in_err-codes.result c.from_residual-in_err-codes.ensures.1 in
    rw (p.1, p.2)
    (stop_of_code c.args.kind c.args.text.now reduce c.args.work.now.file.now c.args.work.now c.requires.lawful c.requires.no_conflict is c.in_ok-split.split c.in_ok-split.ensures _ c.in_err-codes.ensures)

pub returns-clause-judged : goal.returns-clause-judged
returns-clause-judged c = λ reduce is.
    split_is c.args.kind c.args.text.now reduce c.args.work.now.file.now c.args.work.now c.requires.lawful c.requires.no_conflict is c.in_ok-split.split c.in_ok-split.ensures c.in_ok-codes.codes c.in_ok-codes.ensures
    c.in_ok-with_reads.field-0 c.in_ok-with_reads.ensures
