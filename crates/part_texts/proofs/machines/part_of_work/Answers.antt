use Rattle.std.proofs.Common.{inl}
use Rattle.std.proofs.lemmas.Result.{err_from_is_err_and}
use Rattle.answers.specs.Laws.Causes.{stop_within}
use Rattle.split_texts.specs.Causes.{IsNotWritten}
use Rattle.part_texts.specs.PartCauses.{HasNoPart}
use Rattle.part_texts.proofs.Judging.{judged}
use Rattle.part_texts.proofs.machines.part_of_work.Goals as goal

pub returns-in_err-made : goal.returns-in_err-made
returns-in_err-made c = λ reduce is.
    let p = err_from_is_err_and c.from_residual.result c.from_residual.ensures.1 in
    rw (p.1, p.2)
    (stop_within (IsNotWritten c.args.kind c.args.text.now reduce c.args.work.now.file.now) (HasNoPart c.args.kind c.args.text.now c.args.which reduce c.args.work.now.file.now) _
    (λ refusal written. inl written) (c.in_err-made.ensures.judged reduce is))

pub returns : goal.returns
returns c = λ reduce is.
    let split = c.in_ok-made.ensures.judged reduce is in
    judged c.args.kind c.args.text.now c.args.which reduce c.args.work.now.file.now c.args.work.now.machine c.in_ok-made.made split.0 split.1
    (λ text. text.items) c.text_of_part.result c.text_of_part.ensures
