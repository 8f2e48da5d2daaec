use Rattle.std.proofs.Common.{inr, refl}
use Rattle.std.proofs.lemmas.Result.{IfOk-weaker}
use Rattle.comparisons.proofs.Texts.{reason_told, register_counted, register_refused}
use Rattle.comparisons.specs.Lines.{register_word}
use Rattle.shift_texts.specs.Causes.{RefusesShift}
use Rattle.comparisons.proofs.lines.register_line.Goals as goal

pub returns-in-Ok : goal.returns-in-Ok
returns-in-Ok c = λ reduce is.
    let judged = c.in-Ok.ensures reduce is in
    IfOk-weaker c.order_line.result _ _ (λ line told. register_counted reduce c.args.work.now.file.now c.in-Ok.made line.items judged.0 judged.1.0 judged.1.1 told) c.order_line.ensures

pub reason_line-requires : goal.reason_line-requires
reason_line-requires c = register_refused c.requires.work.0 c.args.work.now.file.now register_word c.in-Err.refusal refl (c.in-Err.ensures c.requires.work.0 c.requires.work.1)

pub returns-in-Err : goal.returns-in-Err
returns-in-Err c = λ reduce is.
    IfOk-weaker c.reason_line.result _ _
    (λ line told. inr (reason_told (RefusesShift reduce c.args.work.now.file.now) register_word register_word line.items c.in-Err.refusal refl (c.in-Err.ensures reduce is) told))
    c.reason_line.ensures
