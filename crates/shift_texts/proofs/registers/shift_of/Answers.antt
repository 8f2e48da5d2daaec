use Rattle.std.proofs.lemmas.Result.{err_from_is_err_and}
use Rattle.shift_texts.proofs.Registering.{commented_is}
use Rattle.shift_texts.proofs.registers.shift_of.Goals as goal

pub returns-in_err-register : goal.returns-in_err-register
returns-in_err-register c = λ reduce is.
    let p = err_from_is_err_and c.from_residual.result c.from_residual.ensures.1 in
    rw (p.1, p.2) (c.in_err-register.ensures reduce is)

pub returns : goal.returns
returns c = λ reduce is.
    let register = c.in_ok-register.ensures reduce is in
    (register.0, commented_is reduce c.args.work.now.file.now c.in_ok-register.register _ c.in_ok-commented.ensures register.1)
