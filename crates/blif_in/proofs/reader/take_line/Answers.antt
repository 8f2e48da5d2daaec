use Rattle.std.proofs.Common.{subst}
use Rattle.std.proofs.lemmas.Result.{err_from_is_err_and}
use Rattle.blif_in.specs.Inner.Draft.{Adds}
use Rattle.blif_in.proofs.Progressing.{tells_same}
use Rattle.blif_in.proofs.reader.take_line.Goals as goal

pub returns-in_err-take-clause-read : goal.returns-in_err-take-clause-read
returns-in_err-take-clause-read c lines rest is =
    let p = err_from_is_err_and c.from_residual.result c.from_residual.ensures.1 in
    rw (p.1, p.2) (tells_same _ _ _ _ (c.in_err-take.ensures.read lines rest is))

pub returns-clause-read : goal.returns-clause-read
returns-clause-read c = c.in_ok-take.ensures.read

pub returns-clause-adds : goal.returns-clause-adds
returns-clause-adds c = subst (λ statement. Adds statement c.args.draft.now c.add.new.self) c.statement_of.ensures.says c.in_ok-add.ensures
