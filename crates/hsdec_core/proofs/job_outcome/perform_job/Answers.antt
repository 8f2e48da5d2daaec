use Rattle.std.proofs.Common.{Err, Ok, ◌∙◌, sym}
use Rattle.std.proofs.lemmas.Result.{err_from_is_err_and}
use Rattle.hs_io.specs.Counts.{Rose}
use Rattle.hsdec_core.proofs.Making.{made_of_gen, made_of_trial}
use Rattle.hsdec_core.proofs.job_outcome.perform_job.Goals as goal

pub returns-in_ok-text-in-Gen-clause-made : goal.returns-in_ok-text-in-Gen-clause-made
returns-in_ok-text-in-Gen-clause-made g c =
    rw c.from.ensures (made_of_gen c.args.job.now (g.F.Shelf.holds c.args.shelf.now) (Unit {0}) c.in_ok-text-in-Gen.text.items (sym c.task_of_command.ensures ∙ c.in-Gen.is) c.in_ok-text-in-Gen.ensures)

pub returns-in_err-made-in-Trial-clause-made : goal.returns-in_err-made-in-Trial-clause-made
returns-in_err-made-in-Trial-clause-made g c =
    let p = err_from_is_err_and c.from_residual-in_err-made-in-Trial.result c.from_residual-in_err-made-in-Trial.ensures.1 in
    rw (p.1, p.2)
    (made_of_trial c.args.job.now (g.F.Shelf.holds c.args.shelf.now) (Rose (g.F.Shelf.faults c.args.shelf.now) (g.F.Shelf.faults c.args.shelf.now)) (Err c.in_err-made-in-Trial.field-0.0) (sym c.task_of_command.ensures ∙ c.in-Trial.is) c.in_err-made-in-Trial.ensures)

pub returns-in_ok-design-in-Trial-clause-made : goal.returns-in_ok-design-in-Trial-clause-made
returns-in_ok-design-in-Trial-clause-made g c =
    rw c.in_ok-design-in-Trial.ensures
    (made_of_trial c.args.job.now (g.F.Shelf.holds c.args.shelf.now) (Unit {0}) (Ok c.in_ok-made-in-Trial.made) (sym c.task_of_command.ensures ∙ c.in-Trial.is) c.in_ok-made-in-Trial.ensures)
