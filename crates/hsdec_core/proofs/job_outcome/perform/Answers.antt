use Rattle.std.proofs.Common.{◌≡◌, ℕ, Result, Ok, IfOk, false, subst, sym}
use Rattle.hs_io.specs.Counts.{Rose}
use Rattle.hsdec_core.specs.Inner.JobOutcome.{IsOutcomeOfWords}
use Rattle.hsdec_core.specs.Operands.{takes_file}
use Rattle.hsdec_core.specs.Task.{task_of}
use Rattle.hsdec_core.proofs.Making.{made_of_page}
use Rattle.job_words.specs.declared.jobs.Job.{Job}
use Rattle.hsdec_core.proofs.job_outcome.perform.Goals as goal
use Rattle.job_words.proofs.GivenNames.{names_are_names}
use Rattle.job_words.proofs.Limits.{limits_are_limits}
use Rattle.job_words.proofs.Sizes.{sizes_are_sizes}
use Rattle.job_words.proofs.Slashes.{parts_are_few}

pub perform_job-requires-clause-few : goal.perform_job-requires-clause-few
perform_job-requires-clause-few g c = parts_are_few c.args.words.now c.in-Ok.job c.in-Ok.ensures.job

pub perform_job-requires-clause-limited : goal.perform_job-requires-clause-limited
perform_job-requires-clause-limited g c = limits_are_limits c.args.words.now c.in-Ok.job c.in-Ok.ensures.job

pub perform_job-requires-clause-named : goal.perform_job-requires-clause-named
perform_job-requires-clause-named g c = names_are_names c.args.words.now c.in-Ok.job c.in-Ok.ensures.job

pub perform_job-requires-clause-sizes : goal.perform_job-requires-clause-sizes
perform_job-requires-clause-sizes g c = sizes_are_sizes c.args.words.now c.in-Ok.job c.in-Ok.ensures.job

pub returns-in_ok-page_of-in-Ok-clause-made : goal.returns-in_ok-page_of-in-Ok-clause-made
returns-in_ok-page_of-in-Ok-clause-made g c =
    subst (λ (job : Result Job ℕ). IsOutcomeOfWords job (g.F.Shelf.holds c.args.shelf.now) (Rose (g.F.Shelf.faults c.args.shelf.now) (g.F.Shelf.faults c.perform_job.new.shelf)) (Ok c.in_ok-page_of-in-Ok.field-0)) (sym c.in-Ok.ensures.job)
    (made_of_page c.in-Ok.job (g.F.Shelf.holds c.args.shelf.now) (Rose (g.F.Shelf.faults c.args.shelf.now) (g.F.Shelf.faults c.perform_job.new.shelf)) c.in_ok-report-in-Ok.report c.in_ok-page_of-in-Ok.field-0 c.in_ok-report-in-Ok.ensures.made c.in_ok-page_of-in-Ok.ensures)

pub returns-in_err-page_of-in-Ok-clause-no_operand : goal.returns-in_err-page_of-in-Ok-clause-no_operand
returns-in_err-page_of-in-Ok-clause-no_operand g c =
    subst (λ (job : Result Job ℕ). IfOk job (λ j. takes_file (task_of j.command) ≡ false → c.perform_job.new.shelf ≡ c.args.shelf.now)) (sym c.in-Ok.ensures.job) c.perform_job.ensures.no_operand
