use Rattle.std.proofs.Common.{◌≡◌, ◌⊎◌, inl, inr, refl, ap, ◌∙◌}
use Rattle.std.proofs.lemmas.Result.{err_from_is_err_and}
use Rattle.hsdec_core.specs.declared.tasks.Task.TheVariants.{OnMachine}
use Rattle.hsdec_core.proofs.Making.{made_of_machine, no_machine}
use Rattle.hsdec_core.proofs.machine_tasks.on_machine.Goals as goal
use Rattle.hsdec_core.specs.declared.tasks.MachineTask.TheVariants.{OfWork}
use Rattle.hsdec_core.specs.declared.tasks.WorkTask.TheVariants as works
use Rattle.hsdec_core.specs.Task.{task_of}
use Rattle.job_words.specs.declared.command.Command.{Command}
use Rattle.job_words.specs.declared.command.Command.TheVariants as commands
use Rattle.job_words.specs.Job.{TakesParts}
use Rattle.state_codes.specs.declared.split.Kind.TheVariants as kinds

-- only `assign` and `part` have these tasks
takes_parts : (command : Command) → (task_of command ≡ OnMachine (OfWork (works.Decompose kinds.Assign))) ⊎ (task_of command ≡ OnMachine (OfWork works.Part)) → TakesParts command
takes_parts commands.Assign is = inl refl
takes_parts commands.Part is = inr refl
takes_parts _ (inl e) = absurd (cc)
takes_parts _ (inr e) = absurd (cc)

pub report-requires-clause-few : goal.report-requires-clause-few
report-requires-clause-few g c = elim [
  | inl assign ↦ c.requires.few (takes_parts c.args.job.now.command (inl (c.requires.task ∙ ap OnMachine assign)))
  | inr part ↦ c.requires.few (takes_parts c.args.job.now.command (inr (c.requires.task ∙ ap OnMachine part)))
]

pub returns-in_err-file-clause-made : goal.returns-in_err-file-clause-made
returns-in_err-file-clause-made g c =
    let p = err_from_is_err_and c.from_residual.result c.from_residual.ensures.1 in
    rw (p.1, p.2) (no_machine c.args.job.now (g.F.Shelf.holds c.args.shelf.now) _ (OnMachine c.args.task) c.in_err-file.field-0.0 c.requires.task refl (λ bytes h. inl h) c.in_err-file.ensures.opened)

pub returns-clause-made : goal.returns-clause-made
returns-clause-made g c =
    let opened = c.in_ok-file.ensures.opened in
    made_of_machine c.args.job.now (g.F.Shelf.holds c.args.shelf.now) _ c.args.task c.in_ok-file.field-0.file c.requires.task opened.0.0 opened.0.1 c.report.result c.report.ensures
