use Rattle.std.proofs.Common.{inl, inr, refl, ap, ◌∙◌, subst}
use Rattle.answers.specs.Outcome.{IsReported}
use Rattle.hsdec_core.specs.declared.tasks.MachineTask.TheVariants.{Listing, OfFile, OfWork}
use Rattle.hsdec_core.specs.Judgement.{list_cause, own_cause}
use Rattle.hsdec_core.specs.Promise.{IsListEvidence, IsListing, IsReport, IsShown}
use Rattle.hsdec_core.proofs.Reports.{reported_as}
use Rattle.hsdec_core.proofs.machine_tasks.report.Goals as goal

pub on_work-requires-clause-few : goal.on_work-requires-clause-few
on_work-requires-clause-few c = elim [
  | inl assign ↦ c.requires.few (inl (c.in-OfWork.is ∙ ap OfWork assign))
  | inr part ↦ c.requires.few (inr (c.in-OfWork.is ∙ ap OfWork part))
]

pub returns-in-Listing : goal.returns-in-Listing
returns-in-Listing c =
    let listed = c.in-Listing.listed in
    let M = c.args.machine in
    let job = c.args.job.now in
    reported_as (λ task. own_cause task job) (λ task. IsReport task job) (λ task. IsShown task job)
    _ (Listing listed) c.args.file.now M c.listing.result c.in-Listing.is c.requires.machine
    (subst (λ shown. IsReported (list_cause listed job.limit M) (IsListing listed shown job.limit M) (IsListEvidence listed shown job.limit M) c.listing.result) c.shown.ensures c.listing.ensures)

pub returns-in-OfFile : goal.returns-in-OfFile
returns-in-OfFile c =
    reported_as (λ task. own_cause task c.args.job.now) (λ task. IsReport task c.args.job.now) (λ task. IsShown task c.args.job.now)
    _ (OfFile c.in-OfFile.task) c.args.file.now c.args.file.now c.on_file.result c.in-OfFile.is refl c.on_file.ensures

pub returns-in-OfWork : goal.returns-in-OfWork
returns-in-OfWork c =
    reported_as (λ task. own_cause task c.args.job.now) (λ task. IsReport task c.args.job.now) (λ task. IsShown task c.args.job.now)
    _ (OfWork c.in-OfWork.task) c.args.file.now c.args.file.now c.on_work.result c.in-OfWork.is refl c.on_work.ensures
