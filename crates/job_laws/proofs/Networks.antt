-- The words and what the shelf holds determine the text of a network but for the rows of its gates.
use Rattle.std.proofs.Common.{◌≡◌, ◌⊎◌, ℕ, List, Option, IsSome, inl, inr, refl, sym, subst}
use Rattle.blif_out.specs.declared.design.Design.{Design}
use Rattle.blif_out.specs.Head.{header_text}
use Rattle.blif_out.specs.NetworkText.{IsNetworkText}
use Rattle.cover_texts.specs.CoverText.{IsCoverText}
use Rattle.generated_texts.specs.Laws.Trials.{one_generated}
use Rattle.generated_texts.specs.Trial.{IsTrialText}
use Rattle.hsdec_core.specs.Clocks.{design_of}
use Rattle.hsdec_core.specs.declared.tasks.FileTask.{FileTask}
use Rattle.hsdec_core.specs.declared.tasks.FileTask.TheVariants.{Check, Cover, High, Low, Reduce}
use Rattle.hsdec_core.specs.declared.tasks.MachineTask.{MachineTask}
use Rattle.hsdec_core.specs.declared.tasks.MachineTask.TheVariants.{Listing, OfFile, OfWork}
use Rattle.hsdec_core.specs.declared.tasks.Task.{Task}
use Rattle.hsdec_core.specs.declared.tasks.Task.TheVariants.{Gen, OnMachine, Sim, Trial, Walk}
use Rattle.hsdec_core.specs.declared.tasks.WorkTask.{WorkTask}
use Rattle.hsdec_core.specs.declared.tasks.WorkTask.TheVariants.{Compare, Decompose, Definite, Part, Shift}
use Rattle.hsdec_core.specs.Operands.{held_where, takes_file}
use Rattle.hsdec_core.specs.Promise.{IsAskedOf, IsFileText, IsReport, IsWorkText}
use Rattle.hsdec_core.specs.Task.{task_of}
use Rattle.job_laws.proofs.Held.{machine_once}
use Rattle.job_laws.proofs.Reports.{sizes_of}
use Rattle.job_laws.proofs.Trials.{trial_texts_differ}
use Rattle.job_laws.specs.Jobs.{WritesNetwork, written_design}
use Rattle.job_laws.specs.Networks.{CoversDifferInRows, JobsDifferInRows}
use Rattle.job_words.specs.declared.command.Command.{Command}
use Rattle.job_words.specs.declared.command.Command.TheVariants as commands
use Rattle.job_words.specs.declared.jobs.Job.{Job}
use Rattle.job_words.specs.Job.{HasSizes, SizesAreSizes}
use Rattle.kiss2.specs.Kiss.{OneFile}
use Rattle.kiss_file.specs.declared.file.KissFile.{KissFile}
use Rattle.operands.specs.Fill.{fill_of}
use Rattle.text_laws.specs.Rows.{DifferInRowsAlone, NetworksDifferInRows, RowsAloneDiffer, ShiftRowsAloneDiffer}

-- the texts differ in this way after some comments
abbrev DifferAfter : Design → List ℕ → List ℕ → Type 0
DifferAfter design text other = (comments : List ℕ) × DifferInRowsAlone design comments text other

cover_texts_differ : CoversDifferInRows → (design : Design) (F : KissFile) (part text other : List ℕ) → IsCoverText design F part text → IsCoverText design F part other → DifferAfter design text other
cover_texts_differ covers design F part text other (made, is, told) (more, is_too, told_too) =
    let both = covers F part made more is is_too in (
      made.comments,
      record {
        network = made.network;
        other_network = more.network;
        one = told;
        two = subst (λ (comments : List ℕ). IsNetworkText design comments more.network other) (sym both.0) told_too;
        equal = both.1;
      },
    )

trial_of : (command : Command) → task_of command ≡ Trial → command ≡ commands.Trial
trial_of commands.Trial is = refl
trial_of _ is = absurd (cc)

module _ (one_file : OneFile) (rows : RowsAloneDiffer) (shift_rows : ShiftRowsAloneDiffer) (networks : NetworksDifferInRows) (covers : CoversDifferInRows) (job : Job) (text other : List ℕ) where
  file_texts_differ : (task : FileTask) (F : KissFile) → WritesNetwork (OnMachine (OfFile task)) → IsFileText task job F text → IsFileText task job F other → DifferAfter (design_of job) text other
  file_texts_differ Check F writes one two = absurd writes
  file_texts_differ Reduce F writes one two = absurd writes
  file_texts_differ Low F writes one two = absurd writes
  file_texts_differ High F writes one two = absurd writes
  file_texts_differ Cover F writes one two = cover_texts_differ covers (design_of job) F job.second text other one two

  work_texts_differ : (task : WorkTask) (F : KissFile) → WritesNetwork (OnMachine (OfWork task)) → IsWorkText task job F text → IsWorkText task job F other → DifferAfter (design_of job) text other
  work_texts_differ Definite F writes one two = absurd writes
  work_texts_differ Compare F writes one two = absurd writes
  work_texts_differ Part F writes one two = absurd writes
  work_texts_differ Shift F writes one two = shift_rows (design_of job) job.reduce F text other one two
  work_texts_differ (Decompose kind) F writes one two =
      let (header, lawful, alone) = rows (design_of job) kind job.second job.reduce F text other one two in (header_text header, alone)

  machine_texts_differ : (task : MachineTask) (F : KissFile) → WritesNetwork (OnMachine task) → IsReport task job F text → IsReport task job F other → DifferAfter (design_of job) text other
  machine_texts_differ (Listing listed) F writes one two = absurd writes
  machine_texts_differ (OfFile task) F writes one two = file_texts_differ task F writes one two
  machine_texts_differ (OfWork task) F writes one two = work_texts_differ task F writes one two

  module _ (holds : List ℕ → Option (List ℕ)) (sizes : (job.command ≡ commands.Gen) ⊎ (job.command ≡ commands.Trial) → HasSizes job) where
    task_texts_differ : (task : Task) → task_of job.command ≡ task → IsSome (held_where (takes_file task) (holds job.file)) → WritesNetwork task
        → IsAskedOf task job holds text → IsAskedOf task job holds other → DifferAfter (written_design task job) text other
    task_texts_differ (OnMachine task) is known writes (bytes, F, held, one) (more, G, held_too, two) =
        let same : G ≡ F = machine_once one_file (holds job.file) (fill_of job) more bytes G F known held_too held in
        machine_texts_differ task F writes one (subst (λ (M : KissFile). IsReport task job M other) same two)
    task_texts_differ Walk is known writes one two = absurd writes
    task_texts_differ Sim is known writes one two = absurd writes
    task_texts_differ Gen is known writes one two = absurd writes
    task_texts_differ Trial is known writes (F, made, one) (G, made_too, two) =
        let same : G ≡ F = one_generated job.seed job.a job.b job.k G F (sizes_of job (sizes (inr (trial_of job.command is)))) made_too made in
        trial_texts_differ networks job.seed job.a job.b job.k F text other one (subst (λ (M : KissFile). IsTrialText job.seed job.a job.b job.k M other) same two)

pub jobs_differ_in_rows : OneFile → RowsAloneDiffer → ShiftRowsAloneDiffer → NetworksDifferInRows → CoversDifferInRows → SizesAreSizes → JobsDifferInRows
jobs_differ_in_rows one_file rows shift_rows networks covers sizes words job holds text other is known writes one two =
    task_texts_differ one_file rows shift_rows networks covers job text other holds (sizes words job is) (task_of job.command) refl known.0 writes one two
