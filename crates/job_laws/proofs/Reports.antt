-- The words and what the shelf holds determine the text.
use Rattle.std.proofs.Common.{◌≡◌, ◌⊎◌, ◌∙◌, ℕ, Bool, false, cond, not, List, Option, IsSome, inl, inr, filter, refl, sym, ap, subst}
use Rattle.closed_lattice.specs.ClosedPartitions.{IsClosedPartition}
use Rattle.generated_texts.specs.Laws.Trials.{one_generated}
use Rattle.hs_io.specs.declared.lines.Line.{Line}
use Rattle.hs_io.specs.Lines.{is_skipped, lines_of}
use Rattle.hsdec_core.specs.declared.tasks.FileTask.{FileTask}
use Rattle.hsdec_core.specs.declared.tasks.FileTask.TheVariants.{Check, Cover, High, Low, Reduce}
use Rattle.hsdec_core.specs.declared.tasks.ListTask.{ListTask}
use Rattle.hsdec_core.specs.declared.tasks.ListTask.TheVariants.{Closed, InputPairs, Output, OutputPairs, Pairs}
use Rattle.hsdec_core.specs.declared.tasks.MachineTask.{MachineTask}
use Rattle.hsdec_core.specs.declared.tasks.MachineTask.TheVariants.{Listing, OfFile, OfWork}
use Rattle.hsdec_core.specs.declared.tasks.Task.{Task}
use Rattle.hsdec_core.specs.declared.tasks.Task.TheVariants.{Gen, OnMachine, Sim, Trial, Walk}
use Rattle.hsdec_core.specs.declared.tasks.WorkTask.{WorkTask}
use Rattle.hsdec_core.specs.declared.tasks.WorkTask.TheVariants.{Compare, Decompose, Definite, Part, Shift}
use Rattle.hsdec_core.specs.Operands.{held_where, takes_file, takes_symbols}
use Rattle.hsdec_core.specs.Promise.{IsAskedOf, IsFileText, IsListing, IsReport, IsWorkText, shown_of}
use Rattle.hsdec_core.specs.SplitOperands.{split_kind, which_of}
use Rattle.hsdec_core.specs.Task.{task_of}
use Rattle.io_pairs.specs.Inputs.{IsInMmPair}
use Rattle.job_laws.proofs.Held.{bytes_once, machine_once, network_once}
use Rattle.job_laws.proofs.Orders.{before_apart, right_before_apart}
use Rattle.job_laws.proofs.Texts.{chain_text_once, check_once, high_text_once, list_once, low_text_once, outputs_once, reduced_once}
use Rattle.job_laws.specs.Jobs.{HasOneText}
use Rattle.job_laws.specs.Reports.{ReportsAreOne}
use Rattle.job_words.specs.declared.command.Command.{Command}
use Rattle.job_words.specs.declared.command.Command.TheVariants as commands
use Rattle.job_words.specs.declared.jobs.Job.{Job}
use Rattle.job_words.specs.Job.{HasSizes, SizesAreSizes}
use Rattle.kiss2.specs.Kiss.{OneFile}
use Rattle.kiss2.specs.KissText.{kiss_text}
use Rattle.kiss_file.specs.declared.fill.Fill.{Fill}
use Rattle.kiss_file.specs.declared.fill.Fill.TheVariants.{Hold, Refuse}
use Rattle.kiss_file.specs.declared.file.KissFile.{KissFile}
use Rattle.kiss_file.specs.Machine.{Accepted, Specified, answers}
use Rattle.machine_gen.specs.WordMachine.{AreSizes}
use Rattle.machine_reports.specs.declared.state_texts.Shown.{Shown}
use Rattle.machine_reports.specs.ListTexts.{pair_line}
use Rattle.machine_reports.specs.StateTexts.{state_line, state_pair_line}
use Rattle.mm_lattice.specs.MmPairs.{IsMmPair}
use Rattle.net_core.specs.Blif.{BlifOnce}
use Rattle.net_core.specs.declared.Network.{Network}
use Rattle.net_sim.proofs.Exclusive.{run_once, word_once}
use Rattle.net_sim.specs.Run.{IsRun, answers_text}
use Rattle.operands.specs.Fill.{fill_of}
use Rattle.output_consistent.specs.Outputs.{IsClosedAndConsistent}
use Rattle.part_laws.specs.Texts.{PartIsOne}
use Rattle.partition.specs.Order.{Before}
use Rattle.partition.specs.Sides.{RightBefore}
use Rattle.symbol_runs.specs.Texts.{IsWalkText}

-- ---- of one machine
listing_once : (listed : ListTask) (shown : Shown) (limit : ℕ) (F : KissFile) (text other : List ℕ) → IsListing listed shown limit F text → IsListing listed shown limit F other → text ≡ other
listing_once Closed shown limit F text other one two = list_once (state_line shown F.states) Before (IsClosedPartition F) limit text other before_apart one two
listing_once Output shown limit F text other one two = list_once (state_line shown F.states) Before (IsClosedAndConsistent F) limit text other before_apart one two
listing_once Pairs shown limit F text other one two = list_once (state_pair_line shown F.states) RightBefore (IsMmPair F) limit text other right_before_apart one two
listing_once InputPairs shown limit F text other one two = list_once pair_line RightBefore (IsInMmPair F) limit text other right_before_apart one two
listing_once OutputPairs shown limit F text other one two = outputs_once F limit text other one two

file_text_once : (task : FileTask) (job : Job) (F : KissFile) (text other : List ℕ) → HasOneText (OnMachine (OfFile task)) job → IsFileText task job F text → IsFileText task job F other → text ≡ other
file_text_once Check job F text other has one two = check_once F text other one two
file_text_once Reduce job F text other has one two = reduced_once F (fill_of job) text other one two
file_text_once Low job F text other has one two = low_text_once (shown_of job) F job.second text other one two
file_text_once High job F text other has one two = high_text_once (shown_of job) F job.second text other one two
file_text_once Cover job F text other has one two = absurd has

-- without `--fill hold` nothing is open in a file that is accepted
specified_of : (job : Job) (F : KissFile) → job.hold ≡ false → Accepted F (fill_of job) → Specified F
specified_of job F off accepted =
    elim accepted.filled [
      | inl specified ↦ specified
      | inr filled ↦
          let refused : fill_of job ≡ Refuse = ap (λ (hold : Bool). cond hold Hold Refuse) off in
          let same : Refuse ≡ Hold = sym refused ∙ filled in
          absurd (cc)
    ]

module _ (part_is_one : PartIsOne) where
  work_text_once : (task : WorkTask) (job : Job) (F : KissFile) (text other : List ℕ) → Accepted F (fill_of job) → HasOneText (OnMachine (OfWork task)) job → IsWorkText task job F text → IsWorkText task job F other → text ≡ other
  work_text_once Definite job F text other accepted has one two = chain_text_once (shown_of job) job.reduce F text other one two
  work_text_once Part job F text other accepted has one two =
      part_is_one (split_kind job.second) job.second (which_of job.part) job.reduce F text other (specified_of job F has accepted) one two
  work_text_once Compare job F text other accepted has one two = absurd has
  work_text_once Shift job F text other accepted has one two = absurd has
  work_text_once (Decompose kind) job F text other accepted has one two = absurd has

  report_once : (task : MachineTask) (job : Job) (F : KissFile) (text other : List ℕ) → Accepted F (fill_of job) → HasOneText (OnMachine task) job → IsReport task job F text → IsReport task job F other → text ≡ other
  report_once (Listing listed) job F text other accepted has one two = listing_once listed (shown_of job) job.limit F text other one two
  report_once (OfFile task) job F text other accepted has one two = file_text_once task job F text other has one two
  report_once (OfWork task) job F text other accepted has one two = work_text_once task job F text other accepted has one two

walk_once : (F : KissFile) (symbols text other : List ℕ) → IsWalkText F symbols text → IsWalkText F symbols other → text ≡ other
walk_once F symbols text other (word, file, is) (more, file_too, is_too) =
    is
    ∙ (ap (λ (w : List (List Bool)). answers_text (answers F F.reset w))
    (word_once F.inputs (filter (λ (line : Line). not (is_skipped line)) (lines_of symbols)) word more file file_too) ∙ sym is_too)

-- ---- of a job
pub gen_of : (command : Command) → task_of command ≡ Gen → command ≡ commands.Gen
gen_of commands.Gen is = refl
gen_of _ is = absurd (cc)

pub sizes_of : (job : Job) → HasSizes job → AreSizes job.a job.b job.k
sizes_of job sizes = record {
  a_low = sizes.a_low;
  a_high = sizes.a_high;
  b_low = sizes.b_low;
  b_high = sizes.b_high;
  states = sizes.states;
  k_low = sizes.k_low;
  k_high = sizes.k_high;
}

module _ (one_file : OneFile) (blif_once : BlifOnce) (part_is_one : PartIsOne) (job : Job) (holds : List ℕ → Option (List ℕ)) (text other : List ℕ)
    (sizes : (job.command ≡ commands.Gen) ⊎ (job.command ≡ commands.Trial) → HasSizes job) where
  task_text_once : (task : Task) → task_of job.command ≡ task → IsSome (held_where (takes_file task) (holds job.file)) → IsSome (held_where (takes_symbols task) (holds job.second)) → HasOneText task job
      → IsAskedOf task job holds text → IsAskedOf task job holds other → text ≡ other
  task_text_once (OnMachine task) is known known_symbols has (bytes, F, held, one) (more, G, held_too, two) =
      let same : G ≡ F = machine_once one_file (holds job.file) (fill_of job) more bytes G F known held_too held in
      report_once part_is_one task job F text other held.accepted has one (subst (λ (M : KissFile). IsReport task job M other) same two)
  task_text_once Walk is known known_symbols has (bytes, F, symbols, held, read, one) (more, G, others, held_too, read_too, two) =
      let same : G ≡ F = machine_once one_file (holds job.file) (fill_of job) more bytes G F known held_too held in
      let lines : others ≡ symbols = bytes_once (holds job.second) others symbols known_symbols read_too read in
      walk_once F symbols text other one (subst (λ (list : List ℕ). IsWalkText F list other) lines (subst (λ (M : KissFile). IsWalkText M others other) same two))
  task_text_once Sim is known known_symbols has (bytes, N, symbols, held, read, one) (more, M, others, held_too, read_too, two) =
      let same : M ≡ N = network_once blif_once (holds job.file) more bytes M N known held_too held in
      let lines : others ≡ symbols = bytes_once (holds job.second) others symbols known_symbols read_too read in
      run_once N job.start symbols text other one (subst (λ (list : List ℕ). IsRun N job.start list other) lines (subst (λ (K : Network). IsRun K job.start others other) same two))
  task_text_once Gen is known known_symbols has (F, made, one) (G, made_too, two) =
      one ∙ (ap kiss_text (one_generated job.seed job.a job.b job.k F G (sizes_of job (sizes (inl (gen_of job.command is)))) made made_too) ∙ sym two)
  task_text_once Trial is known known_symbols has one two = absurd has

pub reports_are_one : OneFile → BlifOnce → PartIsOne → SizesAreSizes → ReportsAreOne
reports_are_one one_file blif_once part_is_one sizes words job holds text other is known has one two =
    task_text_once one_file blif_once part_is_one job holds text other (sizes words job is) (task_of job.command) refl known.0 known.1 has one two
