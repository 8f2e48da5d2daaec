-- What each command promises of the text that it puts: one relation for each command, defined by its family.
use Rattle.std.specs.Prelude.{◌≡◌, ℕ, ◌⊎◌, if◌then◌else◌, List, Option}
use Rattle.closed_lattice.specs.ClosedPartitions.{IsClosedPartition}
use Rattle.comparisons.specs.Comparison.{IsCompared}
use Rattle.cover_texts.specs.CoverText.{IsCoverText}
use Rattle.generated_texts.specs.SeedMachine.{OfGenerated}
use Rattle.generated_texts.specs.Trial.{IsTrialText}
use Rattle.hsdec_core.specs.declared.tasks.FileTask.{FileTask}
use Rattle.hsdec_core.specs.declared.tasks.FileTask.TheVariants.{Check, Cover, High, Low, Reduce}
use Rattle.hsdec_core.specs.declared.tasks.ListTask.{ListTask}
use Rattle.hsdec_core.specs.declared.tasks.ListTask.TheVariants.{Closed, InputPairs, Output, OutputPairs, Pairs}
use Rattle.hsdec_core.specs.declared.tasks.MachineTask.{MachineTask}
use Rattle.hsdec_core.specs.declared.tasks.MachineTask.TheVariants.{Listing, OfFile, OfWork}
use Rattle.hsdec_core.specs.declared.tasks.Task.{Task}
use Rattle.hsdec_core.specs.declared.tasks.Task.TheVariants.{Gen, OnMachine, Sim, Trial, Walk}
use Rattle.hsdec_core.specs.declared.tasks.WorkTask.{WorkTask}
use Rattle.hsdec_core.specs.declared.tasks.WorkTask.TheVariants.{Compare, Decompose, Definite, Part, Shift}
use Rattle.hsdec_core.specs.Clocks.{design_of}
use Rattle.operands.specs.Fill.{fill_of}
use Rattle.operands.specs.OperandText.{IsText}
use Rattle.operands.specs.OpenedOperands.{HoldsMachine, HoldsNetwork}
use Rattle.hsdec_core.specs.SplitOperands.{split_kind, which_of}
use Rattle.hsdec_core.specs.Task.{task_of}
use Rattle.io_pairs.specs.Inputs.{IsInMmPair}
use Rattle.job_words.specs.declared.jobs.Job.{Job}
use Rattle.kiss_file.specs.declared.file.KissFile.{KissFile}
use Rattle.kiss2.specs.KissText.{kiss_text}
use Rattle.machine_reports.specs.CheckText.{IsChecked}
use Rattle.machine_reports.specs.DefiniteText.{IsChainText}
use Rattle.machine_reports.specs.ListTexts.{IsEvidenceText, IsListText, pair_line}
use Rattle.machine_reports.specs.OutputTexts.{IsOutputEvidence, IsOutputText}
use Rattle.machine_reports.specs.PartnerTexts.{IsHighText, IsLowText}
use Rattle.machine_reports.specs.ReducedText.{IsReducedText}
use Rattle.machine_reports.specs.StateTexts.{state_line, state_pair_line}
use Rattle.machine_reports.specs.declared.state_texts.Shown.{Shown}
use Rattle.machine_reports.specs.declared.state_texts.Shown.TheVariants.{Labels, Names}
use Rattle.mm_lattice.specs.MmPairs.{IsMmPair}
use Rattle.partition.specs.Sides.{RightBefore}
use Rattle.net_core.specs.declared.Network.{Network}
use Rattle.net_sim.specs.Run.{IsRun}
use Rattle.output_consistent.specs.Outputs.{IsClosedAndConsistent}
use Rattle.part_texts.specs.PartText.{IsPartText}
use Rattle.partition.specs.Order.{Before}
use Rattle.shift_texts.specs.ShiftText.{IsShiftText}
use Rattle.split_texts.specs.SplitText.{IsWritten}
use Rattle.state_codes.specs.declared.split.Kind.{Kind}
use Rattle.symbol_runs.specs.Texts.{IsWalkText}

-- ---- of the machine of FILE
-- whether partitions of states are printed by their labels or by the names of the states
abbrev pub shown_of : Job → Shown
shown_of job = if job.names then Names else Labels

-- the text is the whole list
abbrev pub IsListing : ListTask → Shown → ℕ → KissFile → List ℕ → Type 0
IsListing Closed shown limit F text = IsListText (state_line shown F.states) Before (IsClosedPartition F) limit text
IsListing Output shown limit F text = IsListText (state_line shown F.states) Before (IsClosedAndConsistent F) limit text
IsListing Pairs shown limit F text = IsListText (state_pair_line shown F.states) RightBefore (IsMmPair F) limit text
IsListing InputPairs shown limit F text = IsListText pair_line RightBefore (IsInMmPair F) limit text
IsListing OutputPairs shown limit F text = IsOutputText F limit text

-- the text is evidence that the list has more than the limit
abbrev pub IsListEvidence : ListTask → Shown → ℕ → KissFile → List ℕ → Type 0
IsListEvidence Closed shown limit F text = IsEvidenceText (state_line shown F.states) Before (IsClosedPartition F) limit text
IsListEvidence Output shown limit F text = IsEvidenceText (state_line shown F.states) Before (IsClosedAndConsistent F) limit text
IsListEvidence Pairs shown limit F text = IsEvidenceText (state_pair_line shown F.states) RightBefore (IsMmPair F) limit text
IsListEvidence InputPairs shown limit F text = IsEvidenceText pair_line RightBefore (IsInMmPair F) limit text
IsListEvidence OutputPairs shown limit F text = IsOutputEvidence F limit text

-- the text is the one on the machine of FILE itself
abbrev pub IsFileText : FileTask → Job → KissFile → List ℕ → Type 0
IsFileText Check job F text = IsChecked F text
IsFileText Reduce job F text = IsReducedText F (fill_of job) text
IsFileText Low job F text = IsLowText (shown_of job) F job.second text
IsFileText High job F text = IsHighText (shown_of job) F job.second text
IsFileText Cover job F text = IsCoverText (design_of job) F job.second text

-- the text is the one on the machine that the job works on
abbrev pub IsWorkText : WorkTask → Job → KissFile → List ℕ → Type 0
IsWorkText Definite job F text = IsChainText (shown_of job) job.reduce F text
IsWorkText Compare job F text = IsCompared job.reduce F text
IsWorkText Shift job F text = IsShiftText (design_of job) job.reduce F text
IsWorkText Part job F text = IsPartText (split_kind job.second) job.second (which_of job.part) job.reduce F text
IsWorkText (Decompose kind) job F text = IsWritten (design_of job) kind job.second job.reduce F text

-- the text is the whole text of the task
abbrev pub IsReport : MachineTask → Job → KissFile → List ℕ → Type 0
IsReport (Listing listed) job F text = IsListing listed (shown_of job) job.limit F text
IsReport (OfFile task) job F text = IsFileText task job F text
IsReport (OfWork task) job F text = IsWorkText task job F text

-- the text is evidence that there are more than the limit
abbrev pub IsShown : MachineTask → Job → KissFile → List ℕ → Type 0
IsShown (Listing listed) job F text = IsListEvidence listed (shown_of job) job.limit F text
IsShown _ job F text = ⊥

-- ---- of what a shelf holds
-- the text that a job asks for, by its task and by what the shelf holds under the job's names
abbrev pub IsAskedOf : Task → Job → (List ℕ → Option (List ℕ)) → List ℕ → Type 0
IsAskedOf (OnMachine task) job holds text =
    (bytes : List ℕ) × (F : KissFile) × HoldsMachine (holds job.file) (fill_of job) bytes F × IsReport task job F text
IsAskedOf Walk job holds text =
    (bytes : List ℕ) × (F : KissFile) × (symbols : List ℕ)
    × HoldsMachine (holds job.file) (fill_of job) bytes F × IsText (holds job.second) symbols × IsWalkText F symbols text
IsAskedOf Sim job holds text =
    (bytes : List ℕ) × (N : Network) × (symbols : List ℕ)
    × HoldsNetwork (holds job.file) bytes N × IsText (holds job.second) symbols × IsRun N job.start symbols text
IsAskedOf Gen job holds text = OfGenerated job.seed job.a job.b job.k (λ F. text ≡ kiss_text F)
IsAskedOf Trial job holds text = OfGenerated job.seed job.a job.b job.k (λ F. IsTrialText job.seed job.a job.b job.k F text)

abbrev pub IsAsked : Job → (List ℕ → Option (List ℕ)) → List ℕ → Type 0
IsAsked job holds text = IsAskedOf (task_of job.command) job holds text

-- the text is the evidence that a job puts, by what the shelf holds under its FILE
abbrev pub IsShownBy : Task → Job → KissFile → List ℕ → Type 0
IsShownBy (OnMachine task) job F text = IsShown task job F text
IsShownBy _ job F text = ⊥

abbrev pub IsEvidence : Job → (List ℕ → Option (List ℕ)) → List ℕ → Type 0
IsEvidence job holds text =
    (bytes : List ℕ) × (F : KissFile) × HoldsMachine (holds job.file) (fill_of job) bytes F × IsShownBy (task_of job.command) job F text

-- the text that a job asks for, or its evidence
abbrev pub IsAskedOrShown : Job → (List ℕ → Option (List ℕ)) → List ℕ → Type 0
IsAskedOrShown job holds text = IsAsked job holds text ⊎ IsEvidence job holds text

-- the text is a decomposition of that kind, of the machine that the job's FILE denotes
abbrev pub IsDecompositionOf : Kind → Job → (List ℕ → Option (List ℕ)) → List ℕ → Type 0
IsDecompositionOf kind job holds text =
    (bytes : List ℕ) × (F : KissFile) × HoldsMachine (holds job.file) (fill_of job) bytes F × IsWritten (design_of job) kind job.second job.reduce F text
