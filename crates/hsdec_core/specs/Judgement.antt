-- What a job calls for by what it loads, in the order of judgement. The causes that come before a command's own are
-- in `Causes`; a command's own causes are in the crate of its family, and a clock that is refused, in `Clocks`.
use Rattle.std.specs.Prelude.{ℕ, List, [], ◌∷◌, length}
use Rattle.answers.specs.Cause.{Cause, FirstOf}
use Rattle.closed_lattice.specs.ClosedPartitions.{IsClosedPartition}
use Rattle.cover_texts.specs.Flaws.{BadCoverRow}
use Rattle.generated_texts.specs.Trial.{LongCodeRow}
use Rattle.hsdec_core.specs.declared.tasks.FileTask.{FileTask}
use Rattle.hsdec_core.specs.declared.tasks.FileTask.TheVariants.{Check, Cover, High, Low, Reduce}
use Rattle.hsdec_core.specs.declared.tasks.ListTask.{ListTask}
use Rattle.hsdec_core.specs.declared.tasks.ListTask.TheVariants.{Closed, InputPairs, Output, OutputPairs, Pairs}
use Rattle.hsdec_core.specs.declared.tasks.MachineTask.{MachineTask}
use Rattle.hsdec_core.specs.declared.tasks.MachineTask.TheVariants.{Listing, OfFile, OfWork}
use Rattle.hsdec_core.specs.declared.tasks.Task.{Task}
use Rattle.hsdec_core.specs.declared.tasks.Task.TheVariants.{Gen, OnMachine, Sim, Trial, Walk}
use Rattle.hsdec_core.specs.declared.tasks.WorkTask.{WorkTask}
use Rattle.hsdec_core.specs.declared.tasks.WorkTask.TheVariants.{Compare, Decompose, Definite, Part, Shift}
use Rattle.hsdec_core.specs.Clocks.{HasCoverLatches, HasRegisterLatches, HasSplitLatches, TakesClock}
use Rattle.operands.specs.Causes.{Never, NoMachineOf, NoNetworkOf, OfMachine, OfNetwork}
use Rattle.operands.specs.Fill.{fill_of}
use Rattle.operands.specs.OperandText.{Lengthy}
use Rattle.hsdec_core.specs.SplitOperands.{split_kind, which_of}
use Rattle.hsdec_core.specs.Task.{task_of}
use Rattle.job_words.specs.declared.jobs.Job.{Job}
use Rattle.kiss_file.specs.declared.file.KissFile.{KissFile}
use Rattle.machine_reports.specs.Causes.{MoreThan, NotDefiniteRow, RefusesInputPairs, RefusesOutputPairs}
use Rattle.mm_lattice.specs.MmPairs.{IsMmPair}
use Rattle.partition.specs.Sides.{RightBefore}
use Rattle.output_consistent.specs.Outputs.{IsClosedAndConsistent}
use Rattle.operands.specs.PartFaults.{BadPart}
use Rattle.part_texts.specs.PartCauses.{HasNoPart}
use Rattle.partition.specs.Order.{Before}
use Rattle.shift_texts.specs.Causes.{RefusesShift}
use Rattle.split_texts.specs.Causes.{IsNotWritten}
use Rattle.symbol_runs.specs.Causes.{BadSymbolRow, NoStart}

-- the causes of a list, by what is listed
abbrev pub list_cause : ListTask → ℕ → KissFile → Cause
list_cause Closed limit F = MoreThan Before (IsClosedPartition F) limit
list_cause Output limit F = MoreThan Before (IsClosedAndConsistent F) limit
list_cause Pairs limit F = MoreThan RightBefore (IsMmPair F) limit
list_cause InputPairs limit F = RefusesInputPairs F limit
list_cause OutputPairs limit F = RefusesOutputPairs F limit

-- the causes of a text on the machine of FILE itself; a command that prints a result for every machine has none
abbrev pub file_cause : FileTask → Job → KissFile → Cause
file_cause Check job F = Never
file_cause Reduce job F = Never
file_cause Low job F = BadPart (length F.states) job.second
file_cause High job F = BadPart (length F.states) job.second
file_cause Cover job F = FirstOf (BadCoverRow F job.second ∷ TakesClock job (HasCoverLatches job.second) F ∷ [])

-- the causes of a text on the machine that the job works on
abbrev pub work_cause : WorkTask → Job → KissFile → Cause
work_cause Definite job F = NotDefiniteRow job.reduce F
work_cause Compare job F = Never
work_cause Shift job F = FirstOf (RefusesShift job.reduce F ∷ TakesClock job (HasRegisterLatches job.reduce) F ∷ [])
work_cause Part job F = HasNoPart (split_kind job.second) job.second (which_of job.part) job.reduce F
work_cause (Decompose kind) job F =
    FirstOf (IsNotWritten kind job.second job.reduce F ∷ TakesClock job (HasSplitLatches kind job.second job.reduce) F ∷ [])

-- a command's own causes, by what it does with the machine of FILE
abbrev pub own_cause : MachineTask → Job → KissFile → Cause
own_cause (Listing listed) job F = list_cause listed job.limit F
own_cause (OfFile task) job F = file_cause task job F
own_cause (OfWork task) job F = work_cause task job F

-- ---- before any symbol is loaded
abbrev pub first_cause_of : Task → Job → List ℕ → Cause
first_cause_of (OnMachine task) job bytes =
    FirstOf (NoMachineOf job.file (fill_of job) bytes ∷ OfMachine (fill_of job) bytes (own_cause task job) ∷ [])
first_cause_of Walk job bytes = NoMachineOf job.file (fill_of job) bytes
first_cause_of Sim job bytes = FirstOf (NoNetworkOf job.file bytes ∷ OfNetwork bytes (λ N. NoStart N job.start) ∷ [])
first_cause_of Gen job bytes = Never
first_cause_of Trial job bytes = LongCodeRow job.seed job.a job.b job.k

abbrev pub first_cause : Job → List ℕ → Cause
first_cause job bytes = first_cause_of (task_of job.command) job bytes

-- ---- by the symbols
-- the operand is too long, or one of its lines is not a symbol of `width` bits
abbrev pub BadSymbols : List ℕ → ℕ → List ℕ → Cause
BadSymbols name width symbols = FirstOf (Lengthy name symbols ∷ BadSymbolRow width symbols ∷ [])

abbrev pub second_cause_of : Task → Job → List ℕ → List ℕ → Cause
second_cause_of Walk job bytes symbols = OfMachine (fill_of job) bytes (λ F. BadSymbols job.second F.inputs symbols)
second_cause_of Sim job bytes symbols = OfNetwork bytes (λ N. BadSymbols job.second (length N.inputs) symbols)
second_cause_of _ job bytes symbols = Never

abbrev pub second_cause : Job → List ℕ → List ℕ → Cause
second_cause job bytes symbols = second_cause_of (task_of job.command) job bytes symbols

-- ---- whole
abbrev pub all_causes : Job → List ℕ → List ℕ → Cause
all_causes job bytes symbols = FirstOf (first_cause job bytes ∷ second_cause job bytes symbols ∷ [])
