-- The answers of a command's own causes.
use Rattle.std.proofs.Common.{◌≢◌, ℕ, Bool, List, [], ◌∷◌, inl, inr, length, sym, subst}
use Rattle.answers.specs.declared.numbers.Answer.{Answer}
use Rattle.answers.specs.declared.numbers.Answer.TheVariants as answers
use Rattle.answers.specs.declared.refusals.Refusal.{Refusal}
use Rattle.answers.specs.Cause.{Cause, FirstOf}
use Rattle.answers.specs.Laws.Causes.{HasOneAnswer, IsOf, first_has_one, one_of}
use Rattle.answers.specs.Refusal.{answer_of}
use Rattle.closed_lattice.specs.ClosedPartitions.{IsClosedPartition}
use Rattle.cover_texts.specs.Flaws.{BadCoverRow}
use Rattle.cover_texts.specs.Laws.Causes.{bad_cover_is_of, bad_cover_one}
use Rattle.hsdec_core.specs.declared.tasks.FileTask.{FileTask}
use Rattle.hsdec_core.specs.declared.tasks.FileTask.TheVariants.{Check, Cover, High, Low, Reduce}
use Rattle.hsdec_core.specs.declared.tasks.ListTask.{ListTask}
use Rattle.hsdec_core.specs.declared.tasks.ListTask.TheVariants.{Closed, InputPairs, Output, OutputPairs, Pairs}
use Rattle.hsdec_core.specs.declared.tasks.MachineTask.{MachineTask}
use Rattle.hsdec_core.specs.declared.tasks.MachineTask.TheVariants.{Listing, OfFile, OfWork}
use Rattle.hsdec_core.specs.declared.tasks.WorkTask.{WorkTask}
use Rattle.hsdec_core.specs.declared.tasks.WorkTask.TheVariants.{Compare, Decompose, Definite, Part, Shift}
use Rattle.operands.specs.Laws.Causes.{never_has_one}
use Rattle.hsdec_core.specs.Clocks.{HasCoverLatches, HasRegisterLatches, HasSplitLatches, TakesClock}
use Rattle.hsdec_core.specs.Inner.JobOutcome.{IsPlain}
use Rattle.hsdec_core.specs.Judgement.{file_cause, list_cause, own_cause, work_cause}
use Rattle.hsdec_core.specs.SplitOperands.{split_kind, which_of}
use Rattle.hsdec_core.proofs.Clocks.{takes_clock_is_of}
use Rattle.io_pairs.specs.Inputs.{IsInMmPair}
use Rattle.io_pairs.specs.Outputs.{IsOutMmPair}
use Rattle.job_words.specs.declared.jobs.Job.{Job}
use Rattle.kiss_file.specs.declared.file.KissFile.{KissFile}
use Rattle.machine_reports.specs.Laws.Causes.{definite_has_one_answer, input_pairs_have_one_answer, list_has_one_answer, more_than_is_of, not_definite_is_of, output_pairs_have_one_answer, too_many_inputs_is_of, too_many_outputs_is_of}
use Rattle.mm_lattice.specs.MmPairs.{IsMmPair}
use Rattle.partition.specs.Sides.{RightBefore}
use Rattle.output_consistent.specs.Outputs.{IsClosedAndConsistent}
use Rattle.operands.specs.PartFaults.{BadPart}
use Rattle.operands.specs.Laws.Parts.{bad_part_is_of, bad_parts_is_of}
use Rattle.part_texts.specs.PartCauses.{HasNoPart}
use Rattle.part_texts.specs.Laws.Causes.{lacks_bits_is_of, lacks_part_is_of, long_name_is_of, many_inputs_is_of, part_has_one_answer}
use Rattle.partition.specs.Order.{Before}
use Rattle.shift_texts.specs.Causes.{RefusesShift}
use Rattle.shift_texts.specs.Laws.Causes.{has_long_register_is_of, keeps_apart_is_of, never_in_reset_is_of, shift_has_one_answer}
use Rattle.split_texts.specs.Splits.{Refuses}
use Rattle.split_texts.specs.Laws.Plans.{lacks_split_is_of}
use Rattle.split_texts.specs.Laws.Least.{other_count_is_of}
use Rattle.split_texts.specs.Causes.{HasLongCode, IsNotWritten, LeavesTogether}
use Rattle.split_texts.specs.Laws.Causes.{has_long_code_is_of, leaves_together_is_of, not_written_one, of_parts_is_of}
use Rattle.state_codes.specs.declared.split.Kind.{Kind}
use Rattle.state_codes.specs.declared.split.Kind.TheVariants as kinds
use Rattle.state_codes.specs.declared.which.Which.{Which}

list_have_one : (listed : ListTask) (limit : ℕ) (F : KissFile) → HasOneAnswer (list_cause listed limit F)
list_have_one Closed limit F = list_has_one_answer Before (IsClosedPartition F) limit
list_have_one Output limit F = list_has_one_answer Before (IsClosedAndConsistent F) limit
list_have_one Pairs limit F = list_has_one_answer RightBefore (IsMmPair F) limit
list_have_one InputPairs limit F = input_pairs_have_one_answer F limit
list_have_one OutputPairs limit F = output_pairs_have_one_answer F limit

-- a cause of one answer, and after it the clock
with_clock_one : (job : Job) (HasLatches : KissFile → ℕ → Type 0) (F : KissFile) (cause : Cause) → HasOneAnswer cause → HasOneAnswer (FirstOf (cause ∷ TakesClock job HasLatches F ∷ []))
with_clock_one job HasLatches F cause one =
    first_has_one (cause ∷ TakesClock job HasLatches F ∷ []) (one, (one_of answers.ClockIsSignal (TakesClock job HasLatches F) (takes_clock_is_of job HasLatches F), tt))

file_have_one : (task : FileTask) (job : Job) (F : KissFile) → HasOneAnswer (file_cause task job F)
file_have_one Check job F = never_has_one
file_have_one Reduce job F = never_has_one
file_have_one Low job F = one_of answers.PartRefused (BadPart (length F.states) job.second) (bad_part_is_of (length F.states) job.second)
file_have_one High job F = one_of answers.PartRefused (BadPart (length F.states) job.second) (bad_part_is_of (length F.states) job.second)
file_have_one Cover job F = with_clock_one job (HasCoverLatches job.second) F (BadCoverRow F job.second) (bad_cover_one F job.second)

work_have_one : (task : WorkTask) (job : Job) (F : KissFile) → HasOneAnswer (work_cause task job F)
work_have_one Definite job F = definite_has_one_answer job.reduce F
work_have_one Compare job F = never_has_one
work_have_one Shift job F = with_clock_one job (HasRegisterLatches job.reduce) F (RefusesShift job.reduce F) (shift_has_one_answer job.reduce F)
work_have_one Part job F = part_has_one_answer (split_kind job.second) job.second (which_of job.part) job.reduce F
work_have_one (Decompose kind) job F =
    with_clock_one job (HasSplitLatches kind job.second job.reduce) F (IsNotWritten kind job.second job.reduce F) (not_written_one kind job.second job.reduce F)

-- each command's own cause has one answer
pub own_have_one : (task : MachineTask) (job : Job) (F : KissFile) → HasOneAnswer (own_cause task job F)
own_have_one (Listing listed) job F = list_have_one listed job.limit F
own_have_one (OfFile task) job F = file_have_one task job F
own_have_one (OfWork task) job F = work_have_one task job F

-- ---- answers without a text
plain_as : (answer : Answer) (cause : Cause) (refusal : Refusal) → IsPlain answer → IsOf answer cause → cause refusal → IsPlain (answer_of refusal)
plain_as answer cause refusal plain is_of h = subst IsPlain (sym (is_of refusal h)) plain

-- what a kind refuses before a split is sought
refuses_plain : (kind : Kind) (text : List ℕ) (W : KissFile) (refusal : Refusal) → Refuses kind text W refusal → IsPlain (answer_of refusal)
refuses_plain kinds.Code text W refusal h = absurd h
refuses_plain kinds.Assign text W refusal h = subst IsPlain (sym (bad_parts_is_of (length W.states) text refusal h)) tt
refuses_plain kinds.Parallel text W refusal h = absurd h
refuses_plain kinds.Serial text W refusal h = absurd h
refuses_plain kinds.Cascade text W refusal h = absurd h
refuses_plain kinds.Feedback text W refusal h = absurd h
refuses_plain kinds.Least text W refusal h = subst IsPlain (sym (other_count_is_of W refusal h)) tt

pub not_written_plain : (kind : Kind) (text : List ℕ) (reduce : Bool) (F : KissFile) (refusal : Refusal) → IsNotWritten kind text reduce F refusal → IsPlain (answer_of refusal)
not_written_plain kind text reduce F refusal (W, work, inl h) = refuses_plain kind text W refusal h
not_written_plain kind text reduce F refusal (W, work, inr (_, inl h)) =
    subst IsPlain (sym (of_parts_is_of answers.PartRefused kind text W (LeavesTogether W) (leaves_together_is_of W) refusal h)) tt
not_written_plain kind text reduce F refusal (W, work, inr (_, inr (_, inl h))) = subst IsPlain (sym (lacks_split_is_of kind W refusal h)) tt
not_written_plain kind text reduce F refusal (W, work, inr (_, inr (_, inr (_, inl h)))) =
    subst IsPlain (sym (of_parts_is_of answers.CodeTooLong kind text W HasLongCode has_long_code_is_of refusal h)) tt
not_written_plain kind text reduce F refusal (W, work, inr (_, inr (_, inr (_, inr h)))) = absurd h.1

pub part_plain : (kind : Kind) (text : List ℕ) (which : Which) (reduce : Bool) (F : KissFile) (refusal : Refusal) → HasNoPart kind text which reduce F refusal → IsPlain (answer_of refusal)
part_plain kind text which reduce F refusal (inl h) = not_written_plain kind text reduce F refusal h
part_plain kind text which reduce F refusal (inr (_, inl h)) = subst IsPlain (sym (lacks_part_is_of which h.parts refusal h.calls)) tt
part_plain kind text which reduce F refusal (inr (_, inr (_, inl h))) = subst IsPlain (sym (lacks_bits_is_of which h.codes refusal h.calls)) tt
part_plain kind text which reduce F refusal (inr (_, inr (_, inr (_, inl h)))) =
    subst IsPlain (sym (many_inputs_is_of which h.codes h.sets refusal h.calls)) tt
part_plain kind text which reduce F refusal (inr (_, inr (_, inr (_, inr (_, inl h))))) =
    subst IsPlain (sym (long_name_is_of which h.codes h.sets h.names refusal h.calls)) tt
part_plain kind text which reduce F refusal (inr (_, inr (_, inr (_, inr (_, inr h))))) = absurd h.1

pub shift_plain : (reduce : Bool) (F : KissFile) (refusal : Refusal) → RefusesShift reduce F refusal → IsPlain (answer_of refusal)
shift_plain reduce F refusal (W, work, inl h) = subst IsPlain (sym (keeps_apart_is_of W refusal h)) tt
shift_plain reduce F refusal (W, work, inr (_, inl h)) = subst IsPlain (sym (has_long_register_is_of W refusal h)) tt
shift_plain reduce F refusal (W, work, inr (_, inr (_, inl h))) = subst IsPlain (sym (never_in_reset_is_of W refusal h)) tt
shift_plain reduce F refusal (W, work, inr (_, inr (_, inr h))) = absurd h.1

-- a command's own refusal is told without a text, but for evidence that there is more than the limit
list_plain : (listed : ListTask) (limit : ℕ) (F : KissFile) (refusal : Refusal) → list_cause listed limit F refusal → answer_of refusal ≢ answers.More → IsPlain (answer_of refusal)
list_plain Closed limit F refusal h few = absurd (few (more_than_is_of Before (IsClosedPartition F) limit refusal h))
list_plain Output limit F refusal h few = absurd (few (more_than_is_of Before (IsClosedAndConsistent F) limit refusal h))
list_plain Pairs limit F refusal h few = absurd (few (more_than_is_of RightBefore (IsMmPair F) limit refusal h))
list_plain InputPairs limit F refusal (inl h) few = subst IsPlain (sym (too_many_inputs_is_of F refusal h)) tt
list_plain InputPairs limit F refusal (inr (_, inl h)) few = absurd (few (more_than_is_of RightBefore (IsInMmPair F) limit refusal h))
list_plain InputPairs limit F refusal (inr (_, inr h)) few = absurd h.1
list_plain OutputPairs limit F refusal (inl h) few = subst IsPlain (sym (too_many_inputs_is_of F refusal h)) tt
list_plain OutputPairs limit F refusal (inr (_, inl h)) few = subst IsPlain (sym (too_many_outputs_is_of F refusal h)) tt
list_plain OutputPairs limit F refusal (inr (_, inr (_, inl h))) few = absurd (few (more_than_is_of RightBefore (IsOutMmPair F) limit refusal h))
list_plain OutputPairs limit F refusal (inr (_, inr (_, inr h))) few = absurd h.1

-- a clock is refused without a text, and so is what comes before it
with_clock_plain : (job : Job) (HasLatches : KissFile → ℕ → Type 0) (F : KissFile) (cause : Cause) (refusal : Refusal) → (cause refusal → IsPlain (answer_of refusal)) → FirstOf (cause ∷ TakesClock job HasLatches F ∷ []) refusal → IsPlain (answer_of refusal)
with_clock_plain job HasLatches F cause refusal plain (inl h) = plain h
with_clock_plain job HasLatches F cause refusal plain (inr (_, inl h)) = subst IsPlain (sym (takes_clock_is_of job HasLatches F refusal h)) tt
with_clock_plain job HasLatches F cause refusal plain (inr (_, inr h)) = absurd h.1

file_plain : (task : FileTask) (job : Job) (F : KissFile) (refusal : Refusal) → file_cause task job F refusal → IsPlain (answer_of refusal)
file_plain Check job F refusal h = absurd h
file_plain Reduce job F refusal h = absurd h
file_plain Low job F refusal h = subst IsPlain (sym (bad_part_is_of (length F.states) job.second refusal h)) tt
file_plain High job F refusal h = subst IsPlain (sym (bad_part_is_of (length F.states) job.second refusal h)) tt
file_plain Cover job F refusal h =
    with_clock_plain job (HasCoverLatches job.second) F (BadCoverRow F job.second) refusal (λ bad. subst IsPlain (sym (bad_cover_is_of F job.second refusal bad)) tt) h

work_plain : (task : WorkTask) (job : Job) (F : KissFile) (refusal : Refusal) → work_cause task job F refusal → IsPlain (answer_of refusal)
work_plain Definite job F refusal h = subst IsPlain (sym (not_definite_is_of job.reduce F refusal h)) tt
work_plain Compare job F refusal h = absurd h
work_plain Shift job F refusal h = with_clock_plain job (HasRegisterLatches job.reduce) F (RefusesShift job.reduce F) refusal (shift_plain job.reduce F refusal) h
work_plain Part job F refusal h = part_plain (split_kind job.second) job.second (which_of job.part) job.reduce F refusal h
work_plain (Decompose kind) job F refusal h =
    with_clock_plain job (HasSplitLatches kind job.second job.reduce) F (IsNotWritten kind job.second job.reduce F) refusal (not_written_plain kind job.second job.reduce F refusal) h

pub own_plain : (task : MachineTask) (job : Job) (F : KissFile) (refusal : Refusal) → own_cause task job F refusal → answer_of refusal ≢ answers.More → IsPlain (answer_of refusal)
own_plain (Listing listed) job F refusal h few = list_plain listed job.limit F refusal h few
own_plain (OfFile task) job F refusal h few = file_plain task job F refusal h
own_plain (OfWork task) job F refusal h few = work_plain task job F refusal h
