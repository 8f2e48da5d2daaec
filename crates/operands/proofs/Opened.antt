-- What comes of the operands FILE and NET.
use Rattle.std.proofs.Common.{◌⊎◌, ℕ, List, Option, Result, Ok, Err, inl, inr, refl, sym, ◌∙◌, subst}
use Rattle.answers.specs.declared.refusals.Refusal.{Refusal}
use Rattle.answers.specs.declared.refusals.Refusal.TheVariants.{Conflict}
use Rattle.blif_in.specs.declared.reader.OrderedNetwork.{OrderedNetwork}
use Rattle.operands.specs.declared.opened_operands.OpenedMachine.{OpenedMachine}
use Rattle.operands.specs.Causes.{Conflicts, LeavesOpen, NoMachineOf, OfFile, SaysNoMachine}
use Rattle.operands.specs.Fill.{fill_of}
use Rattle.operands.specs.Inner.TextRefusal.{IsBuiltOf, IsEntryRefusal, IsReadAs, IsReadOf}
use Rattle.operands.specs.OpenedOperands.{IsNetOpened, IsOpened}
use Rattle.operands.specs.OperandText.{IsShortText, IsText}
use Rattle.operands.specs.Laws.Causes.{no_conflict, no_fault, not_long}
use Rattle.job_words.specs.declared.jobs.Job.{Job}
use Rattle.kiss_file.specs.declared.fill.Fill.{Fill}
use Rattle.kiss_file.specs.declared.file.KissFile.{KissFile}
use Rattle.kiss2.specs.Kiss.{Kiss}
use Rattle.kiss_file.specs.LawfulFile.{IsLawful}
use Rattle.kiss_file.specs.Machine.{Accepted}
use Rattle.machine_table.specs.declared.open_part.Missing.{Missing}
use Rattle.machine_table.specs.Cause.{IsRefusedAt}
use Rattle.machine_table.specs.Conflict.{IsFirstConflict}
use Rattle.machine_table.specs.OpenEntries.{IsFirstOpen}

-- ---- a machine that could not be built
pub built_conflict : (F : KissFile) (row other : ℕ) → IsFirstConflict F row other → Conflicts F (Conflict row other)
built_conflict F row other first = (row, other, refl, first)

pub built_open : (F : KissFile) (fill : Fill) (s x : ℕ) (part : Missing) (refusal : Refusal) → IsRefusedAt F fill (IsFirstOpen F s x part) → IsEntryRefusal F s x part refusal → LeavesOpen fill F refusal
built_open F fill s x part refusal cause (name, is, named) =
    (s, x, part, name, is, record { no_conflict = cause.no_conflict; refused = cause.refused; entry = cause.entry; named = named })

-- ---- from a record to the bytes, and to the operand
pub read_of_built : (bytes : List ℕ) (fill : Fill) (F : KissFile) (result : Result OpenedMachine Refusal) → Kiss bytes F → IsLawful F → IsBuiltOf fill F result → IsReadOf fill bytes result
read_of_built bytes fill F (Ok opened) kiss lawful (file_is, machine_is, accepted) =
    (subst (Kiss bytes) (sym file_is) kiss, subst IsLawful (sym file_is) lawful, subst (λ (G : KissFile). Accepted G fill) (sym file_is) accepted, machine_is ∙ sym file_is)
read_of_built bytes fill F (Err refusal) kiss lawful (inl wanting) = inl wanting
read_of_built bytes fill F (Err refusal) kiss lawful (inr (inl conflict)) = inr (inr (inl (F, kiss, conflict)))
read_of_built bytes fill F (Err refusal) kiss lawful (inr (inr leaves)) = inr (inr (inr (F, kiss, leaves)))

called_of_read : (name bytes : List ℕ) (fill : Fill) (refusal : Refusal) → IsShortText bytes → SaysNoMachine bytes refusal ⊎ OfFile bytes Conflicts refusal ⊎ OfFile bytes (LeavesOpen fill) refusal → NoMachineOf name fill bytes refusal
called_of_read name bytes fill refusal within (inl says) = inr (not_long name bytes within, inl says)
called_of_read name bytes fill refusal within (inr (inl (F, kiss, conflicts))) =
    inr (not_long name bytes within, inr (no_fault bytes F kiss, inl (F, kiss, conflicts)))
called_of_read name bytes fill refusal within (inr (inr (F, kiss, (s, x, part, name_of, is, at)))) =
    inr (not_long name bytes within, inr (no_fault bytes F kiss, inr (no_conflict bytes F kiss at.no_conflict, inl (F, kiss, (s, x, part, name_of, is, at)))))

pub opened_of_read : (job : Job) (holds : List ℕ → Option (List ℕ)) (Faulted : Type 0) (bytes : List ℕ) (result : Result OpenedMachine Refusal) → IsText (holds job.file) bytes → IsReadOf (fill_of job) bytes result → IsOpened job holds Faulted result
opened_of_read job holds Faulted bytes (Ok opened) is_text (kiss, lawful, accepted, machine_is) =
    ((bytes, record { text = is_text; kiss = kiss; lawful = lawful; accepted = accepted }), machine_is)
opened_of_read job holds Faulted bytes (Err refusal) is_text (inl wanting) = inl wanting
opened_of_read job holds Faulted bytes (Err refusal) is_text (inr h) = inr (inr (bytes, is_text.1, called_of_read job.file bytes (fill_of job) refusal is_text.0 h))

pub net_opened_of_read : (job : Job) (holds : List ℕ → Option (List ℕ)) (Faulted : Type 0) (bytes : List ℕ) (result : Result OrderedNetwork Refusal) → IsText (holds job.file) bytes → IsReadAs bytes result → IsNetOpened job holds Faulted result
net_opened_of_read job holds Faulted bytes (Ok opened) is_text (blif, ordered) = ((bytes, (is_text, blif)), ordered)
net_opened_of_read job holds Faulted bytes (Err refusal) is_text (inl wanting) = inl wanting
net_opened_of_read job holds Faulted bytes (Err refusal) is_text (inr h) = inr (inr (bytes, is_text.1, inr (not_long job.file bytes is_text.0, inl h)))
