-- What a word does to a job as an operand. Only private functions cite this.
use Rattle.std.specs.Prelude.{◌≡◌, ⊤, ℕ, true, false, List, Result, Ok, Err}
use Rattle.job_words.specs.declared.draft.Refusal.{Refusal}
use Rattle.job_words.specs.declared.draft.Refusal.TheVariants.{Word, Taken, NoMemory}
use Rattle.job_words.specs.declared.jobs.Job.{Job}
use Rattle.job_words.specs.declared.table.OperandKind.{OperandKind}
use Rattle.job_words.specs.Job.{fits_kind, with_operand}

-- the word is put into the job as that operand, or it does not fit
abbrev pub IsPut : {V : Type 0} → OperandKind → List ℕ → (old new : Job) → Result V Refusal → Type 0
IsPut operand word old new (Ok _) = (new ≡ with_operand operand word old) × (fits_kind operand old word ≡ true)
IsPut operand word old new (Err Word) = fits_kind operand old word ≡ false
IsPut operand word old new (Err Taken) = ⊥
IsPut operand word old new (Err NoMemory) = ⊤
