-- Which refusals may be answered, and what is answered where something calls for a refusal.
use Rattle.std.specs.Prelude.{◌≡◌, ◌⊎◌, ℕ, IsTrue, List, Option, Result, Ok, Err}
use Rattle.answers.specs.declared.numbers.Answer.{Answer}
use Rattle.answers.specs.declared.numbers.Answer.TheVariants as answers
use Rattle.answers.specs.declared.refusals.Refusal.{Refusal}
use Rattle.answers.specs.declared.refusals.Refusal.TheVariants.{NoMemory, Unreadable, Unwritable, Usage}
use Rattle.answers.specs.Cause.{CallsForNone, Cause}
use Rattle.answers.specs.Refusal.{answer_of}
use Rattle.hsdec_core.specs.Judgement.{all_causes, first_cause}
use Rattle.operands.specs.OperandText.{MayBe}
use Rattle.hsdec_core.specs.Operands.{file_held, symbols_held, takes_file, takes_symbols}
use Rattle.hsdec_core.specs.Task.{task_of}
use Rattle.job_words.specs.declared.jobs.Job.{Job}

-- FILE or NET cannot be read; or SYMBOLS cannot be read, and nothing that is judged before it calls for a refusal
abbrev pub IsFailedLoad : Job → (List ℕ → Option (List ℕ)) → Refusal → Type 0
IsFailedLoad job holds refusal =
    (IsTrue (takes_file (task_of job.command)) × (refusal ≡ Unreadable job.file))
    ⊎ (IsTrue (takes_symbols (task_of job.command)) × (refusal ≡ Unreadable job.second)
    × ((bytes : List ℕ) × MayBe (file_held job holds) bytes × CallsForNone (first_cause job bytes)))

-- what is loaded calls for the refusal, in the order of judgement; where the shelf's bytes are not known, some
-- bytes call for it
abbrev pub IsCalledFor : Job → (List ℕ → Option (List ℕ)) → Refusal → Type 0
IsCalledFor job holds refusal =
    (bytes symbols : List ℕ) × MayBe (file_held job holds) bytes × MayBe (symbols_held job holds) symbols × all_causes job bytes symbols refusal

-- a job is answered with the refusal before any text is put: memory ran out, a load failed, or what is loaded calls
-- for it
abbrev pub IsRefusalOfJob : Job → (List ℕ → Option (List ℕ)) → Type 0 → Refusal → Type 0
IsRefusalOfJob job holds Faulted refusal = (refusal ≡ NoMemory) ⊎ (Faulted × IsFailedLoad job holds refusal) ⊎ IsCalledFor job holds refusal

-- words are answered with the refusal: their job is, or its text could not be put; or the words are no job, and `word`
-- is the number of the first refused word
abbrev pub IsRefusalOfWords : Result Job ℕ → (List ℕ → Option (List ℕ)) → Type 0 → Type 0 → Refusal → Type 0
IsRefusalOfWords (Ok job) holds Faulted PutFaulted refusal = IsRefusalOfJob job holds Faulted refusal ⊎ ((refusal ≡ Unwritable) × PutFaulted)
IsRefusalOfWords (Err word) holds Faulted PutFaulted refusal = (refusal ≡ NoMemory) ⊎ (refusal ≡ Usage word)

-- what may be answered instead of an answer that is called for: memory may run out, a load may fail, or the put of
-- evidence may fail, as `More` is the only such answer that comes with a text
abbrev pub IsExcused : Answer → Answer → Type 0
IsExcused result answer =
    (result ≡ answers.NoMemory) ⊎ (result ≡ answers.ReadFault) ⊎ ((answer ≡ answers.More) × (result ≡ answers.WriteFault))

-- the answer is the one that the cause calls for, or an excused one
abbrev pub Comes : Answer → Cause → Type 0
Comes result cause = (refusal : Refusal) → cause refusal → (result ≡ answer_of refusal) ⊎ IsExcused result (answer_of refusal)
