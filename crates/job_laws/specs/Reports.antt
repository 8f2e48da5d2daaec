-- Jobs of one text.
use Rattle.std.specs.Prelude.{◌≡◌, ℕ, List, Option, Ok}
use Rattle.hsdec_core.specs.Promise.{IsAsked}
use Rattle.hsdec_core.specs.Task.{task_of}
use Rattle.job_laws.specs.Jobs.{AreKnown, HasOneText}
use Rattle.job_words.specs.declared.jobs.Job.{Job}
use Rattle.job_words.specs.Job.{JobOf}

-- the words and what the shelf holds determine the text: for `check`, `reduce`, `closed`, `output`, `pairs`, `ispairs`,
-- `sopairs`, `low`, `high`, `definite`, `walk`, `sim` and `gen`, and for `part` without `--fill hold`
abbrev pub ReportsAreOne : Type 0
ReportsAreOne =
    (words : List (List ℕ)) (job : Job) (holds : List ℕ → Option (List ℕ)) (text other : List ℕ)
    → JobOf words ≡ Ok job → AreKnown job holds → HasOneText (task_of job.command) job
    → IsAsked job holds text → IsAsked job holds other → text ≡ other
