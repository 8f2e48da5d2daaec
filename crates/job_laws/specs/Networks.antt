-- Jobs that write networks: two texts of one job differ only in the rows of gates.
use Rattle.std.specs.Prelude.{◌≡◌, ℕ, List, Option, Ok}
use Rattle.blif_out.specs.declared.networks.CommentedNetwork.{CommentedNetwork}
use Rattle.cover_texts.specs.CoverText.{IsCoverNetwork}
use Rattle.generated_texts.specs.SeedMachine.{IsGenerated}
use Rattle.generated_texts.specs.Trial.{IsTrialNetwork}
use Rattle.hsdec_core.specs.Promise.{IsAsked}
use Rattle.hsdec_core.specs.Task.{task_of}
use Rattle.job_laws.specs.Jobs.{AreKnown, WritesNetwork, written_design}
use Rattle.job_words.specs.declared.jobs.Job.{Job}
use Rattle.job_words.specs.Job.{JobOf}
use Rattle.kiss_file.specs.declared.file.KissFile.{KissFile}
use Rattle.text_laws.specs.Rows.{DifferInRowsAlone, EqualButForRows}

-- ---- networks
-- two networks of one cover of one file have the same comments and differ only in the rows of gates
abbrev pub CoversDifferInRows : Type 0
CoversDifferInRows =
    (F : KissFile) (text : List ℕ) (made more : CommentedNetwork) → IsCoverNetwork F text made → IsCoverNetwork F text more
    → (made.comments ≡ more.comments) × EqualButForRows made.network more.network

-- so do two networks of one trial
abbrev pub TrialsDifferInRows : Type 0
TrialsDifferInRows =
    (seed a b k : ℕ) (F : KissFile) (made more : CommentedNetwork) → IsTrialNetwork seed a b k F made → IsTrialNetwork seed a b k F more
    → (made.comments ≡ more.comments) × EqualButForRows made.network more.network

-- ---- texts
-- the words and what the shelf holds determine the text but for the rows of gates, for each command that writes a
-- network
abbrev pub JobsDifferInRows : Type 0
JobsDifferInRows =
    (words : List (List ℕ)) (job : Job) (holds : List ℕ → Option (List ℕ)) (text other : List ℕ)
    → JobOf words ≡ Ok job → AreKnown job holds → WritesNetwork (task_of job.command)
    → IsAsked job holds text → IsAsked job holds other
    → (comments : List ℕ) × DifferInRowsAlone (written_design (task_of job.command) job) comments text other
