-- What a command loads, and what is known and granted of it by a shelf.
use Rattle.std.specs.Prelude.{ℕ, ⊤, Bool, true, false, List, [], Option, Some, IfOk, IfSome}
use Rattle.hsdec_core.specs.declared.tasks.Task.{Task}
use Rattle.hsdec_core.specs.declared.tasks.Task.TheVariants.{Gen, Sim, Trial, Walk}
use Rattle.hsdec_core.specs.Task.{task_of}
use Rattle.job_words.specs.declared.jobs.Job.{Job}
use Rattle.job_words.specs.Job.{JobOf}

-- whether a task loads FILE or NET; otherwise it works on numbers alone
abbrev pub takes_file : Task → Bool
takes_file Gen = false
takes_file Trial = false
takes_file _ = true

-- whether a task loads SYMBOLS
abbrev pub takes_symbols : Task → Bool
takes_symbols Walk = true
takes_symbols Sim = true
takes_symbols _ = false

-- a condition that holds for an operand only where it is loaded
abbrev pub Where : Bool → Type 0 → Type 0
Where true Asked = Asked
Where false Asked = ⊤

-- the names of the operands that a job loads are granted; nothing is asked of another name
abbrev pub AreGranted : (List ℕ → Type 0) → Job → Type 0
AreGranted grants job =
    Where (takes_file (task_of job.command)) (grants job.file) × Where (takes_symbols (task_of job.command)) (grants job.second)

-- the bytes of an operand, if they are known; an operand that is not loaded counts as known and empty
abbrev pub held_where : Bool → Option (List ℕ) → Option (List ℕ)
held_where true held = held
held_where false held = Some []

abbrev pub file_held : Job → (List ℕ → Option (List ℕ)) → Option (List ℕ)
file_held job holds = held_where (takes_file (task_of job.command)) (holds job.file)

abbrev pub symbols_held : Job → (List ℕ → Option (List ℕ)) → Option (List ℕ)
symbols_held job holds = held_where (takes_symbols (task_of job.command)) (holds job.second)

-- `P` holds of the words' job and the bytes of FILE or NET, where the words are a job and these bytes are known
abbrev pub IfTold : List (List ℕ) → (List ℕ → Option (List ℕ)) → (Job → List ℕ → Type 0) → Type 0
IfTold words holds P = IfOk (JobOf words) (λ job. IfSome (file_held job holds) (P job))

-- `P` holds of the words' job, the bytes of FILE or NET and those of SYMBOLS, where all of these are known
abbrev pub IfAllTold : List (List ℕ) → (List ℕ → Option (List ℕ)) → (Job → List ℕ → List ℕ → Type 0) → Type 0
IfAllTold words holds P = IfTold words holds (λ job bytes. IfSome (symbols_held job holds) (P job bytes))
