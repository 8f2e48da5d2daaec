-- What a job loads calls for refusals of one answer.
use Rattle.std.proofs.Common.{ℕ, List, [], ◌∷◌, length}
use Rattle.answers.specs.declared.numbers.Answer.TheVariants as answers
use Rattle.answers.specs.Laws.Causes.{HasOneAnswer, first_has_one, one_of}
use Rattle.hsdec_core.specs.declared.tasks.Task.{Task}
use Rattle.hsdec_core.specs.declared.tasks.Task.TheVariants.{Gen, OnMachine, Sim, Trial, Walk}
use Rattle.operands.specs.Causes.{NoMachineOf, NoNetworkOf, OfMachine, OfNetwork}
use Rattle.operands.specs.Fill.{fill_of}
use Rattle.hsdec_core.specs.Judgement.{BadSymbols, all_causes, first_cause, first_cause_of, own_cause, second_cause, second_cause_of}
use Rattle.operands.specs.OperandText.{Lengthy}
use Rattle.operands.specs.Laws.Causes.{lengthy_is_of, machine_has_one, network_has_one, never_has_one, of_machine_has_one, of_network_has_one}
use Rattle.hsdec_core.specs.Task.{task_of}
use Rattle.generated_texts.specs.Laws.Trials.{long_code_one}
use Rattle.hsdec_core.proofs.Families.{own_have_one}
use Rattle.job_words.specs.declared.jobs.Job.{Job}
use Rattle.symbol_runs.specs.Causes.{BadSymbolRow, NoStart}
use Rattle.symbol_runs.specs.Laws.Causes.{bad_symbol_is_of, no_start_is_of}

-- ---- before any symbol is loaded
first_of_has_one : (task : Task) (job : Job) (bytes : List ℕ) → HasOneAnswer (first_cause_of task job bytes)
first_of_has_one (OnMachine task) job bytes =
    first_has_one (NoMachineOf job.file (fill_of job) bytes ∷ OfMachine (fill_of job) bytes (own_cause task job) ∷ [])
    (machine_has_one job.file bytes (fill_of job), (of_machine_has_one (fill_of job) bytes (own_cause task job) (λ F. own_have_one task job F), tt))
first_of_has_one Walk job bytes = machine_has_one job.file bytes (fill_of job)
first_of_has_one Sim job bytes =
    first_has_one (NoNetworkOf job.file bytes ∷ OfNetwork bytes (λ N. NoStart N job.start) ∷ [])
    (network_has_one job.file bytes, (of_network_has_one bytes (λ N. NoStart N job.start) (λ N. one_of answers.SymbolRefused (NoStart N job.start) (no_start_is_of N job.start)), tt))
first_of_has_one Gen job bytes = never_has_one
first_of_has_one Trial job bytes = long_code_one job.seed job.a job.b job.k

pub first_have_one : (job : Job) (bytes : List ℕ) → HasOneAnswer (first_cause job bytes)
first_have_one job bytes = first_of_has_one (task_of job.command) job bytes

-- ---- whole
symbols_have_one : (name : List ℕ) (width : ℕ) (symbols : List ℕ) → HasOneAnswer (BadSymbols name width symbols)
symbols_have_one name width symbols =
    first_has_one (Lengthy name symbols ∷ BadSymbolRow width symbols ∷ [])
    (one_of answers.TooLong (Lengthy name symbols) (lengthy_is_of name symbols), (one_of answers.SymbolRefused (BadSymbolRow width symbols) (bad_symbol_is_of width symbols), tt))

second_of_has_one : (task : Task) (job : Job) (bytes symbols : List ℕ) → HasOneAnswer (second_cause_of task job bytes symbols)
second_of_has_one Walk job bytes symbols =
    of_machine_has_one (fill_of job) bytes (λ F. BadSymbols job.second F.inputs symbols) (λ F. symbols_have_one job.second F.inputs symbols)
second_of_has_one Sim job bytes symbols =
    of_network_has_one bytes (λ N. BadSymbols job.second (length N.inputs) symbols) (λ N. symbols_have_one job.second (length N.inputs) symbols)
second_of_has_one _ job bytes symbols = never_has_one

pub all_have_one : (job : Job) (bytes symbols : List ℕ) → HasOneAnswer (all_causes job bytes symbols)
all_have_one job bytes symbols =
    first_has_one (first_cause job bytes ∷ second_cause job bytes symbols ∷ [])
    (first_have_one job bytes, (second_of_has_one (task_of job.command) job bytes symbols, tt))
