-- What the operands FILE and NET hold, and the outcome of opening them.
use Rattle.std.specs.Prelude.{◌≡◌, ℕ, List, Option, Result, Ok, Err}
use Rattle.answers.specs.declared.refusals.Refusal.{Refusal}
use Rattle.blif_in.specs.declared.reader.OrderedNetwork.{OrderedNetwork}
use Rattle.job_words.specs.declared.jobs.Job.{Job}
use Rattle.kiss_file.specs.declared.fill.Fill.{Fill}
use Rattle.kiss_file.specs.declared.file.KissFile.{KissFile}
use Rattle.kiss2.specs.Kiss.{Kiss}
use Rattle.kiss_file.specs.LawfulFile.{IsLawful}
use Rattle.kiss_file.specs.Machine.{Accepted}
use Rattle.net_core.specs.declared.Network.{Network}
use Rattle.net_core.specs.Blif.{Blif}
use Rattle.net_core.specs.Order.{IsOrderOf}
use Rattle.operands.specs.declared.opened_operands.OpenedMachine.{OpenedMachine}
use Rattle.operands.specs.Causes.{NoMachineOf, NoNetworkOf}
use Rattle.operands.specs.Fill.{fill_of}
use Rattle.operands.specs.Load.{IsStopAt}
use Rattle.operands.specs.OperandText.{IsText}

-- the bytes that a shelf holds denote a lawful machine that is accepted with the fill
pub record HoldsMachine (held : Option (List ℕ)) (fill : Fill) (bytes : List ℕ) (F : KissFile) : Type 0 where
  pub text : IsText held bytes
  pub kiss : Kiss bytes F
  pub lawful : IsLawful F
  pub accepted : Accepted F fill

-- the bytes that a shelf holds denote a network
abbrev pub HoldsNetwork : Option (List ℕ) → List ℕ → Network → Type 0
HoldsNetwork held bytes N = IsText held bytes × Blif bytes N

-- the machine of the operand FILE, or why there is none
abbrev pub IsOpened : Job → (List ℕ → Option (List ℕ)) → Type 0 → Result OpenedMachine Refusal → Type 0
IsOpened job holds Faulted (Ok opened) =
    ((bytes : List ℕ) × HoldsMachine (holds job.file) (fill_of job) bytes opened.file) × (opened.machine ≡ opened.file)
IsOpened job holds Faulted (Err refusal) = IsStopAt (holds job.file) Faulted job.file (NoMachineOf job.file (fill_of job)) refusal

-- the network of the operand NET with an order of its gates, or why there is none
abbrev pub IsNetOpened : Job → (List ℕ → Option (List ℕ)) → Type 0 → Result OrderedNetwork Refusal → Type 0
IsNetOpened job holds Faulted (Ok opened) =
    ((bytes : List ℕ) × HoldsNetwork (holds job.file) bytes opened.net) × IsOrderOf opened.net opened.order
IsNetOpened job holds Faulted (Err refusal) = IsStopAt (holds job.file) Faulted job.file (NoNetworkOf job.file) refusal
