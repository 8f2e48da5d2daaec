-- A network carries a machine: step by step, its latch values are the codes of the machine's states.
use Rattle.std.specs.Prelude.{◌≡◌, ℕ, ◌<◌, Bool, All, List, length}
use Rattle.kiss_file.specs.declared.file.KissFile.{KissFile}
use Rattle.kiss_file.specs.Machine.{answers, next, out}
use Rattle.machine_table.specs.NextStates.{NeverLeaves}
use Rattle.net_core.specs.declared.Network.{Network}
use Rattle.net_core.specs.Step.{AreStarts, NetAnswers, Step}
use Rattle.realise.specs.Codes.{code_of}

-- the starts are the code of the reset state, and for each step of the machine the network has a step from code to code
pub record Carries (F : KissFile) (N : Network) (words : List ℕ) : Type 0 where
  pub inputs : length N.inputs ≡ F.inputs
  pub outputs : length N.outputs ≡ F.outputs
  pub starts : AreStarts N.latches (code_of (length N.latches) words F.reset)
  pub steps : (s : ℕ) (x : List Bool) → s < length F.states → length x ≡ F.inputs → Step N (code_of (length N.latches) words s) x (out F s x) (code_of (length N.latches) words (next F s x))

-- from its starts, the network answers every word of symbols as the machine does from its reset state
abbrev pub AnswersAs : KissFile → Network → Type 0
AnswersAs F N =
    (starts : List Bool) × AreStarts N.latches starts
    × ((word : List (List Bool)) → All (λ x. length x ≡ F.inputs) word → NetAnswers N starts word (answers F F.reset word))

-- a network that carries each step of the machine answers every word
abbrev pub CarriedAnswers : Type 0
CarriedAnswers =
    (F : KissFile) (N : Network) (words : List ℕ) → F.reset < length F.states → NeverLeaves F → Carries F N words → AnswersAs F N
