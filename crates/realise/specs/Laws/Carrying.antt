-- A network that carries each step of a machine answers every word as the machine does.
use Rattle.std.proofs.Common.{◌≡◌, ℕ, ◌<◌, Bool, All, List, [], ◌∷◌, length, refl}
use Rattle.std.proofs.lemmas.List.Elements.{All-head, All-tail}
use Rattle.kiss_file.specs.declared.file.KissFile.{KissFile}
use Rattle.kiss_file.specs.Machine.{answers, next, out}
use Rattle.machine_table.specs.NextStates.{NeverLeaves}
use Rattle.net_core.specs.declared.Network.{Network}
use Rattle.net_core.specs.Step.{NetAnswers}
use Rattle.realise.specs.CarriedMachine.{CarriedAnswers, Carries}
use Rattle.realise.specs.Codes.{code_of}

-- so it is from each state on, word by word
answers_from_state : (F : KissFile) (N : Network) (words : List ℕ) → NeverLeaves F → Carries F N words → (word : List (List Bool)) → All (λ x. length x ≡ F.inputs) word
    → (s : ℕ) → s < length F.states → NetAnswers N (code_of (length N.latches) words s) word (answers F s word)
answers_from_state F N words stays carries [] long s within = refl
answers_from_state F N words stays carries (x ∷ word) long s within =
    let here : length x ≡ F.inputs = All-head (λ symbol. length symbol ≡ F.inputs) x word long in (
      out F s x,
      code_of (length N.latches) words (next F s x),
      answers F (next F s x) word,
      refl,
      carries.steps s x within here,
      answers_from_state F N words stays carries word (All-tail (λ symbol. length symbol ≡ F.inputs) x word long) (next F s x) (stays s x within here),
    )

-- and so it is from the reset state
pub carried_answers : CarriedAnswers
carried_answers F N words reset stays carries = (
  code_of (length N.latches) words F.reset,
  carries.starts,
  λ word long. answers_from_state F N words stays carries word long F.reset reset,
)
