-- The machine that a job works on: the machine of its file, or of the classes of alike states (source:
-- Hartmanis and Stearns, the reduced machine).
use Rattle.std.specs.Prelude.{◌≡◌, ◌<◌, ℕ, Bool, true, false, List, length}
use Rattle.kiss_file.specs.declared.file.KissFile.{KissFile}
use Rattle.kiss_file.specs.LawfulFile.{IsLawful}
use Rattle.kiss_file.specs.Machine.{Conflicting, answers}
use Rattle.state_reduce.specs.AlikeStates.{IsEquivalence, IsWord}
use Rattle.state_reduce.specs.Quotient.{AreBlocksInOrder, IsQuotient, block_number}

-- W is the machine of the classes of alike states, in the order of their least states, and the class of a state is the
-- number of its block there
pub record IsMachineOfClasses (F W : KissFile) (class : ℕ → ℕ) : Type 0 where
  pub classes : List ℕ
  pub alike : IsEquivalence F classes
  pub quotient : IsQuotient F classes W
  pub in_order : AreBlocksInOrder F classes W
  pub class_of : (s : ℕ) → class s ≡ block_number F classes s

-- without `--reduce` W is the machine of the file, and each state is its own class
pub record IsFileItself (F W : KissFile) (class : ℕ → ℕ) : Type 0 where
  pub file : W ≡ F
  pub class_of : (s : ℕ) → class s ≡ s

-- the machine that a job works on, with `--reduce` and without, and the class that each state of the file has there
abbrev pub IsWorkMachine : (reduce : Bool) → KissFile → KissFile → (ℕ → ℕ) → Type 0
IsWorkMachine true F W class = IsMachineOfClasses F W class
IsWorkMachine false F W class = IsFileItself F W class

-- from the class of a state, the machine that a job works on answers every word as the file's machine does from
-- the state
abbrev pub ClassesAnswerAlike : Type 0
ClassesAnswerAlike =
    (reduce : Bool) (F W : KissFile) (class : ℕ → ℕ) → IsLawful F → (Conflicting F → ⊥) → IsWorkMachine reduce F W class
    → (s : ℕ) (word : List (List Bool)) → s < length F.states → IsWord F.inputs word → answers W (class s) word ≡ answers F s word
