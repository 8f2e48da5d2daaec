-- What a definite machine and its register do at a symbol.
pub mod StartContent
use Rattle.std.specs.Prelude.{◌≡◌, ℕ, ◌*◌, ◌<◌, ◌++◌, Bool, List, length, take}
use Rattle.kiss_file.specs.declared.file.KissFile.{KissFile}
use Rattle.kiss_file.specs.Machine.{next}
use Rattle.machine_table.specs.NextStates.{NeverLeaves}
use Rattle.shift_real.specs.DefiniteMachine.{Definite}
use Rattle.shift_real.specs.Register.{latch_values, shifted, state_after}
use Rattle.shift_real.specs.Words.{IsWord, next_along}

-- a content determines the state, whatever the state was before it
abbrev pub ContentsTellStates : Type 0
ContentsTellStates =
    (F : KissFile) (k s : ℕ) (word : List (List Bool)) → Definite F k → F.reset < length F.states → s < length F.states → IsWord F k word → next_along F s word ≡ state_after F word

-- the next content determines the next state
abbrev pub StatesFollow : Type 0
StatesFollow =
    (F : KissFile) (k : ℕ) (word : List (List Bool)) (x : List Bool) → NeverLeaves F → Definite F k → F.reset < length F.states → IsWord F k word → length x ≡ F.inputs
    → state_after F (shifted word x) ≡ next F (state_after F word) x

-- the latches of the next content have the symbol first, and then the latches as they were, without the last ones
abbrev pub LatchesFollow : Type 0
LatchesFollow =
    (F : KissFile) (k : ℕ) (word : List (List Bool)) (x : List Bool) → IsWord F k word → length x ≡ F.inputs → latch_values (shifted word x) ≡ take (k * F.inputs) (x ++ latch_values word)
