-- Words of symbols, and the states after them (source: Hartmanis and Stearns, the machine of Mealy).
use Rattle.std.specs.Prelude.{◌≡◌, ℕ, All, Bool, List, [], ◌∷◌, length}
use Rattle.kiss_file.specs.declared.file.KissFile.{KissFile}
use Rattle.kiss_file.specs.Machine.{next}

-- k symbols of the machine
pub record IsWord (F : KissFile) (k : ℕ) (word : List (List Bool)) : Type 0 where
  pub count : length word ≡ k
  pub symbols : All (λ x. length x ≡ F.inputs) word

-- the state after a word from the state s
abbrev pub next_along : KissFile → ℕ → List (List Bool) → ℕ
next_along F s [] = s
next_along F s (x ∷ word) = next_along F (next F s x) word

-- every word of k symbols brings the two states to one state
abbrev pub MeetAfter : KissFile → ℕ → ℕ → ℕ → Type 0
MeetAfter F k s t = (word : List (List Bool)) → IsWord F k word → next_along F s word ≡ next_along F t word
