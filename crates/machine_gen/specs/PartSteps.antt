-- What a machine of words does. Where each part of a state goes depends on that part and the symbol alone, and
-- each output depends on one part alone.
use Rattle.std.specs.Prelude.{◌≡◌, ℕ, ◌+◌, ◌*◌, ◌<◌, ◌==◌, Bool, List, [], ◌∷◌, length}
use Rattle.cubes.specs.Symbol.{number_of}
use Rattle.kiss_file.specs.declared.file.KissFile.{KissFile}
use Rattle.kiss_file.specs.Machine.{next, out}
use Rattle.machine_gen.specs.WordMachine.{AreSizes, IsMachineOf, next_first, next_second}

-- what F does at the state with the parts i and j, at a symbol
pub record GoesByParts (word : ℕ → ℕ) (a b k : ℕ) (F : KissFile) (i j : ℕ) (symbol : List Bool) : Type 0 where
  pub next_state : next F (i * b + j) symbol ≡ next_first word a k i (number_of symbol) * b + next_second word b k j (number_of symbol)
  pub outputs : out F (i * b + j) symbol ≡ (i == 0) ∷ (j == 0) ∷ []

-- each machine of words does so, at all of its states and symbols
abbrev pub GoByParts : Type 0
GoByParts = (word : ℕ → ℕ) (a b k : ℕ) (F : KissFile) → AreSizes a b k → IsMachineOf word a b k F
    → (i j : ℕ) (symbol : List Bool) → i < a → j < b → length symbol ≡ k → GoesByParts word a b k F i j symbol
