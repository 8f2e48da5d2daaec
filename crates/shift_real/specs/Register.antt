-- The register of a definite machine, which keeps the last symbols (source: Perles, Rabin and Shamir, the theory of
-- definite automata). A content is a word of as many symbols as the order, oldest first.
use Rattle.std.specs.Prelude.{◌≡◌, ◌≢◌, ℕ, ◌*◌, ◌≤◌, ◌++◌, Bool, List, [], ◌∷◌}
use Rattle.cubes.specs.Symbol.{number_of}
use Rattle.kiss_file.specs.declared.file.KissFile.{KissFile}
use Rattle.shift_real.specs.DefiniteMachine.{IsOrder}
use Rattle.shift_real.specs.Words.{IsWord, next_along}

-- a machine with an order, whose register has few bits
pub record HasShortOrder (F : KissFile) (k : ℕ) : Type 0 where
  pub order : IsOrder F k
  pub short : k * F.inputs ≤ 12

-- the state after a word from the reset state; after as many symbols as the order, it is the same from each
-- state
abbrev pub state_after : KissFile → List (List Bool) → ℕ
state_after F word = next_along F F.reset word

-- the bits of a word, oldest symbol first
abbrev pub bits_of : List (List Bool) → List Bool
bits_of [] = []
bits_of (x ∷ word) = x ++ bits_of word

-- a word read as one binary number
abbrev pub word_number : List (List Bool) → ℕ
word_number word = number_of (bits_of word)

-- the values of the latches: those of the newest symbol come first, and those of the oldest last
abbrev pub latch_values : List (List Bool) → List Bool
latch_values [] = []
latch_values (x ∷ word) = latch_values word ++ x

-- what a content becomes where x comes in and the oldest symbol leaves; a register of no symbols does not
-- change
abbrev pub shifted : List (List Bool) → List Bool → List (List Bool)
shifted [] x = []
shifted (oldest ∷ word) x = word ++ x ∷ []

-- the least content after which the machine is in the reset state
pub record IsStartContent (F : KissFile) (k : ℕ) (word : List (List Bool)) : Type 0 where
  pub content : IsWord F k word
  pub reset : state_after F word ≡ F.reset
  pub least : (other : List (List Bool)) → IsWord F k other → state_after F other ≡ F.reset → word_number word ≤ word_number other

-- no content leads to the reset state
abbrev pub IsNotReached : KissFile → ℕ → Type 0
IsNotReached F k = (word : List (List Bool)) → IsWord F k word → state_after F word ≢ F.reset
