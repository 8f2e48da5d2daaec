-- The states after all contents of the register, each at the number of its latches, and the classes of these states.
use Rattle.std.specs.Prelude.{◌≡◌, ℕ, zero, suc, ◌*◌, ◌^◌, ◌<◌, ◌≤◌, All, Bool, List, [], ◌∷◌, length, slice_index, take, drop}
use Rattle.cubes.specs.Symbol.{lowest_bits}
use Rattle.kiss_file.specs.declared.file.KissFile.{KissFile}
use Rattle.machine_table.specs.Pairs.{AgreeInBit, AtEachSymbol}
use Rattle.shift_real.specs.Register.{state_after}

-- the word of k symbols whose latch values are these bits
abbrev pub word_of : ℕ → ℕ → List Bool → List (List Bool)
word_of zero inputs bits = []
word_of (suc k) inputs bits = drop (k * inputs) bits ∷ word_of k inputs (take (k * inputs) bits)

-- the content with the given number, latch i at 2 ^ i
abbrev pub content_of : KissFile → ℕ → ℕ → List (List Bool)
content_of F k number = word_of k F.inputs (lowest_bits (k * F.inputs) number)

abbrev pub state_at : KissFile → ℕ → ℕ → ℕ
state_at F k number = state_after F (content_of F k number)

-- the states after all contents
pub record IsStateTable (F : KissFile) (k : ℕ) (table : List ℕ) : Type 0 where
  pub size : length table ≡ 2 ^ (k * F.inputs)
  pub each : (number : ℕ) → number < 2 ^ (k * F.inputs) → slice_index table number ≡ state_at F k number
  pub within : All (λ s. s < length F.states) table

-- two states give the same bit of an output at each symbol
abbrev pub AreAlike : KissFile → ℕ → ℕ → ℕ → Type 0
AreAlike F b s t = AtEachSymbol F.inputs (AgreeInBit b F s t)

-- the first state that is alike to s
pub record IsFirstAlike (F : KissFile) (b s first : ℕ) : Type 0 where
  pub within : first ≤ s
  pub alike : AreAlike F b first s
  pub least : (t : ℕ) → t < first → AreAlike F b t s → ⊥

-- for each state below the count, the first state that is alike to it
pub record AreFirsts (F : KissFile) (b count : ℕ) (firsts : List ℕ) : Type 0 where
  pub size : length firsts ≡ count
  pub each : (s : ℕ) → s < count → IsFirstAlike F b s (slice_index firsts s)
