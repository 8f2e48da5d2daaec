-- The contents of the register in ascending order of their words.
use Rattle.std.specs.Prelude.{◌≡◌, ℕ, zero, suc, ◌+◌, ◌*◌, ◌^◌, ◌<◌, if◌then◌else◌, Bool, List, Some, length, map, slice_get}
use Rattle.std.specs.List.{range_with_len}
use Rattle.cubes.specs.Symbol.{bit, symbol_of, lowest_bits}
use Rattle.kiss_file.specs.declared.file.KissFile.{KissFile}
use Rattle.kiss_file.specs.Machine.{next}
use Rattle.shift_real.specs.declared.contents.Content.{Content}
use Rattle.shift_real.specs.Register.{latch_values, state_after, word_number}
use Rattle.shift_real.specs.Words.{IsWord}

-- the bits of a symbol, the first of them at 2 ^ 0
abbrev pub turned_bits : ℕ → ℕ → ℕ
turned_bits zero x = 0
turned_bits (suc places) x = 2 * turned_bits places x + (if bit x places then 1 else 0)

-- the content that follows a content when a symbol comes in
abbrev pub content_after : KissFile → Content → ℕ → Content
content_after F content x =
    record {
      latches = content.latches * 2 ^ F.inputs + turned_bits F.inputs x;
      state = next F content.state (symbol_of F.inputs x);
    }

abbrev pub contents_after : KissFile → Content → List Content
contents_after F content = map (content_after F content) (range_with_len 0 (2 ^ F.inputs))

-- the content is that of the word
pub record IsContentOf (F : KissFile) (k : ℕ) (word : List (List Bool)) (content : Content) : Type 0 where
  pub latches : lowest_bits (k * F.inputs) content.latches ≡ latch_values word
  pub small : content.latches < 2 ^ (k * F.inputs)
  pub state : content.state ≡ state_after F word
  pub within : content.state < length F.states

-- the content of a word is at the number of the word; and a content at a place is that of a word whose number
-- is the place
abbrev pub IsAtItsNumber : KissFile → ℕ → List Content → List (List Bool) → Type 0
IsAtItsNumber F k contents word = (content : Content) × (slice_get contents (word_number word) ≡ Some content) × IsContentOf F k word content

abbrev pub IsOfSomeWord : KissFile → ℕ → ℕ → Content → Type 0
IsOfSomeWord F k at content = (word : List (List Bool)) × IsWord F k word × (word_number word ≡ at) × IsContentOf F k word content

-- the contents of all words of k symbols, each at the number of its word
pub record AreContents (F : KissFile) (k : ℕ) (contents : List Content) : Type 0 where
  pub each : (word : List (List Bool)) → IsWord F k word → IsAtItsNumber F k contents word
  pub right : (at : ℕ) (content : Content) → slice_get contents at ≡ Some content → IsOfSomeWord F k at content
