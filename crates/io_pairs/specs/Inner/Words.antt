-- Lists of outputs as they are gathered, and the numbers of the outputs of a state.
use Rattle.std.specs.Prelude.{◌≡◌, ◌≢◌, ℕ, ◌<◌, ◌≤◌, ◌^◌, ◌==◌, ◌++◌, List, [], ◌∷◌, Bool, false, ◌||◌, if◌then◌else◌, length, slice_index}
use Rattle.kiss_file.specs.declared.file.KissFile.{KissFile}
use Rattle.io_pairs.specs.Outputs.{occurring, output_number}

-- place is where the word comes first, or the length of the list if the word is not in it
pub record IsPlaceOf (outs : List ℕ) (word place : ℕ) : Type 0 where
  pub within : place ≤ length outs
  pub before : (k : ℕ) → k < place → slice_index outs k ≢ word
  pub found : place < length outs → slice_index outs place ≡ word

-- whether the word is in the list
abbrev pub has_word : List ℕ → ℕ → Bool
has_word [] word = false
has_word (x ∷ xs) word = (x == word) || has_word xs word

-- the list with the word at its end, unless the list already has it
abbrev pub with_word : List ℕ → ℕ → List ℕ
with_word outs word = if has_word outs word then outs else outs ++ word ∷ []

-- the list after all of the words are added, one after another
abbrev pub with_words : List ℕ → List ℕ → List ℕ
with_words outs [] = outs
with_words outs (word ∷ words) = with_words (with_word outs word) words

-- for each symbol the number of the state's output
pub record AreNumbersOf (F : KissFile) (s : ℕ) (list : List ℕ) : Type 0 where
  pub count : length list ≡ 2 ^ F.inputs
  pub numbers : (x : ℕ) → x < 2 ^ F.inputs → slice_index list x ≡ output_number F s x
  pub below : (x : ℕ) → x < 2 ^ F.inputs → slice_index list x < length (occurring F)
