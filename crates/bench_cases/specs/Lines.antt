-- The lines that say cases.
use Rattle.std.specs.Prelude.{◌≡◌, ℕ, ◌<◌, ◌^◌, ◌==◌, List, ◌∷◌}
use Rattle.std.specs.List.{slice_split}
use Rattle.std.specs.Str.Parse.{IsNumeral, digits_value, without_leading_plus}

-- the words of a line: one space ends a word and begins the next one
abbrev pub words_of : List ℕ → List (List ℕ)
words_of line = slice_split (λ byte. byte == 32) line

-- a word writes a number: a plus or none, and then decimal digits, at least one
pub record Writes (word : List ℕ) (number : ℕ) : Type 0 where
  pub numeral : IsNumeral 10 (without_leading_plus word)
  pub value : digits_value 10 (without_leading_plus word) ≡ number
  pub small : number < 2 ^ 64

-- the first words of a line are the subject, the kind, the size, the work and how often; more words say nothing
pub record Says (line subject kind : List ℕ) (size : ℕ) (work : List ℕ) (times : ℕ) : Type 0 where
  pub size_word : List ℕ
  pub times_word : List ℕ
  pub more : List (List ℕ)
  pub words : words_of line ≡ subject ∷ kind ∷ size_word ∷ work ∷ times_word ∷ more
  pub size_number : Writes size_word size
  pub times_number : Writes times_word times
