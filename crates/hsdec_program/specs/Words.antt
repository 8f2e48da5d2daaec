-- The words of the arguments.
use Rattle.std.specs.Prelude.{◌≡◌, ℕ, ⊤, List, [], ◌∷◌, Option, Some, None}
use Rattle.std.specs.Str.{IsUtf8}

-- the word of an argument: the same bytes if they are text in UTF-8, and the empty word if not
pub record IsWordOf (argument word : List ℕ) : Type 0 where
  pub text : IsUtf8 argument → word ≡ argument
  pub no_text : ¬ (IsUtf8 argument) → word ≡ []

-- one word for each argument, in order
abbrev pub AreWordsOf : List (List ℕ) → List (List ℕ) → Type 0
AreWordsOf [] [] = ⊤
AreWordsOf [] (word ∷ words) = ⊥
AreWordsOf (argument ∷ arguments) [] = ⊥
AreWordsOf (argument ∷ arguments) (word ∷ words) = IsWordOf argument word × AreWordsOf arguments words

-- the words of the arguments, where these are known
abbrev pub AreTold : Option (List (List ℕ)) → List (List ℕ) → Type 0
AreTold (Some arguments) words = AreWordsOf arguments words
AreTold None words = ⊤
