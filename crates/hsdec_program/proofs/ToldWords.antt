-- The words of arguments, one after another.
use Rattle.std.proofs.Common.{◌≡◌, ℕ, ◌+◌, ◌≤◌, List, [], ◌∷◌, ◌++◌, length, take, Option, Some, None, IfSome, sym, ◌∙◌, ap, subst, inl, inr, refl, arith, zero, suc}
use Rattle.std.specs.Bool.{⊤}
use Rattle.std.specs.List.{slice_get}
use Rattle.std.proofs.lemmas.List.{take_more}
use Rattle.std.proofs.lemmas.Option.{get_or_from_slice_get, slice_get_cases, slice_get_within}
use Rattle.hsdec_program.specs.Words.{AreTold, AreWordsOf, IsWordOf}

-- the words of the first n arguments, where the arguments are told
abbrev pub AreToldBelow : Option (List (List ℕ)) → ℕ → List (List ℕ) → Type 0
AreToldBelow (Some arguments) n words = AreWordsOf (take n arguments) words
AreToldBelow None n words = ⊤

none_below : (told : Option (List (List ℕ))) → AreToldBelow told 0 []
none_below (Some arguments) = tt
none_below None = tt

pub told_none : (told : Option (List (List ℕ))) (words : List (List ℕ)) → words ≡ [] → AreToldBelow told 0 words
told_none told words is = subst (λ (w : List (List ℕ)). AreToldBelow told 0 w) (sym is) (none_below told)

words_more : (arguments words : List (List ℕ)) (argument word : List ℕ) → AreWordsOf arguments words → IsWordOf argument word → AreWordsOf (arguments ++ argument ∷ []) (words ++ word ∷ [])
words_more [] [] argument word are more = (more, tt)
words_more [] (w ∷ words) argument word are more = absurd are
words_more (a ∷ arguments) [] argument word are more = absurd are
words_more (a ∷ arguments) (w ∷ words) argument word are more = (are.0, words_more arguments words argument word are.1 more)

take_one : (arguments : List (List ℕ)) (n : ℕ) (argument : List ℕ) → slice_get arguments n ≡ Some argument → take (n + 1) arguments ≡ take n arguments ++ argument ∷ []
take_one arguments n argument is =
    take_more arguments n [] (slice_get_within arguments n argument is)
    ∙ ap (λ (x : List ℕ). take n arguments ++ x ∷ []) (get_or_from_slice_get arguments n argument [] is)

below_more : (told : Option (List (List ℕ))) (n : ℕ) (words : List (List ℕ)) (argument word : List ℕ) → AreToldBelow told n words → IfSome told (λ all. Some argument ≡ slice_get all n) → IsWordOf argument word → AreToldBelow told (n + 1) (words ++ word ∷ [])
below_more (Some arguments) n words argument word are is more =
    subst (λ (front : List (List ℕ)). AreWordsOf front (words ++ word ∷ [])) (sym (take_one arguments n argument (sym is))) (words_more (take n arguments) words argument word are more)
below_more None n words argument word are is more = tt

-- one argument more, of which the bytes are lent
pub told_more : (told : Option (List (List ℕ))) (n : ℕ) (words words' : List (List ℕ)) (argument bytes word : List ℕ) → AreToldBelow told n words → IfSome told (λ all. Some argument ≡ slice_get all n) → bytes ≡ argument → IsWordOf bytes word → words' ≡ words ++ word ∷ [] → AreToldBelow told (n + 1) words'
told_more told n words words' argument bytes word are is lent more pushed =
    subst (λ (w : List (List ℕ)). AreToldBelow told (n + 1) w) (sym pushed)
    (below_more told n words argument word are is (subst (λ (b : List ℕ). IsWordOf b word) lent more))

take_long : (xs : List (List ℕ)) (n : ℕ) → length xs ≤ n → take n xs ≡ xs
take_long [] zero h = refl
take_long [] (suc n) h = refl
take_long (x ∷ xs) zero h = absurd (omega arith)
take_long (x ∷ xs) (suc n) h = ap (λ (ys : List (List ℕ)). x ∷ ys) (take_long xs n (omega arith))

take_past : (arguments : List (List ℕ)) (n : ℕ) → None ≡ slice_get arguments n → take n arguments ≡ arguments
take_past arguments n past =
    elim (slice_get_cases arguments n).1 [
      | inl is ↦ let none : Some is.0 ≡ None = sym is.2 ∙ sym past in absurd (cc)
      | inr is ↦ take_long arguments n is.0
    ]

-- past the last argument all words are there
pub told_all : (told : Option (List (List ℕ))) (n : ℕ) (words : List (List ℕ)) → AreToldBelow told n words → IfSome told (λ all. None ≡ slice_get all n) → AreTold told words
told_all (Some arguments) n words are past = subst (λ (front : List (List ℕ)). AreWordsOf front words) (take_past arguments n past) are
told_all None n words are past = tt
