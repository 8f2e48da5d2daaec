-- Alike states at one symbol.
use Rattle.std.proofs.Common.{◌≡◌, ℕ, ◌<◌, ◌^◌, Bool, List, [], ◌∷◌, length, subst}
use Rattle.std.proofs.lemmas.List.Elements.{All-cons, All-nil}
use Rattle.cubes.specs.Symbol.{number_of, symbol_of}
use Rattle.cubes.specs.Laws.Numbers.{length-symbol_of, number_below, symbol_of-number_of}
use Rattle.kiss_file.specs.declared.file.KissFile.{KissFile}
use Rattle.kiss_file.specs.Machine.{next}
use Rattle.machine_table.specs.Pairs.{AgreeAt, AtEachSymbol}
use Rattle.state_reduce.specs.AlikeStates.{Alike, IsWord}

-- the first answers are equal, and the others
first_of : (a b : List Bool) (more others : List (List Bool)) → a ∷ more ≡ b ∷ others → a ≡ b
first_of a b more others e = cc

rest_of : (a b : List Bool) (more others : List (List Bool)) → a ∷ more ≡ b ∷ others → more ≡ others
rest_of a b more others e = cc

word_more : (inputs : ℕ) (x : List Bool) (word : List (List Bool)) → length x ≡ inputs → IsWord inputs word → IsWord inputs (x ∷ word)
word_more inputs x word size is = All-cons (λ y. length y ≡ inputs) x word size is

-- alike states agree at each symbol, and go to alike states
pub alike_agree : (F : KissFile) (s t : ℕ) → Alike F s t → AtEachSymbol F.inputs (AgreeAt F s t)
alike_agree F s t alike x within =
    first_of _ _ _ _ (alike (symbol_of F.inputs x ∷ []) (word_more F.inputs _ [] (length-symbol_of F.inputs x) (All-nil (λ y. length y ≡ F.inputs))))

pub alike_next : (F : KissFile) (s t x : ℕ) → Alike F s t → Alike F (next F s (symbol_of F.inputs x)) (next F t (symbol_of F.inputs x))
alike_next F s t x alike word is =
    rest_of _ _ _ _ (alike (symbol_of F.inputs x ∷ word) (word_more F.inputs _ word (length-symbol_of F.inputs x) is))

-- the number of a symbol, and the symbol again
pub at_symbol : (F : KissFile) (P : List Bool → Type 0) (x : List Bool) → length x ≡ F.inputs → ((y : ℕ) → y < 2 ^ F.inputs → P (symbol_of F.inputs y)) → P x
at_symbol F P x size each =
    let below : number_of x < 2 ^ F.inputs = subst (λ (n : ℕ). number_of x < 2 ^ n) size (number_below x) in
    let again : symbol_of F.inputs (number_of x) ≡ x = subst (λ (n : ℕ). symbol_of n (number_of x) ≡ x) size (symbol_of-number_of x) in
    subst P again (each (number_of x) below)
