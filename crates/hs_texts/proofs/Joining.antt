-- Pieces one after another, as a list of them gives them and as a sum gives them.
use Rattle.std.proofs.Common.{◌≡◌, ℕ, List, [], ◌∷◌, ◌++◌, refl, sym, ap, ◌∙◌, append_assoc, append-nil}
use Rattle.std.proofs.lemmas.Grind.{flat_map-append}
use Rattle.std.proofs.lemmas.List.{flat_map_more}
use Rattle.std.specs.Fmt.{decimal}
use Rattle.std.specs.List.{flat_map}
use Rattle.hs_io.specs.Spelling.{ended, line_text, spaced}
use Rattle.hs_texts.specs.Reports.{spaced_numbers}

-- words and a text after a text
pub pair_more : (text words number rest : List ℕ) → text ++ ((words ++ number) ++ rest) ≡ text ++ words ++ number ++ rest
pair_more text words number rest =
    sym (append_assoc text (words ++ number) rest) ∙ ap (λ (t : List ℕ). t ++ rest) (sym (append_assoc text words number))

-- two pairs of words and a number, and words that end the line
pub two_pairs_and : (words number words' number' rest : List ℕ) → (words ++ number) ++ ((words' ++ number') ++ []) ++ rest ≡ words ++ number ++ words' ++ number' ++ rest
two_pairs_and words number words' number' rest =
    ap (λ (t : List ℕ). t ++ rest) (pair_more (words ++ number) words' number' [] ∙ append-nil (words ++ number ++ words' ++ number'))

pub two_pairs : (words number words' number' : List ℕ) → (words ++ number) ++ ((words' ++ number') ++ []) ++ [] ≡ words ++ number ++ words' ++ number'
two_pairs words number words' number' =
    two_pairs_and words number words' number' [] ∙ append-nil (words ++ number ++ words' ++ number')

pub three_pairs : (words number words' number' words'' number'' : List ℕ) → (words ++ number) ++ ((words' ++ number') ++ ((words'' ++ number'') ++ [])) ++ [] ≡ words ++ number ++ words' ++ number' ++ words'' ++ number''
three_pairs words number words' number' words'' number'' =
    append-nil ((words ++ number) ++ ((words' ++ number') ++ ((words'' ++ number'') ++ [])))
    ∙ pair_more (words ++ number) words' number' ((words'' ++ number'') ++ [])
    ∙ pair_more (words ++ number ++ words' ++ number') words'' number'' []
    ∙ append-nil (words ++ number ++ words' ++ number' ++ words'' ++ number'')

pub four_pieces : (a b c d : List ℕ) → a ++ (b ++ (c ++ (d ++ []))) ≡ a ++ b ++ c ++ d
four_pieces a b c d =
    ap (λ (t : List ℕ). a ++ (b ++ (c ++ t))) (append-nil d)
    ∙ ap (λ (t : List ℕ). a ++ t) (sym (append_assoc b c d))
    ∙ sym (append_assoc a (b ++ c) d)
    ∙ ap (λ (t : List ℕ). t ++ d) (sym (append_assoc a b c))

-- numbers, each after a space, one by one
pub spaced-is : (numbers : List ℕ) → spaced_numbers numbers ≡ flat_map (λ number. spaced (decimal number)) numbers
spaced-is [] = refl
spaced-is (number ∷ numbers) = ap (λ (t : List ℕ). spaced (decimal number) ++ t) (spaced-is numbers)

-- a text of lines, with one line more
pub line_more : (text new : List ℕ) (lines : List (List ℕ)) (line : List ℕ) → text ≡ flat_map ended lines → new ≡ text ++ ended line → new ≡ flat_map ended (lines ++ line ∷ [])
line_more text new lines line before pushed =
    pushed ∙ ap (λ (t : List ℕ). t ++ ended line) before ∙ flat_map_more ended [] lines line

-- ---- a line of fields
-- a label and a number after a line
pub figure_is : (line label number : List ℕ) → ((line ++ spaced label) ++ 32 ∷ []) ++ number ≡ line ++ flat_map spaced (label ∷ number ∷ [])
figure_is line label number =
    append_assoc (line ++ spaced label) (32 ∷ []) number
    ∙ append_assoc line (spaced label) (spaced number)
    ∙ ap (λ (t : List ℕ). line ++ (spaced label ++ spaced t)) (sym (append-nil number))

-- a line of fields, with a label and a number more
pub figure_more : (word text new label number : List ℕ) (fields : List (List ℕ)) → text ≡ line_text (word ∷ fields) → new ≡ text ++ flat_map spaced (label ∷ number ∷ []) → new ≡ line_text (word ∷ (fields ++ label ∷ number ∷ []))
figure_more word text new label number fields before pushed =
    pushed
    ∙ ap (λ (t : List ℕ). t ++ flat_map spaced (label ∷ number ∷ [])) before
    ∙ append_assoc word (flat_map spaced fields) (flat_map spaced (label ∷ number ∷ []))
    ∙ ap (λ (t : List ℕ). word ++ t) (sym (flat_map-append spaced fields (label ∷ number ∷ [])))
