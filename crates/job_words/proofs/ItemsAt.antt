-- The items of the words from a place on.
use Rattle.std.proofs.Common.{◌≡◌, ℕ, ◌+◌, Bool, true, false, List, [], ◌∷◌, length, drop, ◌≤◌, if◌then◌else◌, Some, None, codes, nat_eq, refl, sym, ap, ◌∙◌, add-one, arith}
use Rattle.std.specs.List.{slice_get, starts_with}
use Rattle.std.proofs.lemmas.Option.{slice_get_within, get_or_from_slice_get}
use Rattle.std.proofs.Math.Seq.{drop-cons}
use Rattle.std.proofs.Math.ListN.{drop_of_length-le}
use Rattle.job_words.specs.declared.table.CommandOption.{CommandOption}
use Rattle.job_words.specs.Item.{Chosen, Lacking, Operand, Unknown, alone, begins_option, items_of, named_alone, option_named, option_takes, takes_word}

-- the words from a place on begin with the word there
pub drop_at : (words : List (List ℕ)) (i : ℕ) (word : List ℕ) → slice_get words i ≡ Some word → drop i words ≡ word ∷ drop (i + 1) words
drop_at words i word e =
    drop-cons words i word (slice_get_within words i word e)
    ∙ rw (get_or_from_slice_get words i word word e) (rw add-one refl)

items_alone : (word : List ℕ) (rest : List (List ℕ)) → option_takes (option_named word) ≡ false → items_of (word ∷ rest) ≡ alone word ∷ items_of rest
items_alone word [] e = refl
items_alone word (next ∷ words) e = rw e refl

-- a word that takes no other
items_at : (words : List (List ℕ)) (i : ℕ) (word : List ℕ) → slice_get words i ≡ Some word → option_takes (option_named word) ≡ false → items_of (drop i words) ≡ alone word ∷ items_of (drop (i + 1) words)
items_at words i word e f = rw (drop_at words i word e) (items_alone word (drop (i + 1) words) f)

-- a word that names no option
pub items_unnamed : (words : List (List ℕ)) (i : ℕ) (word : List ℕ) (begins : Bool) → slice_get words i ≡ Some word → option_named word ≡ None → begins_option word ≡ begins
    → items_of (drop i words) ≡ (if begins then Unknown else Operand word) ∷ items_of (drop (i + 1) words)
items_unnamed words i word begins e named f =
    items_at words i word e (ap option_takes named)
    ∙ ap (λ item. item ∷ items_of (drop (i + 1) words)) (ap (λ option. named_alone option word) named ∙ ap (λ b. if b then Unknown else Operand word) f)

-- an option that takes no word
pub items_bare : (words : List (List ℕ)) (i : ℕ) (word : List ℕ) (option : CommandOption) → slice_get words i ≡ Some word → option_named word ≡ Some option → takes_word option ≡ false
    → items_of (drop i words) ≡ Chosen option [] ∷ items_of (drop (i + (if takes_word option then 2 else 1)) words)
items_bare words i word option e named f =
    rw f
    (items_at words i word e (ap option_takes named ∙ f)
    ∙ ap (λ item. item ∷ items_of (drop (i + 1) words)) (ap (λ o. named_alone o word) named ∙ ap (λ b. if b then Lacking option else Chosen option []) f))

-- an option at the end that lacks its word
pub items_lacking : (words : List (List ℕ)) (i : ℕ) (word : List ℕ) (option : CommandOption) → slice_get words i ≡ Some word → length words ≤ i + 1 → option_named word ≡ Some option → takes_word option ≡ true
    → items_of (drop i words) ≡ Lacking option ∷ items_of (drop (i + 1) words)
items_lacking words i word option e last named takes =
    rw (drop_at words i word e, drop_of_length-le words {i = i + 1} last) (rw (named, takes) refl)

-- an option and the word that it takes
items_two : (word next : List ℕ) (words : List (List ℕ)) (option : CommandOption) → option_named word ≡ Some option → takes_word option ≡ true → items_of (word ∷ next ∷ words) ≡ Chosen option next ∷ items_of words
items_two word next words option named takes = rw (named, takes) refl

pub items_chosen : (words : List (List ℕ)) (i : ℕ) (word next : List ℕ) (option : CommandOption) → slice_get words i ≡ Some word → slice_get words (i + 1) ≡ Some next → option_named word ≡ Some option → takes_word option ≡ true
    → items_of (drop i words) ≡ Chosen option next ∷ items_of (drop (i + (if takes_word option then 2 else 1)) words)
items_chosen words i word next option e f named takes =
    let two : i + 1 + 1 ≡ i + 2 = omega arith in
    ap items_of (drop_at words i word e ∙ ap (λ rest. word ∷ rest) (drop_at words (i + 1) next f ∙ ap (λ n. next ∷ drop n words) two))
    ∙ (items_two word next (drop (i + 2) words) option named takes
    ∙ ap (λ b. Chosen option next ∷ items_of (drop (i + (if b then 2 else 1)) words)) (sym takes))

-- whether a word begins as an option, from a test with the two dashes
pub begins : (word dashes : List ℕ) (result answer : Bool) → dashes ≡ codes "--" → result ≡ starts_with nat_eq word dashes → result ≡ answer → begins_option word ≡ answer
begins word dashes result answer e f g = ap (starts_with nat_eq word) (sym e) ∙ (sym f ∙ g)
