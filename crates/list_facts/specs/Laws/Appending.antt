-- A text that grows by one text after another: those of the items of a list, or of its items with their numbers.
use Rattle.std.proofs.Common.{◌≡◌, ℕ, ◌+◌, ◌<◌, ◌≤◌, List, [], ◌∷◌, ◌++◌, length, take, get_or, sym, ap, ◌∙◌, arith, append_assoc}
use Rattle.std.specs.List.{flat_map, enumerate_from, zip}
use Rattle.std.proofs.lemmas.List.{flat_map_more, take_more, take_all}
use Rattle.std.proofs.lemmas.List.FromFn.{length-enumerate_from, get_or-enumerate_from}
use Rattle.std.proofs.lemmas.Slice.Zip.{length-zip, get_or-zip}

-- one text and then another
pub text_more : (start text new first second : List ℕ) → text ≡ start ++ first → new ≡ text ++ second → new ≡ start ++ (first ++ second)
text_more start text new first second before pushed =
    pushed ∙ ap (λ (t : List ℕ). t ++ second) before ∙ append_assoc start first second

-- the lines of one item more
pub item_more : {X : Type 0} (f : X → List ℕ) (start text new : List ℕ) (xs : List X) (i : ℕ) (x : X) → i < length xs → get_or xs i x ≡ x → text ≡ start ++ flat_map f (take i xs) → new ≡ text ++ f x → new ≡ start ++ flat_map f (take (i + 1) xs)
item_more {X} f start text new xs i x within is before pushed =
    pushed
    ∙ ap (λ (t : List ℕ). t ++ f x) before
    ∙ flat_map_more f start (take i xs) x
    ∙ ap (λ (ys : List X). start ++ flat_map f ys) (sym (take_more xs i x within ∙ ap (λ (y : X). take i xs ++ y ∷ []) is))

pub all_items : {X : Type 0} (f : X → List ℕ) (start text : List ℕ) (xs : List X) (i : ℕ) → length xs ≤ i → text ≡ start ++ flat_map f (take i xs) → text ≡ start ++ flat_map f xs
all_items {X} f start text xs i done before = before ∙ ap (λ (ys : List X). start ++ flat_map f ys) (take_all i xs done)

-- the same of items with their numbers
pub numbered_more : {X : Type 0} (f : ℕ × X → List ℕ) (start text new : List ℕ) (xs : List X) (i : ℕ) (x : X) → i < length xs → get_or xs i x ≡ x → text ≡ start ++ flat_map f (take i (enumerate_from 0 xs)) → new ≡ text ++ f (i, x) → new ≡ start ++ flat_map f (take (i + 1) (enumerate_from 0 xs))
numbered_more {X} f start text new xs i x within is before pushed =
    let number : 0 + i ≡ i = omega arith in
    let there : get_or (enumerate_from 0 xs) i (i, x) ≡ (i, x) =
    get_or-enumerate_from 0 xs i (i, x) within ∙ ap (λ (k : ℕ). (k, get_or xs i x)) number ∙ ap (λ (y : X). (i, y)) is in
    item_more f start text new (enumerate_from 0 xs) i (i, x) (omega (arith, within, length-enumerate_from 0 xs)) there before pushed

pub all_numbered : {X : Type 0} (f : ℕ × X → List ℕ) (start text : List ℕ) (xs : List X) (i : ℕ) → length xs ≤ i → text ≡ start ++ flat_map f (take i (enumerate_from 0 xs)) → text ≡ start ++ flat_map f (enumerate_from 0 xs)
all_numbered f start text xs i done before =
    all_items f start text (enumerate_from 0 xs) i (omega (arith, done, length-enumerate_from 0 xs)) before

-- the same of names and their words
pub zipped_more : (f : List ℕ × ℕ → List ℕ) (start text new : List ℕ) (names : List (List ℕ)) (words : List ℕ) (i : ℕ) (name : List ℕ) (word : ℕ) → i < length names → i < length words → get_or names i name ≡ name → get_or words i word ≡ word → text ≡ start ++ flat_map f (take i (zip names words)) → new ≡ text ++ f (name, word) → new ≡ start ++ flat_map f (take (i + 1) (zip names words))
zipped_more f start text new names words i name word named worded is_name is_word before pushed =
    let there : get_or (zip names words) i (name, word) ≡ (name, word) =
    get_or-zip names words i (name, word) named worded ∙ ap (λ (n : List ℕ). (n, get_or words i word)) is_name ∙ ap (λ (w : ℕ). (name, w)) is_word in
    item_more f start text new (zip names words) i (name, word) (omega (arith, named, worded, length-zip names words)) there before pushed
