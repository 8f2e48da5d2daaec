-- Outputs, gathered one after another, are those that occur, in the order in which they come first.
use Rattle.std.proofs.Common.{◌≡◌, ◌≢◌, ℕ, zero, suc, ◌+◌, ◌<◌, ◌≤◌, ◌^◌, ◌==◌, ◌||◌, Bool, true, false, not, cond, eqb, List, [], ◌∷◌, ◌++◌, length, get_or, take, drop, refl, sym, ap, ◌∙◌, subst, inl, inr, arith, append_assoc}
use Rattle.std.proofs.lemmas.Bool.{cases_Bool, cases_eq, cases_lt, eq-eqb, true≢false}
use Rattle.std.proofs.lemmas.Bool.Decides.{eqb_tells}
use Rattle.std.proofs.lemmas.Grind.{flat_map-append}
use Rattle.std.proofs.lemmas.List.{append-nil, flat_map_more, get_or_append_left, get_or_push, length_push, take-append-drop, take_all, take_more}
use Rattle.std.proofs.lemmas.List.Concat.{get_or-flat_map}
use Rattle.std.proofs.lemmas.List.Elements.{filter-append}
use Rattle.std.proofs.lemmas.List.Folds.{length-flat_map-take}
use Rattle.std.proofs.lemmas.List.FromFn.{get_or-map-range_with_len, get_or-range_with_len, length-map-range_with_len, length-range_with_len}
use Rattle.std.proofs.lemmas.List.Sums.{position_or_len_is}
use Rattle.std.proofs.lemmas.Nat.{pow_pos}
use Rattle.std.specs.List.{filter, flat_map, position_or_len, range_with_len}
use Rattle.kiss_file.specs.declared.file.KissFile.{KissFile}
use Rattle.io_pairs.specs.Inner.Words.{AreNumbersOf, IsPlaceOf, has_word, with_word, with_words}
use Rattle.io_pairs.specs.Outputs.{all_outputs, first_appearances, occurring, output_number, output_word, outputs_at}

or_no : (a b : Bool) → a ≡ false → (a || b) ≡ b
or_no a b is = ap (λ c. c || b) is

or_yes : (a b : Bool) → a ≡ true → (a || b) ≡ true
or_yes a b is = ap (λ c. c || b) is

eqb_apart : (a b : ℕ) → a ≢ b → eqb a b ≡ false
eqb_apart a b apart =
    elim (eqb_tells a b) [
      | inl same ↦ absurd (apart same.1)
      | inr differs ↦ differs.0
    ]

-- another word is in the list exactly where it was
has_others : (x w : ℕ) → x ≢ w → (xs : List ℕ) → has_word (filter (λ y. not (y == x)) xs) w ≡ has_word xs w
has_others x w apart [] = refl
has_others x w apart (y ∷ ys) =
    elim (eqb_tells y x) [
      | inl same ↦
          let gone : filter (λ z. not (z == x)) (y ∷ ys) ≡ filter (λ z. not (z == x)) ys = ap (λ b. cond (not b) (y ∷ filter (λ z. not (z == x)) ys) (filter (λ z. not (z == x)) ys)) same.0 in
          let other : eqb y w ≡ false = eqb_apart y w (λ is. apart (sym same.1 ∙ is)) in
          ap (λ (zs : List ℕ). has_word zs w) gone ∙ has_others x w apart ys ∙ sym (or_no (eqb y w) (has_word ys w) other)
      | inr differs ↦
          let kept : filter (λ z. not (z == x)) (y ∷ ys) ≡ y ∷ filter (λ z. not (z == x)) ys = ap (λ b. cond (not b) (y ∷ filter (λ z. not (z == x)) ys) (filter (λ z. not (z == x)) ys)) differs.0 in
          ap (λ (zs : List ℕ). has_word zs w) kept ∙ ap (λ b. (y == w) || b) (has_others x w apart ys)
    ]

with_known : (xs : List ℕ) (w : ℕ) → has_word xs w ≡ true → with_word xs w ≡ xs
with_known xs w has = ap (λ b. cond b xs (xs ++ w ∷ [])) has

with_new : (xs : List ℕ) (w : ℕ) → has_word xs w ≡ false → with_word xs w ≡ xs ++ w ∷ []
with_new xs w none = ap (λ b. cond b xs (xs ++ w ∷ [])) none

-- a word is added after the first value
after_front : (x w : ℕ) (xs : List ℕ) → x ∷ filter (λ y. not (y == x)) (with_word xs w) ≡ with_word (x ∷ filter (λ y. not (y == x)) xs) w
after_front x w xs =
    let rest : List ℕ = filter (λ y. not (y == x)) xs in
    elim (eqb_tells x w) [
      | inl same ↦
          let known : with_word (x ∷ rest) w ≡ x ∷ rest = with_known (x ∷ rest) w (or_yes (eqb x w) (has_word rest w) same.0) in
          let gone : filter (λ y. not (y == x)) (w ∷ []) ≡ [] = ap (λ b. cond (not b) (w ∷ []) []) (eq-eqb w x (sym same.1)) in
          elim (cases_Bool (has_word xs w)) [
            | inl has ↦ ap (λ (ys : List ℕ). x ∷ filter (λ y. not (y == x)) ys) (with_known xs w has) ∙ sym known
            | inr none ↦
                ap (λ (ys : List ℕ). x ∷ filter (λ y. not (y == x)) ys) (with_new xs w none)
                ∙ ap (λ (ys : List ℕ). x ∷ ys) (filter-append (λ y. not (y == x)) xs (w ∷ []) ∙ ap (λ (ys : List ℕ). rest ++ ys) gone ∙ append-nil rest)
                ∙ sym known
          ]
      | inr differs ↦
          let there : has_word (x ∷ rest) w ≡ has_word xs w = or_no (eqb x w) (has_word rest w) differs.0 ∙ has_others x w differs.1 xs in
          let kept : filter (λ y. not (y == x)) (w ∷ []) ≡ w ∷ [] = ap (λ b. cond (not b) (w ∷ []) []) (eqb_apart w x (λ is. differs.1 (sym is))) in
          elim (cases_Bool (has_word xs w)) [
            | inl has ↦ ap (λ (ys : List ℕ). x ∷ filter (λ y. not (y == x)) ys) (with_known xs w has) ∙ sym (with_known (x ∷ rest) w (there ∙ has))
            | inr none ↦
                ap (λ (ys : List ℕ). x ∷ filter (λ y. not (y == x)) ys) (with_new xs w none)
                ∙ ap (λ (ys : List ℕ). x ∷ ys) (filter-append (λ y. not (y == x)) xs (w ∷ []) ∙ ap (λ (ys : List ℕ). rest ++ ys) kept)
                ∙ sym (with_new (x ∷ rest) w (there ∙ none))
          ]
    ]

-- one value more
firsts_push : (xs : List ℕ) (w : ℕ) → first_appearances (xs ++ w ∷ []) ≡ with_word (first_appearances xs) w
firsts_push [] w = refl
firsts_push (x ∷ xs) w = ap (λ (ys : List ℕ). x ∷ filter (λ y. not (y == x)) ys) (firsts_push xs w) ∙ after_front x w (first_appearances xs)

-- more values
pub firsts_append : (xs ys : List ℕ) → with_words (first_appearances xs) ys ≡ first_appearances (xs ++ ys)
firsts_append xs [] = ap first_appearances (sym (append-nil xs))
firsts_append xs (y ∷ ys) =
    ap (λ (zs : List ℕ). with_words zs ys) (sym (firsts_push xs y)) ∙ firsts_append (xs ++ y ∷ []) ys ∙ ap first_appearances (append_assoc xs (y ∷ []) ys)

with_word_grows : (xs : List ℕ) (w : ℕ) → length xs ≤ length (with_word xs w)
with_word_grows xs w =
    elim (cases_Bool (has_word xs w)) [
      | inl has ↦ omega (arith, ap length (with_known xs w has))
      | inr none ↦ omega (arith, ap length (with_new xs w none), length_push xs w)
    ]

with_words_grow : (xs ys : List ℕ) → length xs ≤ length (with_words xs ys)
with_words_grow xs [] = omega arith
with_words_grow xs (y ∷ ys) = omega (arith, with_word_grows xs y, with_words_grow (with_word xs y) ys)

with_words_append : (xs ys zs : List ℕ) → with_words xs (ys ++ zs) ≡ with_words (with_words xs ys) zs
with_words_append xs [] zs = refl
with_words_append xs (y ∷ ys) zs = with_words_append (with_word xs y) ys zs

-- where the word is
has_at : (xs : List ℕ) (w k : ℕ) → k < length xs → get_or xs k 0 ≡ w → has_word xs w ≡ true
has_at [] w k within is = absurd (omega arith)
has_at (x ∷ xs) w zero within is = or_yes (eqb x w) (has_word xs w) (eq-eqb x w is)
has_at (x ∷ xs) w (suc k) within is =
    elim (cases_Bool (eqb x w)) [
      | inl same ↦ or_yes (eqb x w) (has_word xs w) same
      | inr other ↦ or_no (eqb x w) (has_word xs w) other ∙ has_at xs w k (omega arith) is
    ]

has_none : (xs : List ℕ) (w : ℕ) → ((k : ℕ) → k < length xs → get_or xs k 0 ≢ w) → has_word xs w ≡ false
has_none [] w none = refl
has_none (x ∷ xs) w none = or_no (eqb x w) (has_word xs w) (eqb_apart x w (none 0 (omega arith))) ∙ has_none xs w (λ k within. none (suc k) (omega arith))

-- a value of the list is among the first appearances
has_first : (xs : List ℕ) (w k : ℕ) → k < length xs → get_or xs k 0 ≡ w → has_word (first_appearances xs) w ≡ true
has_first [] w k within is = absurd (omega arith)
has_first (x ∷ xs) w zero within is = or_yes (eqb x w) (has_word (filter (λ y. not (y == x)) (first_appearances xs)) w) (eq-eqb x w is)
has_first (x ∷ xs) w (suc k) within is =
    elim (eqb_tells x w) [
      | inl same ↦ or_yes (eqb x w) (has_word (filter (λ y. not (y == x)) (first_appearances xs)) w) same.0
      | inr differs ↦
          or_no (eqb x w) (has_word (filter (λ y. not (y == x)) (first_appearances xs)) w) differs.0
          ∙ has_others x w differs.1 (first_appearances xs) ∙ has_first xs w k (omega arith) is
    ]

-- one word of a list was looked for: it is there, and nothing is added
pub word_known : (start outs words : List ℕ) (i place : ℕ) → i < length words → outs ≡ with_words start (take i words) → IsPlaceOf outs (get_or words i 0) place → place ≢ length outs
    → outs ≡ with_words start (take (i + 1) words)
word_known start outs words i place within so_far is other =
    let inside : place < length outs = omega (arith, is.within) in
    let has : has_word outs (get_or words i 0) ≡ true = has_at outs (get_or words i 0) place inside (is.found inside) in
    sym (with_known outs (get_or words i 0) has)
    ∙ ap (λ (xs : List ℕ). with_word xs (get_or words i 0)) so_far
    ∙ sym (with_words_append start (take i words) (get_or words i 0 ∷ []))
    ∙ ap (λ (ys : List ℕ). with_words start ys) (sym (take_more words i 0 within))

-- or it is not there, and comes at the end
pub word_new : (start outs words : List ℕ) (i place : ℕ) → i < length words → outs ≡ with_words start (take i words) → IsPlaceOf outs (get_or words i 0) place → place ≡ length outs
    → outs ++ get_or words i 0 ∷ [] ≡ with_words start (take (i + 1) words)
word_new start outs words i place within so_far is at =
    let none : has_word outs (get_or words i 0) ≡ false = has_none outs (get_or words i 0) (λ k inside. is.before k (omega arith)) in
    sym (with_new outs (get_or words i 0) none)
    ∙ ap (λ (xs : List ℕ). with_word xs (get_or words i 0)) so_far
    ∙ sym (with_words_append start (take i words) (get_or words i 0 ∷ []))
    ∙ ap (λ (ys : List ℕ). with_words start ys) (sym (take_more words i 0 within))

-- and then there are more than there were
pub more_words : (start outs words : List ℕ) (i place : ℕ) → i < length words → outs ≡ with_words start (take i words) → IsPlaceOf outs (get_or words i 0) place → place ≡ length outs
    → length outs < length (with_words start words)
more_words start outs words i place within so_far is at =
    let new = word_new start outs words i place within so_far is at in
    let whole : with_words start words ≡ with_words (with_words start (take (i + 1) words)) (drop (i + 1) words) =
    ap (λ (ys : List ℕ). with_words start ys) (sym (take-append-drop (i + 1) words)) ∙ with_words_append start (take (i + 1) words) (drop (i + 1) words) in
    let grown = with_words_grow (with_words start (take (i + 1) words)) (drop (i + 1) words) in
    omega (arith, ap length whole, grown, ap length new, length_push outs (get_or words i 0))

-- the outputs of the states below a number
pub outputs_below : KissFile → ℕ → List ℕ
outputs_below F s = first_appearances (flat_map (outputs_at F) (take s (range_with_len 0 (length F.states))))

pub outputs_none : (F : KissFile) → outputs_below F 0 ≡ []
unfolding outputs_below
outputs_none F = refl

pub outputs_more : (F : KissFile) (s : ℕ) → s < length F.states → with_words (outputs_below F s) (outputs_at F s) ≡ outputs_below F (s + 1)
unfolding outputs_below
outputs_more F s within =
    let states : List ℕ = range_with_len 0 (length F.states) in
    let inside : s < length states = omega (arith, length-range_with_len 0 (length F.states)) in
    let here : get_or states s 0 ≡ s = get_or-range_with_len 0 (length F.states) s 0 within ∙ (omega arith) in
    let longer : take (s + 1) states ≡ take s states ++ s ∷ [] = take_more states s 0 inside ∙ ap (λ (t : ℕ). take s states ++ t ∷ []) here in
    firsts_append (flat_map (outputs_at F) (take s states)) (outputs_at F s)
    ∙ ap first_appearances (flat_map_more (outputs_at F) [] (take s states) s)
    ∙ ap (λ (ts : List ℕ). first_appearances (flat_map (outputs_at F) ts)) (sym longer)

-- they are no more than all that occur
pub outputs_fewer : (F : KissFile) (s : ℕ) → length (outputs_below F s) ≤ length (occurring F)
unfolding outputs_below
outputs_fewer F s =
    let states : List ℕ = range_with_len 0 (length F.states) in
    let front : List ℕ = flat_map (outputs_at F) (take s states) in
    let back : List ℕ = flat_map (outputs_at F) (drop s states) in
    let whole : with_words (first_appearances front) back ≡ occurring F =
    firsts_append front back ∙ ap first_appearances (sym (flat_map-append (outputs_at F) (take s states) (drop s states)))
    ∙ ap (λ (ts : List ℕ). first_appearances (flat_map (outputs_at F) ts)) (take-append-drop s states) in
    omega (arith, with_words_grow (first_appearances front) back, ap length whole)

pub outputs_all : (F : KissFile) (s : ℕ) → length F.states ≤ s → outputs_below F s ≡ occurring F
unfolding outputs_below
outputs_all F s past = ap (λ (ts : List ℕ). first_appearances (flat_map (outputs_at F) ts)) (take_all s (range_with_len 0 (length F.states)) (omega (arith, length-range_with_len 0 (length F.states))))

-- the output of a state at a symbol occurs, and its number is its place
occurs : (F : KissFile) (s x : ℕ) → s < length F.states → x < 2 ^ F.inputs → has_word (occurring F) (output_word F s x) ≡ true
occurs F s x in_s in_x =
    let states : List ℕ = range_with_len 0 (length F.states) in
    let inside : s < length states = omega (arith, length-range_with_len 0 (length F.states)) in
    let here : get_or states s 0 ≡ s = get_or-range_with_len 0 (length F.states) s 0 in_s ∙ (omega arith) in
    let row : List ℕ = outputs_at F (get_or states s 0) in
    let in_row : x < length row = omega (arith, length-map-range_with_len (output_word F (get_or states s 0)) 0 (2 ^ F.inputs)) in
    let place : ℕ = length (flat_map (outputs_at F) (take s states)) + x in
    let is : get_or (all_outputs F) place 0 ≡ output_word F s x =
    get_or-flat_map (outputs_at F) states s x 0 0 inside in_row
    ∙ get_or-map-range_with_len (output_word F (get_or states s 0)) 0 (2 ^ F.inputs) x x 0 in_x (omega arith)
    ∙ ap (λ (t : ℕ). output_word F t x) here in
    let room = length-flat_map-take (outputs_at F) states s 0 inside in
    has_first (all_outputs F) (output_word F s x) place (omega (arith, room, in_row)) is

pub number_is : (F : KissFile) (outs : List ℕ) (s x word place : ℕ) → outs ≡ occurring F → s < length F.states → x < 2 ^ F.inputs → word ≡ output_word F s x → IsPlaceOf outs word place
    → (place ≡ output_number F s x) × (place < length outs)
number_is F outs s x word place same in_s in_x is_word is =
    let has : has_word outs (output_word F s x) ≡ true = ap (λ (xs : List ℕ). has_word xs (output_word F s x)) same ∙ occurs F s x in_s in_x in
    let inside : place < length outs = elim (cases_lt place (length outs)) [
      | inl below ↦ below
      | inr past ↦
          let none : has_word outs word ≡ false = has_none outs word (λ k within. is.before k (omega (arith, is.within))) in
          absurd (true≢false (sym has ∙ ap (λ (w : ℕ). has_word outs w) (sym is_word) ∙ none))
    ] in
    let first : position_or_len (λ w. w == word) outs ≡ place = position_or_len_is (λ w. w == word) outs place 0 is.within
    (λ k below. eqb_apart (get_or outs k 0) word (is.before k below))
    (λ below. eq-eqb (get_or outs place 0) word (is.found below)) in
    (sym first ∙ ap (λ (w : ℕ). position_or_len (λ v. v == w) outs) is_word ∙ ap (λ (xs : List ℕ). position_or_len (λ v. v == output_word F s x) xs) same, inside)

-- some output occurs
pub some_occur : (F : KissFile) → 0 < length F.states → 0 < length (occurring F)
some_occur F states =
    elim (cases_lt 0 (length (occurring F))) [
      | inl some ↦ some
      | inr none ↦
          absurd (true≢false (sym (occurs F 0 0 states (pow_pos F.inputs)) ∙ has_none (occurring F) (output_word F 0 0) (λ k within. absurd (omega arith))))
    ]

-- the numbers of the outputs at the symbols below a number
pub record AreNumbersBelow (F : KissFile) (s symbols : ℕ) (list : List ℕ) : Type 0 where
  pub count : length list ≡ symbols
  pub numbers : (x : ℕ) → x < symbols → get_or list x 0 ≡ output_number F s x
  pub below : (x : ℕ) → x < symbols → get_or list x 0 < length (occurring F)

pub numbers_none : (F : KissFile) (s : ℕ) → AreNumbersBelow F s 0 []
numbers_none F s = record { count = refl; numbers = λ x within. absurd (omega arith); below = λ x within. absurd (omega arith) }

pub numbers_more : (F : KissFile) (s : ℕ) (outs words : List ℕ) (i place : ℕ) (list : List ℕ) → outs ≡ occurring F → s < length F.states → words ≡ outputs_at F s → i < length words → IsPlaceOf outs (get_or words i 0) place
    → AreNumbersBelow F s i list → AreNumbersBelow F s (i + 1) (list ++ place ∷ [])
numbers_more F s outs words i place list same in_s is_row within is so_far =
    let in_x : i < 2 ^ F.inputs = omega (arith, ap length is_row, length-map-range_with_len (output_word F s) 0 (2 ^ F.inputs)) in
    let word : get_or words i 0 ≡ output_word F s i = ap (λ (xs : List ℕ). get_or xs i 0) is_row ∙ get_or-map-range_with_len (output_word F s) 0 (2 ^ F.inputs) i i 0 in_x (omega arith) in
    let number = number_is F outs s i (get_or words i 0) place same in_s in_x word is in
    let last : get_or (list ++ place ∷ []) i 0 ≡ place = get_or_push list place 0 i so_far.count in
    record {
      count = length_push list place ∙ ap (λ (n : ℕ). n + 1) so_far.count;
      numbers = λ x less. elim (cases_eq x i) [
        | inl at ↦ subst (λ (n : ℕ). get_or (list ++ place ∷ []) n 0 ≡ output_number F s n) (sym at) (last ∙ number.0)
        | inr other ↦ get_or_append_left list (place ∷ []) 0 x (omega (arith, so_far.count)) ∙ so_far.numbers x (omega arith)
      ];
      below = λ x less. elim (cases_eq x i) [
        | inl at ↦ subst (λ (n : ℕ). get_or (list ++ place ∷ []) n 0 < length (occurring F)) (sym at) (omega (arith, last, number.1, ap length same))
        | inr other ↦ omega (arith, get_or_append_left list (place ∷ []) 0 x (omega (arith, so_far.count)), so_far.below x (omega arith))
      ];
    }

pub numbers_all : (F : KissFile) (s : ℕ) (words : List ℕ) (i : ℕ) (list : List ℕ) → words ≡ outputs_at F s → i ≡ length words → AreNumbersBelow F s i list → AreNumbersOf F s list
numbers_all F s words i list is_row all so_far =
    let symbols : i ≡ 2 ^ F.inputs = omega (arith, ap length is_row, length-map-range_with_len (output_word F s) 0 (2 ^ F.inputs)) in
    record {
      count = so_far.count ∙ symbols;
      numbers = λ x within. so_far.numbers x (omega (arith, symbols));
      below = λ x within. so_far.below x (omega (arith, symbols));
    }

-- a state more, by what the code has
pub outputs_next : (F : KissFile) (s : ℕ) (outs words : List ℕ) → s < length F.states → outs ≡ outputs_below F s → words ≡ outputs_at F s → with_words outs words ≡ outputs_below F (s + 1)
outputs_next F s outs words within so_far row =
    ap (λ (xs : List ℕ). with_words xs words) so_far ∙ ap (λ (ws : List ℕ). with_words (outputs_below F s) ws) row ∙ outputs_more F s within
