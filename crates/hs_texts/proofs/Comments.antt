-- The summary of a trial has comments alone.
use Rattle.std.proofs.Common.{zero, suc, ◌≢◌, ◌≡◌, ℕ, ◌/◌, ◌%◌, ◌<◌, Bool, true, false, cond, not, eqb, ltb, ◌&&◌, List, [], ◌∷◌, ◌++◌, Option, None, Some, refl, arith, codes}
use Rattle.std.specs.Fmt.{decimal, digits, digits_onto, digit_glyph}
use Rattle.std.specs.List.{list_all, AllByRecursion}
use Rattle.std.proofs.lemmas.Bool.Decides.{nat_tests}
use Rattle.list_facts.specs.Laws.Everywhere.{each_append}
use Rattle.hs_io.specs.Spelling.{IsComment}
use Rattle.hs_texts.specs.Reports.{TrialLinesAreComments, count_within, spaced_numbers}

-- a text without a line feed
abbrev StaysInLine : List ℕ → Type 0
StaysInLine text = AllByRecursion (λ c. c ≢ 10) text

-- the same, by a test
test_parts : (end rest : Bool) → (not end && rest) ≡ true → (end ≡ false) × (rest ≡ true)
test_parts true rest h = cc
test_parts false rest h = (refl, h)

byte_stays : (c : ℕ) → eqb c 10 ≡ false → c ≢ 10
byte_stays c h = grind (arith, nat_tests)

word_stays : (text : List ℕ) → list_all (λ c. not (eqb c 10)) text ≡ true → StaysInLine text
word_stays [] h = tt
word_stays (c ∷ cs) h = let both = test_parts (eqb c 10) (list_all (λ c. not (eqb c 10)) cs) h in (byte_stays c both.0, word_stays cs both.1)

glyph_stays : (n : ℕ) → digit_glyph false (n % 10) ≢ 10
glyph_stays n =
    let small : n % 10 < 10 = omega arith in
    let test : ltb (n % 10) 10 ≡ true = grind (arith, nat_tests) in
    rw test (λ e. absurd (omega (arith, e)))

either_stays : (first : Bool) (a b : List ℕ) → StaysInLine a → StaysInLine b → StaysInLine (cond first a b)
either_stays true a b p q = p
either_stays false a b p q = q

digits_stay : (k n : ℕ) (after : List ℕ) → StaysInLine after → StaysInLine (digits_onto k 10 false n after)
digits_stay zero n after p = p
digits_stay (suc k) n after p =
    let more : List ℕ = digit_glyph false (n % 10) ∷ after in
    either_stays (eqb (n / 10) 0) more (digits_onto k 10 false (n / 10) more) (glyph_stays n, p) (digits_stay k (n / 10) more (glyph_stays n, p))

decimal_stays : (n : ℕ) → StaysInLine (decimal n)
unfolding digits
decimal_stays n = digits_stay 64 n [] tt

numbers_stay : (numbers : List ℕ) → StaysInLine (spaced_numbers numbers)
numbers_stay [] = tt
numbers_stay (number ∷ numbers) =
    (λ e. absurd (omega (arith, e)), each_append (λ c. c ≢ 10) (decimal number) (spaced_numbers numbers) (decimal_stays number) (numbers_stay numbers))

count_stays : (count : Option ℕ) → StaysInLine (count_within count)
count_stays None = word_stays (codes "more than 1000") refl
count_stays (Some count) = decimal_stays count

-- a word behind the mark of a comment, and more in its line
comment_with : (word rest : List ℕ) → list_all (λ c. not (eqb c 10)) word ≡ true → StaysInLine rest → IsComment (35 ∷ word ++ rest)
comment_with word rest h p = (refl, each_append (λ c. c ≢ 10) word rest (word_stays word h) p)

-- each line of the summary is a comment
pub trial_lines_are_comments : TrialLinesAreComments
trial_lines_are_comments figures =
    let made = figures.seed ∷ figures.a ∷ figures.b ∷ figures.k ∷ [] in (
      comment_with (codes " trial") (spaced_numbers made) refl (numbers_stay made),
      (
        comment_with (codes " states ") (decimal figures.states) refl (decimal_stays figures.states),
        (
          comment_with (codes " closed ") (count_within figures.closed) refl (count_stays figures.closed),
          (
            comment_with (codes " parts") (spaced_numbers figures.parts) refl (numbers_stay figures.parts),
            (
              comment_with (codes " latches ") (decimal figures.latches) refl (decimal_stays figures.latches),
              (comment_with (codes " ones ") (decimal figures.ones) refl (decimal_stays figures.ones), tt),
            ),
          ),
        ),
      ),
    )
