-- Numbers and output fields, one byte after another.
use Rattle.std.proofs.Common.{◌≡◌, ℕ, suc, ◌+◌, ◌-◌, ◌*◌, ◌%◌, ◌^◌, ◌<◌, ◌≤◌, Bool, true, false, ◌&&◌, cond, eqb, List, [], ◌∷◌, ◌++◌, length, get_or, take, ap, sym, ◌∙◌, arith}
use Rattle.std.proofs.Math.Nat.{mod-eq_of_lt, pow-le-pow_right}
use Rattle.std.proofs.Math.Pow.{pow_pos}
use Rattle.std.proofs.lemmas.Bool.{false_from_ne_true, false≢true}
use Rattle.std.proofs.lemmas.Bool.Decides.{nat_tests}
use Rattle.std.proofs.lemmas.Int.Digits.{digits_value_more}
use Rattle.std.proofs.lemmas.List.{take_more, length-take-le}
use Rattle.std.proofs.lemmas.List.Folds.{list_all-append}
use Rattle.std.proofs.lemmas.List.Sums.{AllPass-from_list_all}
use Rattle.std.specs.Char.{digit_value, is_ascii_digit}
use Rattle.std.specs.List.{list_all}
use Rattle.std.specs.Str.Parse.{digits_value}
use Rattle.kiss2.specs.Words.{care_in, value_in}

-- a digit
pub record IsDigit (c : ℕ) : Type 0 where
  pub low : 48 ≤ c
  pub high : c ≤ 57

pub digit_is : (c : ℕ) → is_ascii_digit c ≡ true → IsDigit c
digit_is c is = record { low = grind (arith, nat_tests); high = grind (arith, nat_tests) }

pub digit_value_of : (c : ℕ) → 48 ≤ c → c ≤ 57 → digit_value c ≡ c - 48
digit_value_of c low high = grind (arith, nat_tests)

-- bytes that all pass a test, and one more
pub all_more : (p : ℕ → Bool) (field : List ℕ) (place : ℕ) → place < length field → list_all p (take place field) ≡ true → p (get_or field place 0) ≡ true → list_all p (take (place + 1) field) ≡ true
all_more p field place within before is =
    ap (list_all p) (take_more field place 0 within)
    ∙ (list_all-append p (take place field) (get_or field place 0 ∷ []) ∙ (ap (λ b. b && (p (get_or field place 0) && true)) before ∙ ap (λ b. b && true) is))

-- a byte that does not
pub not_all : (p : ℕ → Bool) (field : List ℕ) (place : ℕ) → place < length field → p (get_or field place 0) ≡ false → list_all p field ≡ false
not_all p field place within other = false_from_ne_true (list_all p field) (λ all. false≢true (sym other ∙ AllPass-from_list_all p field all place 0 within))

-- one digit more, while there is room for it
pub digit_room : (n place digit : ℕ) → n < 10 ^ place → place < 9 → digit ≤ 9 → 10 * n + digit < 2 ^ 32
digit_room n place digit below few small =
    let ten : 0 < 10 = omega arith in
    let at_most : place ≤ 8 = omega arith in
    let power : 10 ^ place ≤ 10 ^ 8 = pow-le-pow_right ten at_most in
    omega arith

pub digit_below : (n place digit : ℕ) → n < 10 ^ place → digit ≤ 9 → 10 * n + digit < 10 ^ (place + 1)
digit_below n place digit below small =
    let next : place + 1 ≡ suc place = omega arith in
    let power : 10 ^ suc place ≡ 10 * 10 ^ place = omega arith in
    rw (next, power) (omega arith)

pub digits_more : (field : List ℕ) (place n digit : ℕ) → place < length field → IsDigit (get_or field place 0) → n ≡ digits_value 10 (take place field)
    → digit ≡ get_or field place 0 - 48 → 10 * n + digit ≡ digits_value 10 (take (place + 1) field)
digits_more field place n digit within d so_far is_digit =
    let value : digit_value (get_or field place 0) ≡ get_or field place 0 - 48 = digit_value_of (get_or field place 0) d.low d.high in
    omega (arith, digits_value_more 10 field place within)

-- an output field with one character more
pub care_in-push : (field : List ℕ) (byte : ℕ) → care_in (field ++ byte ∷ []) ≡ care_in field + cond (eqb byte 45) 0 1 * 2 ^ length field
unfolding care_in
care_in-push [] byte = omega arith
care_in-push (b ∷ field) byte =
    let twice : 2 ^ suc (length field) ≡ 2 * 2 ^ length field = omega arith in
    rw (care_in-push field byte, twice) (grind arith)

pub value_in-push : (field : List ℕ) (byte : ℕ) → value_in (field ++ byte ∷ []) ≡ value_in field + cond (eqb byte 49) 1 0 * 2 ^ length field
unfolding value_in
value_in-push [] byte = omega arith
value_in-push (b ∷ field) byte =
    let twice : 2 ^ suc (length field) ≡ 2 * 2 ^ length field = omega arith in
    rw (value_in-push field byte, twice) (grind arith)

module _ (field : List ℕ) (place : ℕ) (inside : place < length field) where
  pub care_more : care_in (take (place + 1) field) ≡ care_in (take place field) + cond (eqb (get_or field place 0) 45) 0 1 * 2 ^ place
  care_more =
      let count : length (take place field) ≡ place = length-take-le place field (omega arith) in
      rw (take_more field place 0 inside) (care_in-push (take place field) (get_or field place 0) ∙ ap (λ n. care_in (take place field) + cond (eqb (get_or field place 0) 45) 0 1 * 2 ^ n) count)

  pub value_more : value_in (take (place + 1) field) ≡ value_in (take place field) + cond (eqb (get_or field place 0) 49) 1 0 * 2 ^ place
  value_more =
      let count : length (take place field) ≡ place = length-take-le place field (omega arith) in
      rw (take_more field place 0 inside) (value_in-push (take place field) (get_or field place 0) ∙ ap (λ n. value_in (take place field) + cond (eqb (get_or field place 0) 49) 1 0 * 2 ^ n) count)

-- a bit below 2 ^ 64
one_bit : (place : ℕ) → place < 64 → 1 * 2 ^ place % 2 ^ 64 ≡ 2 ^ place
one_bit place few =
    let two : 0 < 2 = omega arith in
    let at_most : place + 1 ≤ 64 = omega arith in
    let power : 2 ^ (place + 1) ≤ 2 ^ 64 = pow-le-pow_right two at_most in
    let next : 2 ^ (place + 1) ≡ 2 * 2 ^ place = twice place in
    let some : 0 < 2 ^ place = pow_pos place in
    let below : 1 * 2 ^ place < 2 ^ 64 = omega arith in
    mod-eq_of_lt below ∙ omega arith where
      twice : (n : ℕ) → 2 ^ (n + 1) ≡ 2 * 2 ^ n
      twice n = let e : n + 1 ≡ suc n = omega arith in rw e (omega arith)

above : (n place : ℕ) → n < 2 ^ place → n + 2 ^ place < 2 ^ (place + 1)
above n place lt = let e : place + 1 ≡ suc place = omega arith in let t : 2 ^ suc place ≡ 2 * 2 ^ place = omega arith in rw (e, t) (omega arith)

-- the numbers of an output field, one character on
module _ (field : List ℕ) (place old new : ℕ) (inside : place < length field) (short : length field ≤ 64) (below : old < 2 ^ place) where
  pub care_set : old ≡ care_in (take place field) → (get_or field place 0 ≡ 45 → ⊥) → new ≡ old + 1 * 2 ^ place % 2 ^ 64
      → (new ≡ care_in (take (place + 1) field)) × (new < 2 ^ (place + 1))
  care_set so_far other is_new =
      let few : place < 64 = omega arith in
      let added : new ≡ old + 2 ^ place = is_new ∙ ap (λ n. old + n) (one_bit place few) in
      let test : eqb (get_or field place 0) 45 ≡ false = grind (arith, nat_tests) in (
        added ∙ (ap (λ n. n + 2 ^ place) so_far ∙ sym (care_more field place inside ∙ (ap (λ b. care_in (take place field) + cond b 0 1 * 2 ^ place) test ∙ omega arith))),
        rw added (above old place below),
      )

  pub care_kept : old ≡ care_in (take place field) → get_or field place 0 ≡ 45 → new ≡ old
      → (new ≡ care_in (take (place + 1) field)) × (new < 2 ^ (place + 1))
  care_kept so_far dash is_new =
      let test : eqb (get_or field place 0) 45 ≡ true = grind (arith, nat_tests) in
      let more = above old place below in (
        is_new ∙ (so_far ∙ sym (care_more field place inside ∙ (ap (λ b. care_in (take place field) + cond b 0 1 * 2 ^ place) test ∙ omega arith))),
        omega arith,
      )

  pub value_set : old ≡ value_in (take place field) → get_or field place 0 ≡ 49 → new ≡ old + 1 * 2 ^ place % 2 ^ 64
      → (new ≡ value_in (take (place + 1) field)) × (new < 2 ^ (place + 1))
  value_set so_far one is_new =
      let few : place < 64 = omega arith in
      let added : new ≡ old + 2 ^ place = is_new ∙ ap (λ n. old + n) (one_bit place few) in
      let test : eqb (get_or field place 0) 49 ≡ true = grind (arith, nat_tests) in (
        added ∙ (ap (λ n. n + 2 ^ place) so_far ∙ sym (value_more field place inside ∙ (ap (λ b. value_in (take place field) + cond b 1 0 * 2 ^ place) test ∙ omega arith))),
        rw added (above old place below),
      )

  pub value_kept : old ≡ value_in (take place field) → (get_or field place 0 ≡ 49 → ⊥) → new ≡ old
      → (new ≡ value_in (take (place + 1) field)) × (new < 2 ^ (place + 1))
  value_kept so_far other is_new =
      let test : eqb (get_or field place 0) 49 ≡ false = grind (arith, nat_tests) in
      let more = above old place below in (
        is_new ∙ (so_far ∙ sym (value_more field place inside ∙ (ap (λ b. value_in (take place field) + cond b 1 0 * 2 ^ place) test ∙ omega arith))),
        omega arith,
      )
