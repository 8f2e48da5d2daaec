-- Digits read so far, and those that are left.
use Rattle.std.proofs.Common.{◌≡◌, ℕ, ◌+◌, ◌-◌, ◌*◌, ◌^◌, ◌<◌, ◌≤◌, true, List, length, get_or, drop, refl, sym, add-one, pow-suc, arith, lit<}
use Rattle.std.proofs.Math.Nat.{pow-le-pow_right}
use Rattle.std.proofs.lemmas.Bool.Decides.{nat_tests}
use Rattle.std.proofs.Math.Seq.{drop-cons}
use Rattle.std.specs.Str.{all_ascii_digits}
use Rattle.std.specs.Char.{digit_value, is_ascii_digit}

-- past a digit the word is one of digits as before it
pub digits_from : (word : List ℕ) (i : ℕ) → i < length word → is_ascii_digit (get_or word i 0) ≡ true → all_ascii_digits (drop (i + 1) word) ≡ all_ascii_digits (drop i word)
digits_from word i h is = sym (rw (drop-cons word i 0 h) (rw (add-one, is) refl))

-- one digit more, of a number with so many digits
pub digits_small : (value i d : ℕ) → value < 10 ^ i → d < 10 → value * 10 + d < 10 ^ (i + 1)
digits_small value i d small digit = rw (add-one, pow-suc) (omega arith)

-- a number with fewer than nine digits has room for one more
pub digits_room : (value i : ℕ) → value < 10 ^ i → i < 9 → value < 10 ^ 8
digits_room value i small few =
    let above : 10 ^ i ≤ 10 ^ 8 = pow-le-pow_right {n = 10} (lit< tt) {i = i} {j = 8} (omega arith) in
    omega arith

-- the value of a digit
pub digit_value-ascii : (c : ℕ) → is_ascii_digit c ≡ true → digit_value c ≡ c - 48
digit_value-ascii c h = grind (arith, nat_tests)

pub digit_below-ascii : (c : ℕ) → is_ascii_digit c ≡ true → c - 48 < 10
digit_below-ascii c h = grind (arith, nat_tests)
