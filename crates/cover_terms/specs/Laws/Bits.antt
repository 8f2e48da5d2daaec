use Rattle.std.proofs.Common.{◌≡◌, ℕ, zero, suc, ◌+◌, ◌-◌, ◌%◌, ◌<◌, ◌≤◌, ◌^◌, ◌*◌, ◌∙◌, ◌/◌, ◌↔◌, IsTrue, zero-mul, ◌==◌, Bool, true, false, not, if◌then◌else◌, min, bit_and, bit_xor, ap, sym, refl, inl, inr, ◌⊎◌, ⊎_elim, arith}
use mathlib.Core.Bool.{beq}
use Rattle.std.specs.Int.{bit_at, bit_not, leading_zeros, w128}
use Rattle.std.proofs.lemmas.Nat.Bits.{bit_at-zero, bit_at-lt, bit_at_and, bit_at_xor, bit_at_not, bit_at_above, and_pow, same_from_bits}
use Rattle.std.proofs.lemmas.Nat.{and_assoc, leading_top, one_shl, xor_lt, pow_pos, div-add-mod'}
use Rattle.std.proofs.Math.Nat.{mod-lt, div-eq_of_lt, div-lt_iff_lt-mul}
use Rattle.std.specs.Int.Bits.{and_self}
use Rattle.std.proofs.lemmas.Bool.{cases_Bool, cases_lt, false≢true}
use Rattle.std.proofs.lemmas.Bool.Decides.{nat_tests}

pub zero_from_test : (n : ℕ) → (n == 0) ≡ true → n ≡ 0
zero_from_test n h = grind (arith, nat_tests)

pub equal_from_test : (a b : ℕ) → (a == b) ≡ true → a ≡ b
equal_from_test a b h = grind (arith, nat_tests)

pub test_from_zero : (n : ℕ) → n ≡ 0 → (n == 0) ≡ true
test_from_zero n h = grind (arith, nat_tests)

pub bits_of_zero : (n : ℕ) → n ≡ 0 → (i : ℕ) → bit_at n i ≡ 0
bits_of_zero n e i = ap (λ m. bit_at m i) e ∙ bit_at-zero i

pub zero_from_bits : (n : ℕ) → ((i : ℕ) → bit_at n i ≡ 0) → n ≡ 0
zero_from_bits n h = same_from_bits n 0 (λ i. h i ∙ sym (bit_at-zero i))

-- on single bits
pub zero_or_one : (b : ℕ) → b < 2 → (b ≡ 0) ⊎ (b ≡ 1)
zero_or_one zero h = inl refl
zero_or_one (suc b) h = inr (omega arith)

pub zero_is_not_one : (b : ℕ) → b ≡ 0 → b ≡ 1 → ⊥
zero_is_not_one b e f = omega arith

pub both_one : (a b : ℕ) → a < 2 → b < 2 → min a b ≡ 1 → (a ≡ 1) × (b ≡ 1)
both_one a b p q h = (omega arith, omega arith)

pub min_with_one : (a b : ℕ) → a < 2 → b ≡ 1 → min a b ≡ a
min_with_one a b p q = omega arith

-- a number of w bits has its ones below w
pub below_width : (w n i : ℕ) → n < 2 ^ w → bit_at n i ≡ 1 → i < w
below_width w n i p l = ⊎_elim (λ h. h) (λ h. absurd (zero_is_not_one (bit_at n i) (bit_at_above n w i p h) l)) (cases_lt i w)

-- the bits of `(a ^ b) & c & d`
pub bit_at_differ : (a b c d i : ℕ) → bit_at (bit_and (bit_and (bit_xor a b) c) d) i ≡ min (min ((bit_at a i + bit_at b i) % 2) (bit_at c i)) (bit_at d i)
bit_at_differ a b c d i = bit_at_and (bit_and (bit_xor a b) c) d i ∙ ap (λ m. min m (bit_at d i)) (bit_at_and (bit_xor a b) c i ∙ ap (λ m. min m (bit_at c i)) (bit_at_xor a b i))

pub same_where_both : (a b c d : ℕ) → a < 2 → b < 2 → min (min ((a + b) % 2) c) d ≡ 0 → c ≡ 1 → d ≡ 1 → a ≡ b
same_where_both a b c d p q h l m = omega arith

pub none_differ : (a b c d : ℕ) → a < 2 → b < 2 → c < 2 → d < 2 → (c ≡ 1 → d ≡ 1 → a ≡ b) → min (min ((a + b) % 2) c) d ≡ 0
none_differ a b c d p q r s h =
    ⊎_elim (λ c0. omega arith) (λ c1.
    ⊎_elim (λ d0. omega arith) (λ d1. let e = h c1 d1 in omega arith) (zero_or_one d s)) (zero_or_one c r)

pub all_one : (a b c : ℕ) → a < 2 → b < 2 → c < 2 → min (min a b) c ≡ 1 → (a ≡ 1) × (b ≡ 1) × (c ≡ 1)
all_one a b c p q r h = (omega arith, omega arith, omega arith)

pub same_from_equal_test : (a b : ℕ) → a < 2 → b < 2 → 1 - (a + b) % 2 ≡ 1 → a ≡ b
same_from_equal_test a b p q h = omega arith

-- where `c & d & !(a ^ b)` has a 1, both looked and they agreed
pub common_is : (a b c d i : ℕ) → a < 2 ^ 128 → b < 2 ^ 128 → c < 2 ^ 128 → bit_at (bit_and (bit_and c d) (bit_not w128 (bit_xor a b))) i ≡ 1 → (bit_at c i ≡ 1) × (bit_at d i ≡ 1) × (bit_at a i ≡ bit_at b i)
common_is a b c d i p q r h =
    let n = bit_not w128 (bit_xor a b) in
    let e : bit_at (bit_and (bit_and c d) n) i ≡ min (min (bit_at c i) (bit_at d i)) (bit_at n i) =
    bit_at_and (bit_and c d) n i ∙ ap (λ m. min m (bit_at n i)) (bit_at_and c d i) in
    let k = all_one (bit_at c i) (bit_at d i) (bit_at n i) (bit_at-lt c i) (bit_at-lt d i) (bit_at-lt n i) (sym e ∙ h) in
    let within = below_width 128 c i r k.0 in (
      k.0,
      k.1,
      same_from_equal_test _ _ (bit_at-lt a i) (bit_at-lt b i)
          (sym (bit_at_not w128 (bit_xor a b) i (xor_lt 128 a b p q) within ∙ ap (λ m. 1 - m) (bit_at_xor a b i)) ∙ k.2),
    )

-- `v & c` lies inside c
pub and_inside : (v c : ℕ) → bit_and (bit_and v c) c ≡ bit_and v c
and_inside v c = and_assoc c v c ∙ ap (bit_and v) (and_self c)

-- nothing is left of a number shifted by its bits
pub shifted_out : (n w : ℕ) → IsTrue (n / 2 ^ w == 0) ↔ (n < 2 ^ w)
shifted_out n w =
    (λ h. below n (2 ^ w) (pow_pos w) (zero_from_test (n / 2 ^ w) h), λ h. test_from_zero (n / 2 ^ w) (none n (2 ^ w) h))
  where
    below : (n m : ℕ) → 0 < m → n / m ≡ 0 → n < m
    below n m p e = let rest = mod-lt n p in let all = div-add-mod' n m in let gone : n / m * m ≡ 0 = ap (λ q. q * m) e ∙ zero-mul m in omega arith

    none : (n m : ℕ) → n < m → n / m ≡ 0
    none n m h = div-eq_of_lt h

-- whether `n & (1 << k)` is 0
pub masked_bit : (n k : ℕ) → k < 128 → bit_and n (1 * 2 ^ k % 2 ^ 128) ≡ bit_at n k * 2 ^ k
masked_bit n k h = ap (bit_and n) (one_shl k 128 h) ∙ and_pow n k

pub bit_from_mask : (n k : ℕ) → k < 128 → (bit_and n (1 * 2 ^ k % 2 ^ 128) == 0) ≡ false → bit_at n k ≡ 1
bit_from_mask n k h some = ⊎_elim
    (λ none. absurd (false≢true (sym some ∙ test_from_zero _ (masked_bit n k h ∙ (ap (λ b. b * 2 ^ k) none ∙ zero-mul (2 ^ k))))))
    (λ one. one) (zero_or_one (bit_at n k) (bit_at-lt n k))

pub no_bit_from_mask : (n k : ℕ) → k < 128 → (bit_and n (1 * 2 ^ k % 2 ^ 128) == 0) ≡ true → bit_at n k ≡ 0
no_bit_from_mask n k h none = ⊎_elim (λ zero. zero)
    (λ one. absurd (positive (sym (masked_bit n k h ∙ ap (λ b. b * 2 ^ k) one) ∙ zero_from_test _ none))) (zero_or_one (bit_at n k) (bit_at-lt n k))
  where
    positive : 1 * 2 ^ k ≡ 0 → ⊥
    positive e = let p = pow_pos k in omega (arith, p)

pub masked_zero : (n k : ℕ) → k < 128 → bit_and n (1 * 2 ^ k % 2 ^ 128) ≡ 0 → bit_at n k ≡ 0
masked_zero n k h none = no_bit_from_mask n k h (test_from_zero _ none)

-- a literal, by such tests
pub literal_from_masks : (care value k : ℕ) (one : Bool) → k < 128 → (bit_and care (1 * 2 ^ k % 2 ^ 128) ≡ 0 → ⊥) → beq (not (bit_and value (1 * 2 ^ k % 2 ^ 128) == 0)) one ≡ true → (bit_at care k ≡ 1) × (bit_at value k ≡ if one then 1 else 0)
literal_from_masks care value k one h looks has = (
  bit_from_mask care k h (⊎_elim (λ t. absurd (looks (zero_from_test _ t))) (λ f. f) (cases_Bool (bit_and care (1 * 2 ^ k % 2 ^ 128) == 0))),
  by_test (bit_and value (1 * 2 ^ k % 2 ^ 128) == 0) one (bit_at value k) (bit_from_mask value k h) (no_bit_from_mask value k h) has,
)
  where
    by_test : (t one : Bool) (b : ℕ) → (t ≡ false → b ≡ 1) → (t ≡ true → b ≡ 0) → beq (not t) one ≡ true → b ≡ if one then 1 else 0
    by_test true true b p q e = absurd (false≢true e)
    by_test true false b p q e = q refl
    by_test false true b p q e = p refl
    by_test false false b p q e = absurd (false≢true e)

-- and back
pub masks_from_literal : (value k : ℕ) (one : Bool) → k < 128 → bit_at value k ≡ (if one then 1 else 0) → beq (not (bit_and value (1 * 2 ^ k % 2 ^ 128) == 0)) one ≡ true
masks_from_literal value k one h has = by_test (bit_and value (1 * 2 ^ k % 2 ^ 128) == 0) one (bit_at value k) (bit_from_mask value k h) (no_bit_from_mask value k h) has
  where
    by_test : (t one : Bool) (b : ℕ) → (t ≡ false → b ≡ 1) → (t ≡ true → b ≡ 0) → b ≡ (if one then 1 else 0) → beq (not t) one ≡ true
    by_test true true b p q e = absurd (zero_is_not_one b (q refl) e)
    by_test true false b p q e = refl
    by_test false true b p q e = refl
    by_test false false b p q e = absurd (zero_is_not_one b e (p refl))

-- the highest 1 of a number
pub highest_one : (n : ℕ) → 0 < n → n < 2 ^ 128 → (leading_zeros w128 n ≤ 127) × (bit_at n (127 - leading_zeros w128 n) ≡ 1)
highest_one n some fits =
    let top = leading_top 128 n some fits in
    let same : 127 - leading_zeros w128 n ≡ top.0 = (let e = top.1 in omega arith) in
    (let e = top.1 in omega arith, ap (bit_at n) same ∙ ap (λ q. q % 2) (once n (2 ^ top.0) (pow_pos top.0) top.2 (let e = top.3 in let p = pow_suc top.0 in omega arith)))
  where
    pow_suc : (j : ℕ) → 2 ^ suc j ≡ 2 * 2 ^ j
    pow_suc j = grind arith

    once : (n m : ℕ) → 0 < m → m ≤ n → n < 2 * m → n / m ≡ 1
    once n m p low high =
        let below = (div-lt_iff_lt-mul {k = m} {x = n} {y = 2} p).1 high in
        let at_least : n < 1 * m → ⊥ = (λ h. omega arith) in
        ⊎_elim (λ h. absurd (at_least ((div-lt_iff_lt-mul {k = m} {x = n} {y = 1} p).0 h))) (λ h. omega (arith, below)) (cases_lt (n / m) 1)
