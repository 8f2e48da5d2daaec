-- One bit of a number, as a Bool and as 0 or 1.
use Rattle.std.proofs.Common.{◌≡◌, ℕ, zero, suc, ◌+◌, ◌%◌, ◌<◌, min, max, Bool, not, ◌||◌, ◌&&◌, true, false, eqb, ap, sym, ◌∙◌, refl, arith, inl, inr, bit_and, bit_or}
use Rattle.std.proofs.lemmas.Bool.{eqb-true, eqb-false, eq-eqb, cases_Bool, false≢true}
use Rattle.std.proofs.lemmas.Nat.Bits.{bit_at-lt, bit_at-zero, bit_at_and, bit_at_or, bit_at_xor}
use Rattle.std.specs.Bool.{beq}
use Rattle.std.specs.Int.{bit_at}
use Rattle.std.specs.Int.RustNames.{bit_xor}
use Rattle.cubes.specs.Symbol.{bit}

pub one_from_bit : (n k : ℕ) → bit n k ≡ true → bit_at n k ≡ 1
one_from_bit n k h = eqb-true (bit_at n k) 1 h

pub zero_from_bit : (n k : ℕ) → bit n k ≡ false → bit_at n k ≡ 0
zero_from_bit n k h = let below : bit_at n k < 2 = bit_at-lt n k in let other : bit_at n k ≡ 1 → ⊥ = eqb-false (bit_at n k) 1 h in omega (arith, below, other)

pub bit_from_one : (n k : ℕ) → bit_at n k ≡ 1 → bit n k ≡ true
bit_from_one n k h = eq-eqb (bit_at n k) 1 h

pub bit_from_zero : (n k : ℕ) → bit_at n k ≡ 0 → bit n k ≡ false
bit_from_zero n k h = ap (λ d. eqb d 1) h

-- two equal bits are equal as numbers
pub same_digits : (m n j k : ℕ) → bit m j ≡ bit n k → bit_at m j ≡ bit_at n k
same_digits m n j k h =
    elim (cases_Bool (bit n k)) [
      | inl t ↦ one_from_bit m j (h ∙ t) ∙ sym (one_from_bit n k t)
      | inr f ↦ zero_from_bit m j (h ∙ f) ∙ sym (zero_from_bit n k f)
    ]

-- two equal digits are equal as bits
pub same_bits : (m n j k : ℕ) → bit_at m j ≡ bit_at n k → bit m j ≡ bit n k
same_bits m n j k h = ap (λ d. eqb d 1) h

-- 0 has no bit
pub bit-zero : (k : ℕ) → bit 0 k ≡ false
bit-zero k = bit_from_zero 0 k (bit_at-zero k)

-- ---- the bits of masks
or_digit : (a b : ℕ) → a < 2 → b < 2 → eqb (max a b) 1 ≡ (eqb a 1 || eqb b 1)
or_digit zero zero la lb = refl
or_digit zero (suc zero) la lb = refl
or_digit (suc zero) zero la lb = refl
or_digit (suc zero) (suc zero) la lb = refl
or_digit (suc (suc a)) b la lb = absurd (omega (arith, la))
or_digit a (suc (suc b)) la lb = absurd (omega (arith, lb))

and_digit : (a b : ℕ) → a < 2 → b < 2 → eqb (min a b) 1 ≡ (eqb a 1 && eqb b 1)
and_digit zero zero la lb = refl
and_digit zero (suc zero) la lb = refl
and_digit (suc zero) zero la lb = refl
and_digit (suc zero) (suc zero) la lb = refl
and_digit (suc (suc a)) b la lb = absurd (omega (arith, la))
and_digit a (suc (suc b)) la lb = absurd (omega (arith, lb))

xor_digit : (a b : ℕ) → a < 2 → b < 2 → eqb ((a + b) % 2) 1 ≡ not (beq (eqb a 1) (eqb b 1))
xor_digit zero zero la lb = refl
xor_digit zero (suc zero) la lb = refl
xor_digit (suc zero) zero la lb = refl
xor_digit (suc zero) (suc zero) la lb = refl
xor_digit (suc (suc a)) b la lb = absurd (omega (arith, la))
xor_digit a (suc (suc b)) la lb = absurd (omega (arith, lb))

module _ (m n k : ℕ) where
  pub bit-or : bit (bit_or m n) k ≡ (bit m k || bit n k)
  bit-or = ap (λ d. eqb d 1) (bit_at_or m n k) ∙ or_digit (bit_at m k) (bit_at n k) (bit_at-lt m k) (bit_at-lt n k)

  pub bit-and : bit (bit_and m n) k ≡ (bit m k && bit n k)
  bit-and = ap (λ d. eqb d 1) (bit_at_and m n k) ∙ and_digit (bit_at m k) (bit_at n k) (bit_at-lt m k) (bit_at-lt n k)

  pub bit-xor : bit (bit_xor m n) k ≡ not (beq (bit m k) (bit n k))
  bit-xor = ap (λ d. eqb d 1) (bit_at_xor m n k) ∙ xor_digit (bit_at m k) (bit_at n k) (bit_at-lt m k) (bit_at-lt n k)

-- one of two is enough
pub or_first : (a b : Bool) → a ≡ true → (a || b) ≡ true
or_first true b h = refl
or_first false b h = absurd (false≢true h)

pub or_second : (a b : Bool) → b ≡ true → (a || b) ≡ true
or_second true b h = refl
or_second false b h = h
