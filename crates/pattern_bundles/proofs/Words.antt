-- The bits of words.
use Rattle.std.proofs.Common.{◌≡◌, ℕ, ◌+◌, ◌-◌, ◌*◌, ◌%◌, ◌/◌, ◌^◌, ◌<◌, ◌≤◌, ◌∙◌, bit_and, bit_or, ap, sym, inl, inr, arith}
use Rattle.std.specs.Int.{bit_at, bit_not, trailing_zeros, w64}
use Rattle.std.proofs.Math.Nat.{lt-div-mul-add, zero-mul}
use Rattle.std.proofs.lemmas.Bool.{cases_eq, cases_lt}
use Rattle.std.proofs.lemmas.Nat.{and_le_l, pow_pos}
use Rattle.std.proofs.lemmas.Nat.Bits.{bit_at-lt, bit_at-trailing_zeros, bit_at-zero, bit_at_above, bit_at_and, bit_at_clear_other, bit_at_clear_same, bit_at_ones, bit_at_ones_above, bit_at_or}
use Rattle.pattern_bundles.specs.Pattern.{IsFirstMark, IsWithoutMark}
use Rattle.pattern_bundles.specs.Inner.Plane.{AreFirst}

-- a bit that is not 1 is 0
pub zero_unless_one : (word k : ℕ) → (bit_at word k ≡ 1 → ⊥) → bit_at word k ≡ 0
zero_unless_one word k not_one = let below : bit_at word k < 2 = bit_at-lt word k in omega (arith, below, not_one)

pub zero_is_not_one : (word k : ℕ) → bit_at word k ≡ 0 → bit_at word k ≡ 1 → ⊥
zero_is_not_one word k none one = omega (arith, none, one)

pub none_of_zero : (k : ℕ) → bit_at 0 k ≡ 1 → ⊥
none_of_zero k one = zero_is_not_one 0 k (bit_at-zero k) one

pub first_mark : (word : ℕ) → 0 < word → word < 2 ^ 64 → IsFirstMark word (trailing_zeros w64 word)
first_mark word some fits = let h = bit_at-trailing_zeros w64 word some fits in record { marked = h.1; below = h.0; before = h.2 }

pub without_mark : (word k : ℕ) → k < 64 → bit_at word k ≡ 1 → word < 2 ^ 64 → IsWithoutMark word k (bit_and word (bit_not w64 (1 * 2 ^ k % 2 ^ 64)))
without_mark word k within one fits = record {
  taken = bit_at_clear_same w64 word k within;
  kept = λ i other.
      elim (cases_lt i 64) [
        | inl low ↦ bit_at_clear_other w64 word k within i low other
        | inr high ↦
            let none : bit_at word i ≡ 0 = bit_at_above word 64 i fits high in
            let masked = bit_at_and word (bit_not w64 (1 * 2 ^ k % 2 ^ 64)) i in
            omega (arith, none, masked)
      ];
  less =
      elim (cases_eq (bit_and word (bit_not w64 (1 * 2 ^ k % 2 ^ 64))) word) [
        | inl same ↦ absurd (zero_is_not_one word k (sym (ap (λ m. bit_at m k) same) ∙ bit_at_clear_same w64 word k within) one)
        | inr other ↦ let le = and_le_l word (bit_not w64 (1 * 2 ^ k % 2 ^ 64)) in omega (arith, le)
      ];
}

pub first_ones : (count : ℕ) → AreFirst count (2 ^ count - 1)
first_ones count k = (
  λ one.
      elim (cases_lt k count) [
        | inl below ↦ below
        | inr above ↦ absurd (zero_is_not_one (2 ^ count - 1) k (bit_at_ones_above count k above) one)
      ],
  λ below. bit_at_ones count k below,
)

-- a word that is 0 when shifted has no bit from there on
pub none_above : (word places place : ℕ) → word / 2 ^ places ≡ 0 → places ≤ place → bit_at word place ≡ 0
none_above word places place none above = bit_at_above word places place (let all = lt-div-mul-add {a = word} {b = 2 ^ places} (pow_pos places) in small all) above where
  small : word < word / 2 ^ places * 2 ^ places + 2 ^ places → word < 2 ^ places
  small all = let whole : word / 2 ^ places * 2 ^ places ≡ 0 = ap (λ q. q * 2 ^ places) none ∙ zero-mul (2 ^ places) in omega (arith, all, whole)

pub or_first : (a b k : ℕ) → bit_at a k ≡ 1 → bit_at (bit_or a b) k ≡ 1
or_first a b k one = let both = bit_at_or a b k in let below = bit_at-lt b k in omega (arith, both, below, one)

pub or_second : (a b k : ℕ) → bit_at b k ≡ 1 → bit_at (bit_or a b) k ≡ 1
or_second a b k one = let both = bit_at_or a b k in let below = bit_at-lt a k in omega (arith, both, below, one)
