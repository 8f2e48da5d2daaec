-- Bits in four words.
use Rattle.std.proofs.Common.{◌≡◌, ◌≢◌, ℕ, zero, suc, ◌+◌, ◌*◌, ◌/◌, ◌%◌, ◌^◌, ◌<◌, ◌≤◌, List, length, get_or, set, refl, sym, ap, ◌∙◌, inl, inr, arith}
use Rattle.std.proofs.lemmas.Bool.{cases_eq, cases_lt}
use Rattle.std.proofs.lemmas.List.{get_or_past, get_or-set_same, get_or-set_other}
use Rattle.std.proofs.lemmas.Nat.Bits.{bit_at-zero, bit_at_set_same, bit_at_set_other, bit_at_clear_same, bit_at_clear_other, bit_at-trailing_zeros, bit_at-lt}
use Rattle.std.specs.Int.{bit_at, bit_not, trailing_zeros, w64}
use Rattle.std.specs.Int.RustNames.{bit_and, bit_or}
use Rattle.partition.specs.Bits.{bit_of}
use Rattle.partition.specs.Inner.Rows.{four_of}

-- a fact of each of four words
pub below_four : (P : ℕ → Type 0) → P 0 → P 1 → P 2 → P 3 → (i : ℕ) → i < 4 → P i
below_four P p0 p1 p2 p3 zero within = p0
below_four P p0 p1 p2 p3 (suc zero) within = p1
below_four P p0 p1 p2 p3 (suc (suc zero)) within = p2
below_four P p0 p1 p2 p3 (suc (suc (suc zero))) within = p3
below_four P p0 p1 p2 p3 (suc (suc (suc (suc i)))) within = absurd (omega arith)

-- a bit past the words is not set
pub bit_of_past : (words : List ℕ) (t : ℕ) → length words ≤ t / 64 → bit_of words t ≡ 0
bit_of_past words t past = ap (λ (word : ℕ). bit_at word (t % 64)) (get_or_past words (t / 64) 0 past) ∙ bit_at-zero (t % 64)

pub bit_of-lt : (words : List ℕ) (t : ℕ) → bit_of words t < 2
bit_of-lt words t = bit_at-lt (get_or words (t / 64) 0) (t % 64)

-- four words have the bits of fewer
pub bits_of_four : (words : List ℕ) (t : ℕ) → length words ≤ 4 → bit_of (four_of words) t ≡ bit_of words t
bits_of_four words t few =
    elim (cases_lt (t / 64) 4) [
      | inl inside ↦ below_four (λ (i : ℕ). bit_at (get_or (four_of words) i 0) (t % 64) ≡ bit_at (get_or words i 0) (t % 64)) refl refl refl refl (t / 64) inside
      | inr past ↦ bit_of_past (four_of words) t past ∙ sym (bit_of_past words t (omega arith))
    ]

-- two bits of words are one only where their words and places are
pub same_bit : (t u : ℕ) → t / 64 ≡ u / 64 → t % 64 ≡ u % 64 → t ≡ u
same_bit t u words places = omega arith

-- one word changed, at one of its bits
bit_changed : (words : List ℕ) (t word bit : ℕ) → t / 64 < length words → bit_at word (t % 64) ≡ bit → bit_of (set words (t / 64) word) t ≡ bit
bit_changed words t word bit within is = ap (λ (w : ℕ). bit_at w (t % 64)) (get_or-set_same words (t / 64) word 0 within) ∙ is

bit_kept : (words : List ℕ) (t u word : ℕ) → t / 64 < length words → u ≢ t → ((k : ℕ) → k < 64 → k ≢ t % 64 → bit_at word k ≡ bit_at (get_or words (t / 64) 0) k) → bit_of (set words (t / 64) word) u ≡ bit_of words u
bit_kept words t u word within other keeps =
    elim (cases_eq (u / 64) (t / 64)) [
      | inl at ↦ ap (λ (i : ℕ). bit_at (get_or (set words (t / 64) word) i 0) (u % 64)) at ∙ ap (λ (w : ℕ). bit_at w (u % 64)) (get_or-set_same words (t / 64) word 0 within) ∙ keeps (u % 64) (omega arith) (λ same. other (same_bit u t at same)) ∙ ap (λ (i : ℕ). bit_at (get_or words i 0) (u % 64)) (sym at)
      | inr apart ↦ ap (λ (w : ℕ). bit_at w (u % 64)) (get_or-set_other words (t / 64) (u / 64) word 0 apart)
    ]

-- the words with a bit set
abbrev pub with_bit : List ℕ → ℕ → List ℕ
with_bit words t = set words (t / 64) (bit_or (get_or words (t / 64) 0) (1 * 2 ^ (t % 64) % 2 ^ 64))

pub bit_set : (words : List ℕ) (t : ℕ) → t / 64 < length words → bit_of (with_bit words t) t ≡ 1
bit_set words t within = bit_changed words t _ 1 within (bit_at_set_same w64 (get_or words (t / 64) 0) (t % 64) (omega arith))

pub bits_set_other : (words : List ℕ) (t u : ℕ) → t / 64 < length words → u ≢ t → bit_of (with_bit words t) u ≡ bit_of words u
bits_set_other words t u within other = bit_kept words t u _ within other (λ k in_k differs. bit_at_set_other w64 (get_or words (t / 64) 0) (t % 64) (omega arith) k differs)

-- the words with a bit cleared
abbrev pub without_bit : List ℕ → ℕ → List ℕ
without_bit words t = set words (t / 64) (bit_and (get_or words (t / 64) 0) (bit_not w64 (1 * 2 ^ (t % 64) % 2 ^ 64)))

pub bit_cleared : (words : List ℕ) (t : ℕ) → t / 64 < length words → bit_of (without_bit words t) t ≡ 0
bit_cleared words t within = bit_changed words t _ 0 within (bit_at_clear_same w64 (get_or words (t / 64) 0) (t % 64) (omega arith))

pub bits_cleared_other : (words : List ℕ) (t u : ℕ) → t / 64 < length words → u ≢ t → bit_of (without_bit words t) u ≡ bit_of words u
bits_cleared_other words t u within other = bit_kept words t u _ within other (λ k in_k differs. bit_at_clear_other w64 (get_or words (t / 64) 0) (t % 64) (omega arith) k in_k differs)

-- the least bit of words that have none before word i
pub first_bit : (words : List ℕ) (i : ℕ) → ((j : ℕ) → j < i → get_or words j 0 ≡ 0) → get_or words i 0 ≢ 0 → get_or words i 0 < 2 ^ 64 → (bit_of words (i * 64 + trailing_zeros w64 (get_or words i 0)) ≡ 1) × ((u : ℕ) → u < i * 64 + trailing_zeros w64 (get_or words i 0) → bit_of words u ≡ 0)
first_bit words i none some small =
    let low = bit_at-trailing_zeros w64 (get_or words i 0) (omega arith) small in
    let k : ℕ = trailing_zeros w64 (get_or words i 0) in
    let at_word : (i * 64 + k) / 64 ≡ i = omega (arith, low.0) in
    let at_place : (i * 64 + k) % 64 ≡ k = omega (arith, low.0) in (
      ap (λ (j : ℕ). bit_at (get_or words j 0) ((i * 64 + k) % 64)) at_word ∙ ap (bit_at (get_or words i 0)) at_place ∙ low.1,
      λ u below. elim (cases_eq (u / 64) i) [
        | inl same ↦ ap (λ (j : ℕ). bit_at (get_or words j 0) (u % 64)) same ∙ low.2 (u % 64) (omega (arith, low.0))
        | inr other ↦ ap (λ (w : ℕ). bit_at w (u % 64)) (none (u / 64) (omega (arith, low.0))) ∙ bit_at-zero (u % 64)
      ],
    )

-- words of zeros have no bits
pub no_bits : (words : List ℕ) → ((j : ℕ) → j < length words → get_or words j 0 ≡ 0) → (t : ℕ) → bit_of words t ≡ 0
no_bits words none t =
    elim (cases_lt (t / 64) (length words)) [
      | inl inside ↦ ap (λ (w : ℕ). bit_at w (t % 64)) (none (t / 64) inside) ∙ bit_at-zero (t % 64)
      | inr past ↦ bit_of_past words t past
    ]
