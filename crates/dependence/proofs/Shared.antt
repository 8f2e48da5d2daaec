-- Places at which all of some rows have one bit.
use Rattle.std.proofs.Common.{◌≡◌, ◌≢◌, ◌∙◌, ◌⊎◌, ℕ, ◌+◌, ◌^◌, ◌<◌, ◌%◌, min, max, All, List, inl, inr, ap, sym, subst, arith, bit_and, bit_or}
use Rattle.std.proofs.lemmas.Bool.{cases_eq}
use Rattle.std.proofs.lemmas.List.Elements.{All-contains}
use Rattle.std.proofs.lemmas.Nat.Bits.{bit_at-lt, bit_at-pow_other, bit_at-pow_same, bit_at-zero, bit_at_and, bit_at_or, bit_at_xor, same_from_bits}
use Rattle.std.specs.Int.{bit_at}
use Rattle.std.specs.Int.RustNames.{bit_xor}
use Rattle.cubes.specs.Cube.{clash_of}
use Rattle.cubes.specs.Laws.Meeting.{clash_digit, kept_digit}
use Rattle.kiss_file.specs.declared.file.KissRow.{KissRow}
use Rattle.dependence.specs.Inner.Effects.{DifferMore, HasBits}
use Rattle.dependence.proofs.Symbols.{clash_turned}

-- fewer places
pub fewer_bits : (ones zeros more others : ℕ) (row : KissRow) → HasBits ones zeros row → HasBits (bit_and ones more) (bit_and zeros others) row
fewer_bits ones zeros more others row has = record {
  has_ones = λ place is. has.has_ones place (omega (arith, is, bit_at_and ones more place, bit_at-lt ones place));
  has_zeros = λ place is. has.has_zeros place (omega (arith, is, bit_at_and zeros others place, bit_at-lt zeros place));
}

-- the row's own places
pub own_bits : (ones zeros : ℕ) (row : KissRow) → HasBits (bit_and ones row.cube.value) (bit_and zeros (bit_xor row.cube.care row.cube.value)) row
own_bits ones zeros row = record {
  has_ones = λ place is. omega (arith, is, bit_at_and ones row.cube.value place, bit_at-lt row.cube.value place);
  has_zeros = λ place is. omega (arith, is, bit_at_and zeros (bit_xor row.cube.care row.cube.value) place, bit_at-lt (bit_xor row.cube.care row.cube.value) place);
}

digits_clash : (a b v w : ℕ) → a < 2 → b < 2 → v < 2 → w < 2 → v ≡ min a v → w ≡ min b w → v ≡ 1 → (b + w) % 2 ≡ 1 → min (min ((w + v) % 2) b) a ≡ 1
digits_clash a b v w la lb lv lw kept_v kept_w one zero = grind arith

module _ (ones zeros more others : ℕ) (row other : KissRow) (first : HasBits ones zeros row) (second : HasBits more others other) where
  -- one has a 1 and the other a 0
  both_clash : (place : ℕ) → bit_at row.cube.value place ≡ 1 → bit_at (bit_xor other.cube.care other.cube.value) place ≡ 1 → bit_at (clash_of other.cube row.cube) place ≡ 1
  both_clash place one zero =
      clash_digit other.cube row.cube place
      ∙ digits_clash (bit_at row.cube.care place) (bit_at other.cube.care place) (bit_at row.cube.value place) (bit_at other.cube.value place)
      (bit_at-lt row.cube.care place) (bit_at-lt other.cube.care place) (bit_at-lt row.cube.value place) (bit_at-lt other.cube.value place)
      (kept_digit row.cube place) (kept_digit other.cube place) one (sym (bit_at_xor other.cube.care other.cube.value place) ∙ zero)

-- the places that the two lists of places say
abbrev pub places_apart : ℕ → ℕ → ℕ → ℕ → ℕ
places_apart ones zeros more others = bit_or (bit_and ones others) (bit_and zeros more)

apart_clash : (ones zeros more others : ℕ) (row other : KissRow) → HasBits ones zeros row → HasBits more others other → (place : ℕ) → bit_at (places_apart ones zeros more others) place ≡ 1 → bit_at (clash_of other.cube row.cube) place ≡ 1
apart_clash ones zeros more others row other first second place is =
    let digit : bit_at (places_apart ones zeros more others) place ≡ max (min (bit_at ones place) (bit_at others place)) (min (bit_at zeros place) (bit_at more place)) =
    bit_at_or (bit_and ones others) (bit_and zeros more) place ∙ ap (λ n. max n (bit_at (bit_and zeros more) place)) (bit_at_and ones others place) ∙ ap (λ n. max (min (bit_at ones place) (bit_at others place)) n) (bit_at_and zeros more place) in
    elim (cases_eq (min (bit_at ones place) (bit_at others place)) 1) [
      | inl one ↦
          both_clash ones zeros more others row other first second place
          (first.has_ones place (omega (arith, one, bit_at-lt ones place)))
          (second.has_zeros place (omega (arith, one, bit_at-lt others place)))
      | inr none ↦
          ap (λ n. bit_at n place) (clash_turned other.cube row.cube)
          ∙ both_clash more others ones zeros other row second first place
          (second.has_ones place (omega (arith, digit, is, none, bit_at-lt ones place, bit_at-lt others place, bit_at-lt zeros place, bit_at-lt more place)))
          (first.has_zeros place (omega (arith, digit, is, none, bit_at-lt ones place, bit_at-lt others place, bit_at-lt zeros place, bit_at-lt more place)))
    ]

-- a word whose bits are all among those of a power of two
within_power : (n p : ℕ) → ((place : ℕ) → bit_at n place ≡ 1 → bit_at (2 ^ p) place ≡ 1) → (n ≡ 0) ⊎ (n ≡ 2 ^ p)
within_power n p within =
    elim (cases_eq (bit_at n p) 1) [
      | inl one ↦ inr (same_from_bits n (2 ^ p) (λ q. elim (cases_eq q p) [
        | inl here ↦ subst (λ (k : ℕ). bit_at n k ≡ bit_at (2 ^ p) k) (sym here) (one ∙ sym (bit_at-pow_same p))
        | inr other ↦ none_there q other ∙ sym (bit_at-pow_other p q other)
      ]))
      | inr not_one ↦ inl (same_from_bits n 0 (λ q. elim (cases_eq q p) [
        | inl here ↦ subst (λ (k : ℕ). bit_at n k ≡ bit_at 0 k) (sym here) (omega (arith, not_one, bit_at-lt n p, bit_at-zero p))
        | inr other ↦ none_there q other ∙ sym (bit_at-zero q)
      ]))
    ] where
      none_there : (q : ℕ) → q ≢ p → bit_at n q ≡ 0
      none_there q other = elim (cases_eq (bit_at n q) 1) [
        | inl one ↦ absurd (omega (arith, within q one, bit_at-pow_other p q other))
        | inr not_one ↦ omega (arith, not_one, bit_at-lt n q)
      ]

-- where the lists of places say two places or more, no two rows differ at one alone
pub differ_more : (ones zeros more others : ℕ) (rows rest : List KissRow) → All (HasBits ones zeros) rows → All (HasBits more others) rest
    → places_apart ones zeros more others ≢ 0 → ((place : ℕ) → places_apart ones zeros more others ≢ 2 ^ place) → DifferMore rows rest
differ_more ones zeros more others rows rest first second some several row other place in_first in_second clash =
    elim (within_power (places_apart ones zeros more others) place (λ q is. ap (λ n. bit_at n q) (sym clash) ∙
    apart_clash ones zeros more others row other (All-contains (HasBits ones zeros) rows row first in_first) (All-contains (HasBits more others) rest other second in_second) q is)) [
      | inl none ↦ some none
      | inr one ↦ several place one
    ]
