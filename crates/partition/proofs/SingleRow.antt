-- The table of powers of two between zeros, and the rows with one bit that it holds.
use Rattle.std.proofs.Common.{◌≡◌, ◌≢◌, ℕ, zero, suc, ◌+◌, ◌-◌, ◌/◌, ◌%◌, ◌^◌, ◌<◌, ◌≤◌, ◌↔◌, List, [], ◌∷◌, ◌++◌, length, get_or, take, drop, refl, sym, ap, ◌∙◌, inl, inr, arith}
use Rattle.std.proofs.lemmas.Bool.{cases_eq, cases_lt}
use Rattle.std.proofs.lemmas.List.{get_or-take, get_or-drop, get_or_push, get_or_append_left, length_push, length-take}
use Rattle.std.proofs.lemmas.Nat.Bits.{bit_at-zero, bit_at-pow_same, bit_at-pow_other}
use Rattle.std.specs.Int.{bit_at}
use Rattle.partition.specs.Bits.{bit_of}
use Rattle.partition.specs.Inner.Rows.{Has}
use Rattle.partition.specs.declared.bits.single_rows.TheConstants.{POWERS}
use Rattle.partition.proofs.Words.{bit_of_past, same_bit}

abbrev pub line : ℕ → List ℕ
line b = 0 ∷ 0 ∷ 0 ∷ 2 ^ b ∷ 0 ∷ 0 ∷ 0 ∷ []

abbrev lines : ℕ → List (List ℕ)
lines zero = []
lines (suc n) = lines n ++ line n ∷ []

length-lines : (n : ℕ) → length (lines n) ≡ n
length-lines zero = refl
length-lines (suc n) = omega (arith, length_push (lines n) (line n), length-lines n)

lines_at : (n b : ℕ) → b < n → get_or (lines n) b [] ≡ line b
lines_at zero b within = absurd (omega arith)
lines_at (suc n) b within =
    elim (cases_eq b n) [
      | inl at ↦ get_or_push (lines n) (line n) [] b (length-lines n ∙ sym at) ∙ ap line (sym at)
      | inr other ↦ get_or_append_left (lines n) (line n ∷ []) [] b (omega (arith, length-lines n)) ∙ lines_at n b (omega arith)
    ]

are_lines : POWERS ≡ lines 64
are_lines = refl

pub POWERS_at : (b : ℕ) → b < 64 → get_or POWERS b [] ≡ line b
POWERS_at b within = ap (λ (table : List (List ℕ)). get_or table b []) are_lines ∙ lines_at 64 b within

zero_beside : (b k : ℕ) → k ≢ 3 → get_or (line b) k 0 ≡ 0
zero_beside b zero other = refl
zero_beside b (suc zero) other = refl
zero_beside b (suc (suc zero)) other = refl
zero_beside b (suc (suc (suc zero))) other = absurd (other refl)
zero_beside b (suc (suc (suc (suc zero)))) other = refl
zero_beside b (suc (suc (suc (suc (suc zero))))) other = refl
zero_beside b (suc (suc (suc (suc (suc (suc zero)))))) other = refl
zero_beside b (suc (suc (suc (suc (suc (suc (suc k))))))) other = refl

-- as many words of a line as a row has, from the place that brings the power into the word of s
pub one_bit : (s width t : ℕ) → width ≤ 4 → s / 64 < width → Has (take (3 - s / 64 + width - (3 - s / 64)) (drop (3 - s / 64) (get_or POWERS (s % 64) []))) t ↔ (t ≡ s)
one_bit s width t few within = (
  (λ on. elim (cases_lt (t / 64) width) [
    | inl inside ↦ elim (cases_eq (t / 64) (s / 64)) [
      | inl here ↦ elim (cases_eq (t % 64) (s % 64)) [
        | inl same ↦ same_bit t s here same
        | inr other ↦ absurd (omega (arith, on, bit inside, ap (λ (word : ℕ). bit_at word (t % 64)) (power here), bit_at-pow_other (s % 64) (t % 64) other))
      ]
      | inr apart ↦ absurd (omega (arith, on, bit inside, ap (λ (word : ℕ). bit_at word (t % 64)) (zero_beside (s % 64) (3 - s / 64 + t / 64) (λ same. absurd (omega (arith, apart, within, few, same)))), bit_at-zero (t % 64)))
    ]
    | inr past ↦ absurd (omega (arith, on, bit_of_past row t (omega (arith, past, short))))
  ]),
  (λ same. bit (omega (arith, within, same)) ∙ ap (λ (word : ℕ). bit_at word (t % 64)) (power (ap (λ (k : ℕ). k / 64) same)) ∙ ap (λ (k : ℕ). bit_at (2 ^ (s % 64)) (k % 64)) same ∙ bit_at-pow_same (s % 64)),
)
  where
    row : List ℕ
    row = take (3 - s / 64 + width - (3 - s / 64)) (drop (3 - s / 64) (get_or POWERS (s % 64) []))

    short : length row ≤ width
    short = omega (arith, length-take {A = ℕ} (3 - s / 64 + width - (3 - s / 64)) (drop (3 - s / 64) (get_or POWERS (s % 64) [])))

    bit : t / 64 < width → bit_of row t ≡ bit_at (get_or (line (s % 64)) (3 - s / 64 + t / 64) 0) (t % 64)
    bit inside =
        ap (λ (word : ℕ). bit_at word (t % 64))
        (get_or-take (3 - s / 64 + width - (3 - s / 64)) (drop (3 - s / 64) (get_or POWERS (s % 64) [])) (t / 64) 0 (omega arith)
        ∙ get_or-drop (3 - s / 64) (get_or POWERS (s % 64) []) (t / 64) 0
        ∙ ap (λ (words : List ℕ). get_or words (3 - s / 64 + t / 64) 0) (POWERS_at (s % 64) (omega arith)))

    power : t / 64 ≡ s / 64 → get_or (line (s % 64)) (3 - s / 64 + t / 64) 0 ≡ 2 ^ (s % 64)
    power here = let at : 3 - s / 64 + t / 64 ≡ 3 = omega arith in ap (λ (k : ℕ). get_or (line (s % 64)) k 0) at
