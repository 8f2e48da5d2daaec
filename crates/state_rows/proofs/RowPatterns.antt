-- Rows as patterns: where the patterns of two rows agree.
use Rattle.std.proofs.Common.{◌≡◌, ◌≢◌, ℕ, zero, suc, ◌+◌, ◌%◌, ◌^◌, ◌<◌, ◌⊎◌, min, Option, Some, None, IfSome, inl, inr, ap, sym, ◌∙◌, subst, refl, arith, pow-suc}
use Rattle.std.specs.Int.{bit_at}
use Rattle.std.proofs.lemmas.Bool.{cases_eq, cases_lt}
use Rattle.std.proofs.lemmas.Nat.Bits.{bit_at-lt, bit_at-zero, bit_at_above, bit_at_ones, same_from_bits, same_from_bits_below}
use Rattle.cubes.specs.declared.cube.Cube.{Cube}
use Rattle.cubes.specs.Cube.{Meets, clash_of}
use Rattle.cubes.specs.Laws.Meeting.{clash_digit, clash_from_meets, meets_from_clash}
use Rattle.kiss_file.specs.declared.file.KissRow.{KissRow}
use Rattle.kiss_file.specs.Machine.{GiveBoth, NameTwo}
use Rattle.pattern_bundles.specs.Pattern.{Agree}
use Rattle.state_rows.specs.Bundles.{cube_pattern, next_pattern, output_pattern}
use Rattle.state_rows.specs.Laws.Marks.{none_of_zero}
use Rattle.state_rows.specs.Laws.Outputs as outputs

-- ---- bits
zero_unless_one : (n k : ℕ) → (bit_at n k ≡ 1 → ⊥) → bit_at n k ≡ 0
zero_unless_one n k not_one = let below = bit_at-lt n k in omega (arith, below, not_one)

above_own : (n : ℕ) → n < 2 ^ n
above_own zero = omega arith
above_own (suc n) = omega (arith, above_own n, pow-suc 2 n)

-- some bit is 1, or the lowest are all 0
some_bit : (n count : ℕ) → ((k : ℕ) × (bit_at n k ≡ 1)) ⊎ ((i : ℕ) → i < count → bit_at n i ≡ 0)
some_bit n zero = inr (λ i below. absurd (omega arith))
some_bit n (suc count) =
    elim (some_bit n count) [
      | inl found ↦ inl found
      | inr none ↦
          elim (cases_eq (bit_at n count) 1) [
            | inl one ↦ inl (count, one)
            | inr not_one ↦
                inr (λ i below.
                elim (cases_eq i count) [
                  | inl same ↦ ap (bit_at n) same ∙ zero_unless_one n count not_one
                  | inr other ↦ none i (omega (arith, below, other))
                ])
          ]
    ]

-- ---- cubes
no_clash : (a b v w : ℕ) → a < 2 → b < 2 → v < 2 → w < 2 → (a ≡ 1 → b ≡ 1 → v ≡ w) → min (min ((v + w) % 2) a) b ≡ 0
no_clash a b v w la lb lv lw same = grind arith

same_digits : (a b v w : ℕ) → v < 2 → w < 2 → a ≡ 1 → b ≡ 1 → min (min ((v + w) % 2) a) b ≡ 0 → v ≡ w
same_digits a b v w lv lw one also none = grind arith

module _ (c d : Cube) (widths : c.width ≡ d.width) where
  pub agree_from_meets : Meets c d → Agree (cube_pattern c) (cube_pattern d)
  agree_from_meets meets place one also =
      same_digits (bit_at c.care place) (bit_at d.care place) (bit_at c.value place) (bit_at d.value place) (bit_at-lt c.value place) (bit_at-lt d.value place) one also
      (sym (clash_digit c d place) ∙ ap (λ n. bit_at n place) (clash_from_meets c d widths meets) ∙ bit_at-zero place)

  pub meets_from_agree : Agree (cube_pattern c) (cube_pattern d) → Meets c d
  meets_from_agree agree =
      meets_from_clash c d widths
      (same_from_bits (clash_of c d) 0 (λ k.
      clash_digit c d k
      ∙ no_clash (bit_at c.care k) (bit_at d.care k) (bit_at c.value k) (bit_at d.value k)
      (bit_at-lt c.care k) (bit_at-lt d.care k) (bit_at-lt c.value k) (bit_at-lt d.value k) (agree k)
      ∙ sym (bit_at-zero k)))

-- ---- next states
two_or_agree : (a b : Option ℕ) → ((t u : ℕ) × (a ≡ Some t) × (b ≡ Some u) × (t ≢ u)) ⊎ Agree (next_pattern a) (next_pattern b)
two_or_agree None b = inr (λ place one also. absurd (none_of_zero place one))
two_or_agree (Some t) None = inr (λ place one also. absurd (none_of_zero place also))
two_or_agree (Some t) (Some u) =
    elim (cases_eq t u) [
      | inl same ↦ inr (λ place one also. ap (λ n. bit_at n place) same)
      | inr other ↦ inl (t, u, refl, refl, other)
    ]

pub one_from_agree : (a b : Option ℕ) (t u : ℕ) → IfSome a (λ n. n < 2 ^ 16) → IfSome b (λ n. n < 2 ^ 16) → a ≡ Some t → b ≡ Some u → Agree (next_pattern a) (next_pattern b) → t ≡ u
one_from_agree a b t u small also is is_other agree =
    let first : t < 2 ^ 16 = subst (λ (o : Option ℕ). IfSome o (λ n. n < 2 ^ 16)) is small in
    let second : u < 2 ^ 16 = subst (λ (o : Option ℕ). IfSome o (λ n. n < 2 ^ 16)) is_other also in
    let same : Agree (next_pattern (Some t)) (next_pattern (Some u)) =
    subst (λ (o : Option ℕ). Agree (next_pattern (Some t)) (next_pattern o)) is_other (subst (λ (o : Option ℕ). Agree (next_pattern o) (next_pattern b)) is agree) in
    same_from_bits_below 16 t u first second (λ i low. same i (bit_at_ones 16 i low) (bit_at_ones 16 i low))

-- ---- outputs
same_outputs : (a b v w : ℕ) → v < 2 → w < 2 → a ≡ 1 → b ≡ 1 → min (min a b) ((v + w) % 2) ≡ 0 → v ≡ w
same_outputs a b v w lv lw one also none = grind arith

no_output : (a b v w : ℕ) → a < 2 → b < 2 → v < 2 → w < 2 → (a ≡ 1 → b ≡ 1 → v ≡ w) → min (min a b) ((v + w) % 2) ≡ 0
no_output a b v w la lb lv lw same = grind arith

module _ (row other : KissRow) where
  agree_from_none : ((k : ℕ) → bit_at (outputs.clash_of row other) k ≡ 0) → Agree (output_pattern row) (output_pattern other)
  agree_from_none none place one also =
      same_outputs (bit_at row.care place) (bit_at other.care place) (bit_at row.value place) (bit_at other.value place)
      (bit_at-lt row.value place) (bit_at-lt other.value place) one also (sym (outputs.clash_digit row other place) ∙ none place)

  both_or_agree : (GiveBoth row other ⊎ GiveBoth other row) ⊎ Agree (output_pattern row) (output_pattern other)
  both_or_agree =
      let clash = outputs.clash_of row other in
      elim (some_bit clash clash) [
        | inl found ↦ inl (outputs.both_at row other found.0 found.1)
        | inr none ↦
            inr (agree_from_none (λ k.
            elim (cases_lt k clash) [
              | inl low ↦ none k low
              | inr high ↦ bit_at_above clash clash k (above_own clash) high
            ]))
      ]

  clash_from_agree : Agree (output_pattern row) (output_pattern other) → outputs.clash_of row other ≡ 0
  clash_from_agree agree =
      same_from_bits (outputs.clash_of row other) 0 (λ k.
      outputs.clash_digit row other k
      ∙ no_output (bit_at row.care k) (bit_at other.care k) (bit_at row.value k) (bit_at other.value k)
      (bit_at-lt row.care k) (bit_at-lt other.care k) (bit_at-lt row.value k) (bit_at-lt other.value k) (agree k)
      ∙ sym (bit_at-zero k))

  -- ---- what is said
  pub said_or_agree : (NameTwo row other ⊎ (GiveBoth row other ⊎ GiveBoth other row))
      ⊎ (Agree (next_pattern row.to) (next_pattern other.to) × Agree (output_pattern row) (output_pattern other))
  said_or_agree =
      elim (two_or_agree row.to other.to) [
        | inl two ↦ inl (inl two)
        | inr one ↦
            elim both_or_agree [
              | inl both ↦ inl (inr both)
              | inr agree ↦ inr (one, agree)
            ]
      ]

  pub not_both : IfSome row.to (λ n. n < 2 ^ 16) → IfSome other.to (λ n. n < 2 ^ 16) → NameTwo row other ⊎ (GiveBoth row other ⊎ GiveBoth other row)
      → Agree (next_pattern row.to) (next_pattern other.to) → Agree (output_pattern row) (output_pattern other) → ⊥
  not_both small also (inl (t, u, is, is_other, apart)) one agree = apart (one_from_agree row.to other.to t u small also is is_other one)
  not_both small also (inr (inl both)) one agree = outputs.clash_from_both row other both (clash_from_agree agree)
  not_both small also (inr (inr back)) one agree = outputs.clash_from_both_back row other back (clash_from_agree agree)
