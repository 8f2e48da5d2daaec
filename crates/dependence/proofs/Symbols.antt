-- Symbols place by place, and symbols of two cubes that differ at one place alone.
use Rattle.std.proofs.Common.{◌≡◌, ◌≢◌, ◌∙◌, ◌⊎◌, ℕ, zero, suc, ◌+◌, ◌-◌, ◌*◌, ◌%◌, ◌^◌, ◌<◌, ◌≤◌, min, max, Some, inl, inr, ap, sym, subst, arith, add-one, bit_and, bit_or, w64}
use Rattle.std.proofs.lemmas.Bool.{cases_eq, cases_lt, cases_order}
use Rattle.std.proofs.lemmas.Option.{same_Some, slice_get_past}
use Rattle.std.proofs.lemmas.Nat.Bits.{bit_at-lt, bit_at-pow_other, bit_at-pow_same, bit_at-zero, bit_at_above, bit_at_clear_other, bit_at_clear_same, bit_at_or, same_from_bits}
use Rattle.std.proofs.Math.Pow.{pow-lt}
use Rattle.std.specs.Int.{bit_at, bit_not}
use Rattle.std.specs.List.{slice_get}
use Rattle.cubes.specs.Cube.{clash_of}
use Rattle.cubes.specs.declared.cube.Cube.{Cube}
use Rattle.cubes.specs.Symbol.{bit, symbol_of}
use Rattle.cubes.specs.Laws.Bits.{bit_from_one, one_from_bit, same_bits, same_digits}
use Rattle.cubes.specs.Laws.Held.{Agrees}
use Rattle.cubes.specs.Laws.Meeting.{clash_digit, kept_digit}
use Rattle.cubes.specs.Laws.Numbers.{length-symbol_of, pow-suc}
use Rattle.dependence.specs.Inputs.{DifferAlone}

-- ---- one place of two cubes, by its digits
digits_first : (a b v w : ℕ) → a < 2 → b < 2 → v < 2 → w < 2 → min (min ((v + w) % 2) a) b ≡ 0 → w ≡ min b w → a ≡ 1 → v ≡ max v w
digits_first a b v w la lb lv lw clash kept one = grind arith

digits_second : (a b v w : ℕ) → a < 2 → b < 2 → v < 2 → w < 2 → min (min ((v + w) % 2) a) b ≡ 0 → v ≡ min a v → b ≡ 1 → w ≡ max v w
digits_second a b v w la lb lv lw clash kept one = grind arith

digits_same : (a b v w x : ℕ) → a < 2 → b < 2 → x < 2 → (a ≡ 1 → v ≡ x) → (b ≡ 1 → w ≡ x) → min (min ((v + w) % 2) a) b ≡ 0
digits_same a b v w x la lb lx first second = grind arith

-- the bit of a symbol that stands for input a
pub symbol_at : (places n a p : ℕ) → p + a + 1 ≡ places → slice_get (symbol_of places n) a ≡ Some (bit n p)
unfolding symbol_of
symbol_at zero n a p at = absurd (omega (arith, at))
symbol_at (suc q) n zero p at = let here : q ≡ p = omega (arith, at) in ap (λ (k : ℕ). Some (bit n k)) here
symbol_at (suc q) n (suc a) p at = symbol_at q n a p (omega (arith, at))

-- powers of two are equal at equal places alone
pub one_place : (p q : ℕ) → 2 ^ p ≡ 2 ^ q → p ≡ q
one_place p q same =
    elim (cases_order p q) [
      | inl at ↦ at
      | inr apart ↦ elim apart [
        | inl below ↦ absurd (omega (arith, pow-lt below, same))
        | inr above ↦ absurd (omega (arith, pow-lt above, same))
      ]
    ]

-- the one power of two between a power and its double
pub power_between : (n p q : ℕ) → n ≡ 2 ^ p → 2 ^ q ≤ n → n < 2 * 2 ^ q → p ≡ q
power_between n p q is low high =
    elim (cases_order p q) [
      | inl at ↦ at
      | inr apart ↦ elim apart [
        | inl below ↦ absurd (omega (arith, pow-lt below, is, low))
        | inr above ↦ elim (cases_order (q + 1) p) [
          | inl next ↦
              let double : 2 ^ p ≡ 2 ^ q + 2 ^ q = ap (λ (k : ℕ). 2 ^ k) (sym next ∙ add-one q) ∙ pow-suc q in
              absurd (omega (arith, double, is, high))
          | inr farther ↦ elim farther [
            | inl over ↦
                let double : 2 ^ (q + 1) ≡ 2 ^ q + 2 ^ q = ap (λ (k : ℕ). 2 ^ k) (add-one q) ∙ pow-suc q in
                absurd (omega (arith, double, pow-lt over, is, high))
            | inr under ↦ absurd (omega (arith, under, above))
          ]
        ]
      ]
    ]

pub clash_turned : (c d : Cube) → clash_of c d ≡ clash_of d c
clash_turned c d = same_from_bits (clash_of c d) (clash_of d c) (λ k. each k) where
  each : (k : ℕ) → bit_at (clash_of c d) k ≡ bit_at (clash_of d c) k
  each k = omega (arith, clash_digit c d k, clash_digit d c k)

-- the place where cubes differ is one of the symbol's
pub clash_within : (c d : Cube) (p : ℕ) → clash_of c d ≡ 2 ^ p → p < c.width
clash_within c d p clash =
    elim (cases_lt p c.width) [
      | inl below ↦ below
      | inr above ↦
          let none : bit_at c.care p ≡ 0 = bit_at_above c.care c.width p c.care_in_width above in
          let one : bit_at (clash_of c d) p ≡ 1 = ap (λ n. bit_at n p) clash ∙ bit_at-pow_same p in
          absurd (omega (arith, none, one, clash_digit c d p))
    ]

-- the first symbol and the second one of cubes that differ at a place alone
pub record AreParted (c d : Cube) (p : ℕ) : Type 0 where
  pub x : ℕ
  pub y : ℕ
  pub first : Agrees c x
  pub second : Agrees d y
  pub there : bit x p ≢ bit y p
  pub elsewhere : (q : ℕ) → q < 64 → q ≢ p → bit x q ≡ bit y q

-- the number without a bit
abbrev cleared : ℕ → ℕ → ℕ
cleared n p = bit_and n (bit_not w64 (1 * 2 ^ p % 2 ^ 64))

module _ (c d : Cube) (p : ℕ) (clash : clash_of c d ≡ 2 ^ p) (small : p < 64) (one : bit_at c.value p ≡ 1) where
  no_clash : (q : ℕ) → q ≢ p → min (min ((bit_at c.value q + bit_at d.value q) % 2) (bit_at c.care q)) (bit_at d.care q) ≡ 0
  no_clash q other = sym (clash_digit c d q) ∙ ap (λ n. bit_at n q) clash ∙ bit_at-pow_other p q other

  second_none : bit_at d.value p ≡ 0
  second_none =
      let here : bit_at (clash_of c d) p ≡ 1 = ap (λ n. bit_at n p) clash ∙ bit_at-pow_same p in
      let digit : bit_at (clash_of c d) p ≡ min (min ((bit_at c.value p + bit_at d.value p) % 2) (bit_at c.care p)) (bit_at d.care p) = clash_digit c d p in
      let below : bit_at d.value p < 2 = bit_at-lt d.value p in
      omega (arith, here, digit, below, one)

  both_there : bit_at (bit_or c.value d.value) p ≡ 1
  both_there = omega (arith, bit_at_or c.value d.value p, one, second_none)

  agrees_first : Agrees c (bit_or c.value d.value)
  agrees_first q within cares =
      elim (cases_eq q p) [
        | inl at ↦ subst (λ (k : ℕ). bit c.value k ≡ bit (bit_or c.value d.value) k) (sym at) (same_bits c.value (bit_or c.value d.value) p p (one ∙ sym both_there))
        | inr other ↦
            same_bits c.value (bit_or c.value d.value) q q
            (digits_first (bit_at c.care q) (bit_at d.care q) (bit_at c.value q) (bit_at d.value q)
            (bit_at-lt c.care q) (bit_at-lt d.care q) (bit_at-lt c.value q) (bit_at-lt d.value q)
            (no_clash q other) (kept_digit d q) (one_from_bit c.care q cares)
            ∙ sym (bit_at_or c.value d.value q))
      ]

  agrees_second : Agrees d (cleared (bit_or c.value d.value) p)
  agrees_second q within cares =
      elim (cases_eq q p) [
        | inl at ↦ subst (λ (k : ℕ). bit d.value k ≡ bit (cleared (bit_or c.value d.value) p) k) (sym at) (same_bits d.value (cleared (bit_or c.value d.value) p) p p (second_none ∙ sym (bit_at_clear_same w64 (bit_or c.value d.value) p small)))
        | inr other ↦
            same_bits d.value (cleared (bit_or c.value d.value) p) q q
            (digits_second (bit_at c.care q) (bit_at d.care q) (bit_at c.value q) (bit_at d.value q)
            (bit_at-lt c.care q) (bit_at-lt d.care q) (bit_at-lt c.value q) (bit_at-lt d.value q)
            (no_clash q other) (kept_digit c q) (one_from_bit d.care q cares)
            ∙ sym (bit_at_or c.value d.value q)
            ∙ sym (bit_at_clear_other w64 (bit_or c.value d.value) p small q (omega (arith, within, d.width_bound)) other))
      ]

  parted_first : AreParted c d p
  parted_first = record {
    x = bit_or c.value d.value;
    y = cleared (bit_or c.value d.value) p;
    first = agrees_first;
    second = agrees_second;
    there = λ same. absurd (omega (arith, both_there, bit_at_clear_same w64 (bit_or c.value d.value) p small, same_digits (bit_or c.value d.value) (cleared (bit_or c.value d.value) p) p p same));
    elsewhere = λ q below other. same_bits (bit_or c.value d.value) (cleared (bit_or c.value d.value) p) q q (sym (bit_at_clear_other w64 (bit_or c.value d.value) p small q below other));
  }

-- the other way round
parted_turned : (c d : Cube) (p : ℕ) → AreParted d c p → AreParted c d p
parted_turned c d p turned = record {
  x = turned.y;
  y = turned.x;
  first = turned.second;
  second = turned.first;
  there = λ same. turned.there (sym same);
  elsewhere = λ q low other. sym (turned.elsewhere q low other);
}

-- each of two cubes that differ at a place alone holds a symbol, and the two symbols differ there alone
pub parted : (c d : Cube) (p : ℕ) → clash_of c d ≡ 2 ^ p → AreParted c d p
parted c d p clash =
    let small : p < 64 = omega (arith, clash_within c d p clash, c.width_bound) in
    elim (cases_eq (bit_at c.value p) 1) [
      | inl one ↦ parted_first c d p clash small one
      | inr none ↦
          let here : bit_at (clash_of c d) p ≡ 1 = ap (λ n. bit_at n p) clash ∙ bit_at-pow_same p in
          let digit : bit_at (clash_of c d) p ≡ min (min ((bit_at c.value p + bit_at d.value p) % 2) (bit_at c.care p)) (bit_at d.care p) = clash_digit c d p in
          let below : bit_at d.value p < 2 = bit_at-lt d.value p in
          let least : bit_at c.value p < 2 = bit_at-lt c.value p in
          let one : bit_at d.value p ≡ 1 = omega (arith, here, digit, below, least, none) in
          parted_turned c d p (parted_first d c p (clash_turned d c ∙ clash) small one)
    ]

-- symbols of numbers that differ at the place of input a alone
pub differ_alone : (places x y a p : ℕ) → places ≤ 64 → p + a + 1 ≡ places → bit x p ≢ bit y p → ((q : ℕ) → q < 64 → q ≢ p → bit x q ≡ bit y q) → DifferAlone a (symbol_of places x) (symbol_of places y)
differ_alone places x y a p few at there elsewhere = record {
  lengths = length-symbol_of places x ∙ sym (length-symbol_of places y);
  there = λ same. there (same_Some (bit x p) (bit y p) (sym (symbol_at places x a p at) ∙ same ∙ symbol_at places y a p at));
  elsewhere = λ c other. elim (cases_lt c places) [
    | inl within ↦
        let q : ℕ = places - 1 - c in
        let of_q : places - 1 - c + c + 1 ≡ places = omega (arith, within) in
        let apart : places - 1 - c ≢ p = λ same. other (omega (arith, same, of_q, at)) in
        symbol_at places x c (places - 1 - c) of_q ∙ ap Some (elsewhere (places - 1 - c) (omega (arith, within, few)) apart) ∙ sym (symbol_at places y c (places - 1 - c) of_q)
    | inr past ↦ slice_get_past (symbol_of places x) c (omega (arith, past, length-symbol_of places x)) ∙ sym (slice_get_past (symbol_of places y) c (omega (arith, past, length-symbol_of places y)))
  ];
}

-- two cubes that hold such symbols differ at that place alone, or they meet
pub clash_of-differing : (c d : Cube) (x y a p : ℕ) → d.width ≡ c.width → p + a + 1 ≡ c.width → DifferAlone a (symbol_of c.width x) (symbol_of c.width y) → Agrees c x → Agrees d y → (clash_of c d ≡ 0) ⊎ (clash_of c d ≡ 2 ^ p)
clash_of-differing c d x y a p widths at differ first second =
    elim (cases_eq (bit_at (clash_of c d) p) 1) [
      | inl one ↦ inr (same_from_bits (clash_of c d) (2 ^ p) (λ q. elim (cases_eq q p) [
        | inl here ↦ subst (λ (k : ℕ). bit_at (clash_of c d) k ≡ bit_at (2 ^ p) k) (sym here) (one ∙ sym (bit_at-pow_same p))
        | inr other ↦ none_there q other ∙ sym (bit_at-pow_other p q other)
      ]))
      | inr not_one ↦ inl (same_from_bits (clash_of c d) 0 (λ q. elim (cases_eq q p) [
        | inl here ↦ subst (λ (k : ℕ). bit_at (clash_of c d) k ≡ bit_at 0 k) (sym here) (omega (arith, not_one, bit_at-lt (clash_of c d) p, bit_at-zero p))
        | inr other ↦ none_there q other ∙ sym (bit_at-zero q)
      ]))
    ] where
      same_there : (q : ℕ) → q < c.width → q ≢ p → bit x q ≡ bit y q
      same_there q within other =
          let of_q : q + (c.width - 1 - q) + 1 ≡ c.width = omega (arith, within) in
          let apart : c.width - 1 - q ≢ a = λ same. other (omega (arith, same, of_q, at)) in
          same_Some (bit x q) (bit y q) (sym (symbol_at c.width x (c.width - 1 - q) q of_q) ∙ differ.elsewhere (c.width - 1 - q) apart ∙ symbol_at c.width y (c.width - 1 - q) q of_q)

      none_there : (q : ℕ) → q ≢ p → bit_at (clash_of c d) q ≡ 0
      none_there q other =
          elim (cases_lt q c.width) [
            | inl within ↦
                clash_digit c d q
                ∙ digits_same (bit_at c.care q) (bit_at d.care q) (bit_at c.value q) (bit_at d.value q) (bit_at x q)
                (bit_at-lt c.care q) (bit_at-lt d.care q) (bit_at-lt x q)
                (λ cares. same_digits c.value x q q (first q within (bit_from_one c.care q cares)))
                (λ cares. same_digits d.value x q q (second q (omega (arith, within, widths)) (bit_from_one d.care q cares) ∙ sym (same_there q within other)))
            | inr above ↦
                let none : bit_at c.care q ≡ 0 = bit_at_above c.care c.width q c.care_in_width above in
                omega (arith, clash_digit c d q, none)
          ]
