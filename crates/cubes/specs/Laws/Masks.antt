-- What the masks of the code say of each place.
use Rattle.std.proofs.Common.{◌≡◌, ℕ, ◌^◌, ◌<◌, min, inl, inr, ap, sym, ◌∙◌, arith, bit_and}
use Rattle.std.proofs.lemmas.Bool.{cases_Bool, cases_lt}
use Rattle.std.proofs.lemmas.Nat.Bits.{bit_at_and, bit_at-lt, bit_at_above, same_from_bits}
use Rattle.std.specs.Int.{bit_at}
use Rattle.cubes.specs.Symbol.{bit}
use Rattle.cubes.specs.Laws.Bits.{one_from_bit, zero_from_bit, same_digits, same_bits}
use Rattle.cubes.specs.Laws.Places.{AgreesAt}

module _ (places care value number : ℕ) where
  pub agrees_from_mask : bit_and number care ≡ value → AgreesAt places care value number
  agrees_from_mask e k lt cares =
      let digit : bit_at value k ≡ min (bit_at number k) (bit_at care k) = sym (ap (λ n. bit_at n k) e) ∙ bit_at_and number care k in
      let one : bit_at care k ≡ 1 = one_from_bit care k cares in
      let below : bit_at number k < 2 = bit_at-lt number k in
      same_bits value number k k (grind (arith, digit, one, below))

  pub mask_from_agrees : bit_and care value ≡ value → care < 2 ^ places → AgreesAt places care value number → bit_and number care ≡ value
  mask_from_agrees inside below agrees = same_from_bits (bit_and number care) value each where
    each : (k : ℕ) → bit_at (bit_and number care) k ≡ bit_at value k
    each k =
        let masked : bit_at (bit_and number care) k ≡ min (bit_at number k) (bit_at care k) = bit_at_and number care k in
        let kept : bit_at value k ≡ min (bit_at care k) (bit_at value k) = sym (ap (λ n. bit_at n k) inside) ∙ bit_at_and care value k in
        let small : bit_at number k < 2 = bit_at-lt number k in
        elim (cases_Bool (bit care k)) [
          | inl cares ↦
              elim (cases_lt k places) [
                | inl lt ↦
                    let one : bit_at care k ≡ 1 = one_from_bit care k cares in
                    let same : bit_at value k ≡ bit_at number k = same_digits value number k k (agrees k lt cares) in
                    grind (arith, masked, one, same, small)
                | inr high ↦
                    let none : bit_at care k ≡ 0 = bit_at_above care places k below high in
                    grind (arith, masked, kept, none)
              ]
          | inr dash ↦
              let none : bit_at care k ≡ 0 = zero_from_bit care k dash in
              grind (arith, masked, kept, none)
        ]
