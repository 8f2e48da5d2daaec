-- A number by its lowest bits.
use Rattle.std.proofs.Common.{◌≡◌, ℕ, zero, suc, ◌+◌, ◌*◌, ◌^◌, ◌<◌, Bool, true, false, cond, inl, inr, ◌∙◌, subst, refl, arith}
use Rattle.std.proofs.lemmas.Bool.{cases_lt}
use Rattle.std.proofs.lemmas.Nat.Bits.{bit_at_cat_low}
use Rattle.cubes.specs.Symbol.{bit}
use Rattle.cubes.specs.Laws.Bits.{same_bits}
use Rattle.cubes.specs.Laws.Numbers.{bit-above, bit-top, pow-suc}

-- the number that has these bits at so many lowest places, and none above
pub chosen : (ℕ → Bool) → ℕ → ℕ
chosen bits zero = 0
chosen bits (suc places) = cond (bits places) (2 ^ places + chosen bits places) (chosen bits places)

module _ (bits : ℕ → Bool) where
  one_more : (places : ℕ) → (b : Bool) → chosen bits places < 2 ^ places → cond b (2 ^ places + chosen bits places) (chosen bits places) < 2 ^ suc places
  one_more places true lt = omega (arith, lt, pow-suc places)
  one_more places false lt = omega (arith, lt, pow-suc places)

  pub chosen-below : (places : ℕ) → chosen bits places < 2 ^ places
  unfolding chosen
  chosen-below zero = omega arith
  chosen-below (suc places) = one_more places (bits places) (chosen-below places)

  top_bit : (places : ℕ) (b : Bool) → bit (cond b (2 ^ places + chosen bits places) (chosen bits places)) places ≡ b
  top_bit places true = bit-top places (chosen bits places) (chosen-below places)
  top_bit places false = bit-above places (chosen bits places) (chosen-below places)

  low_bit : (places k : ℕ) (b : Bool) → k < places → bit (cond b (2 ^ places + chosen bits places) (chosen bits places)) k ≡ bit (chosen bits places) k
  low_bit places k true lt =
      let factor : 1 * 2 ^ places + chosen bits places ≡ 2 ^ places + chosen bits places = omega arith in
      same_bits (2 ^ places + chosen bits places) (chosen bits places) k k (rw factor at (bit_at_cat_low 1 places (chosen bits places) k lt))
  low_bit places k false lt = refl

  pub chosen-bit : (places k : ℕ) → k < places → bit (chosen bits places) k ≡ bits k
  unfolding chosen
  chosen-bit zero k lt = absurd (omega (arith, lt))
  chosen-bit (suc places) k lt =
      elim (cases_lt k places) [
        | inl below ↦ low_bit places k (bits places) below ∙ chosen-bit places k below
        | inr above ↦
            let here : places ≡ k = omega arith in
            subst (λ j. bit (cond (bits places) (2 ^ places + chosen bits places) (chosen bits places)) j ≡ bits j) here (top_bit places (bits places))
      ]
