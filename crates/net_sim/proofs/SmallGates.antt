-- The values of small gates, as the bits of words.
use Rattle.std.proofs.Common.{◌≡◌, ◌≢◌, ℕ, ◌+◌, ◌*◌, ◌%◌, ◌^◌, ◌<◌, ◌≤◌, inl, inr, Bool, true, false, List, length, take, w64, bit_or, sym, ◌∙◌, ap, arith}
use Rattle.std.proofs.Math.Nat.{pow-le-pow_right}
use Rattle.std.proofs.lemmas.Bool.{cases_lt}
use Rattle.std.proofs.lemmas.Nat.Bits.{bit_at_set_other, bit_at_set_same}
use Rattle.cubes.specs.Symbol.{bit, number_of, symbol_of}
use Rattle.cubes.specs.Laws.Bits.{bit_from_one, same_bits}
use Rattle.cubes.specs.Laws.Numbers.{number_below}
use Rattle.net_core.specs.declared.gate_order.NumberedGate.{NumberedGate}
use Rattle.net_sim.specs.declared.small_gates.SmallGate.{SmallGate}
use Rattle.net_sim.specs.Inner.GateValues.{bits_at, value_at, value_for}
use Rattle.net_sim.specs.Inner.Forms.{HasValues, IsSmall}
use Rattle.net_sim.proofs.FormValues.{bits_of_number, count_bits, number_within}

module _ (gate : NumberedGate) (number word : ℕ) (before : HasValues gate number word) where
  -- one value more, which is a one
  pub one_more : number < 64 → value_for gate (symbol_of (length gate.inputs.items) number) ≡ true → HasValues gate (number + 1) (bit_or word (1 * 2 ^ number % 2 ^ 64))
  one_more within one =
      let new : ℕ = bit_or word (1 * 2 ^ number % 2 ^ 64) in
      let other : (k : ℕ) → k ≢ number → bit new k ≡ bit word k = λ k differs. same_bits new word k k (bit_at_set_other w64 word number within k differs) in
      record {
        below = λ k lt.
            elim (cases_lt k number) [
              | inl earlier ↦ other k (omega (arith, earlier)) ∙ before.below k earlier
              | inr from ↦
                  let same : k ≡ number = omega arith in
                  ap (bit new) same
                  ∙ (bit_from_one new number (bit_at_set_same w64 word number within)
                  ∙ (sym one ∙ ap (λ (n : ℕ). value_for gate (symbol_of (length gate.inputs.items) n)) (sym same)))
            ];
        above = λ k le. other k (omega (arith, le)) ∙ before.above k (omega (arith, le));
      }

  -- one value more, which is a zero
  pub zero_more : value_for gate (symbol_of (length gate.inputs.items) number) ≡ false → HasValues gate (number + 1) word
  zero_more none =
      record {
        below = λ k lt.
            elim (cases_lt k number) [
              | inl earlier ↦ before.below k earlier
              | inr from ↦
                  let same : k ≡ number = omega arith in
                  before.above k from ∙ (sym none ∙ ap (λ (n : ℕ). value_for gate (symbol_of (length gate.inputs.items) n)) (sym same))
            ];
        above = λ k le. before.above k (omega (arith, le));
      }

-- the bit of a small gate at the number of its inputs is the value of the gate
pub value_of_small : (gate : NumberedGate) (small : SmallGate) (signals : List Bool) → IsSmall gate small → bit small.values (number_of (bits_at signals (take small.count small.inputs))) ≡ value_at signals gate
value_of_small gate small signals is =
    let number : ℕ = number_of (bits_at signals (take small.count small.inputs)) in
    let at : number ≡ number_of (bits_at signals gate.inputs.items) = ap (λ (numbers : List ℕ). number_of (bits_at signals numbers)) is.inputs in
    is.values.below number (number_within gate signals number at) ∙ bits_of_number gate signals number at

-- the number of at most six bits is the place of a bit of a word
pub below_word : (count number : ℕ) → count ≤ 6 → number < 2 ^ count → number < 64
below_word count number few below = let most : 2 ^ count ≤ 2 ^ 6 = pow-le-pow_right {n = 2} (omega arith) {i = count} {j = 6} (omega arith) in omega (arith, below, most)

pub word_place : (signals : List Bool) (numbers : List ℕ) (number : ℕ) → length numbers ≤ 6 → number ≡ number_of (bits_at signals numbers) → number < 64
word_place signals numbers number few is =
    let held : List Bool = bits_at signals numbers in
    below_word (length held) number (omega (arith, few, count_bits signals numbers)) (omega (arith, is, number_below held))
