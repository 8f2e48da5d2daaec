-- Cubes without dashes: the field is that of one symbol.
use Rattle.std.proofs.Common.{◌≡◌, ℕ, zero, suc, ◌+◌, ◌-◌, ◌*◌, ◌^◌, ◌<◌, ◌≤◌, Bool, true, false, cond, Some, bit_and, map, refl, sym, subst, ap, ◌∙◌, arith}
use Rattle.std.proofs.Math.Nat.{mod-eq_of_lt, pow-le-pow_right}
use Rattle.std.proofs.Math.Pow.{pow_pos}
use Rattle.std.proofs.lemmas.Nat.{and_comm, and_mask}
use Rattle.std.proofs.lemmas.Nat.Bits.{bit_at_ones}
use Rattle.std.specs.Int.{from_bool}
use Rattle.cubes.specs.Field.{characters}
use Rattle.cubes.specs.Symbol.{bit, symbol_of}
use Rattle.cubes.specs.Laws.Bits.{bit_from_one}

-- there are few symbols
pub few_symbols : (k : ℕ) → k ≤ 8 → 2 ^ k ≤ 256
few_symbols k few = let two : 0 < 2 = omega arith in pow-le-pow_right two few

-- the mask of the lowest bits
pub mask_within : (k care : ℕ) → care ≡ 2 ^ k - 1 → care < 2 ^ k
mask_within k care is = let some : 0 < 2 ^ k = pow_pos k in omega arith

pub value_in_mask : (k x care value : ℕ) → care ≡ 2 ^ k - 1 → value ≡ x → x < 2 ^ k → bit_and care value ≡ value
value_in_mask k x care value full is within =
    ap (λ m. bit_and m value) full ∙ and_comm (2 ^ k - 1) value ∙ and_mask value k
    ∙ mod-eq_of_lt (subst (λ n. n < 2 ^ k) (sym is) within)

-- where the mask has each place, no character is a dash
fields_below : (k x places : ℕ) → places ≤ k → characters places (2 ^ k - 1) x ≡ map Some (symbol_of places x)
unfolding characters symbol_of
fields_below k x zero within = refl
fields_below k x (suc places) within =
    let here : bit (2 ^ k - 1) places ≡ true = bit_from_one (2 ^ k - 1) places (bit_at_ones k places (omega arith)) in
    rw (here, fields_below k x places (omega arith)) refl

pub field_of_symbol : (k x care value : ℕ) → care ≡ 2 ^ k - 1 → value ≡ x → characters k care value ≡ map Some (symbol_of k x)
field_of_symbol k x care value full is =
    ap (λ m. characters k m value) full ∙ ap (characters k (2 ^ k - 1)) is ∙ fields_below k x k (omega arith)

-- two bits, output 0 at 1 and output 1 at 2
pub two_bits : (p q : Bool) (m n : ℕ) → m ≡ from_bool p → n ≡ from_bool q → m + 2 * n ≡ cond p 1 0 + cond q 2 0
two_bits true true m n h i = rw (h, i) refl
two_bits true false m n h i = rw (h, i) refl
two_bits false true m n h i = rw (h, i) refl
two_bits false false m n h i = rw (h, i) refl
