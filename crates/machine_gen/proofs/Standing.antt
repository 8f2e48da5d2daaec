-- What stands in the rows of a machine of words: each row has a number, and each state and symbol a row.
use Rattle.std.proofs.Common.{◌≡◌, ℕ, ◌+◌, ◌*◌, ◌/◌, ◌%◌, ◌^◌, ◌<◌, ◌≤◌, Bool, true, false, cond, Option, Some, List, [], ◌∷◌, Contains, length, map, slice_get, inl, inr, refl, sym, subst, ap, ◌∙◌, arith}
use Rattle.std.proofs.Math.Nat.{mod-eq_of_lt, pow-le-pow_right}
use Rattle.std.proofs.Math.Pow.{pow_pos}
use Rattle.std.proofs.lemmas.Bool.{cases_lt, false≢true}
use Rattle.std.proofs.lemmas.Nat.{div-add-mod', div_below, mod_below}
use Rattle.std.proofs.lemmas.Nat.Bits.{bit_at_ones, bit_at_ones_above}
use Rattle.std.proofs.lemmas.List.{length-map}
use Rattle.std.proofs.lemmas.Option.{get_or_from_slice_get, same_Some, slice_get-get_or, slice_get_within}
use Rattle.std.specs.List.{AllZip}
use Rattle.cubes.specs.Cube.{Holds}
use Rattle.cubes.specs.Field.{Allows}
use Rattle.cubes.specs.Symbol.{bit, number_of, symbol_of}
use Rattle.cubes.specs.Laws.Bits.{bit_from_one, bit_from_zero}
use Rattle.cubes.specs.Laws.Numbers.{bit-above, length-symbol_of, number_below, number_of-symbol_of, symbol_of-number_of}
use Rattle.cubes.specs.Laws.Places.{length-characters}
use Rattle.kiss_file.specs.declared.file.KissRow.{KissRow}
use Rattle.machine_gen.specs.Inner.Draws.{IsRowOfPlace as IsRowAtPlace, next_of, place_of}
use Rattle.machine_gen.specs.WordMachine.{AreRows, AreSizes, IsDrawnRow, next_first, next_second}
use Rattle.machine_gen.proofs.Numbered.{StandsAt, first_within, second_within, symbol_within}

-- ---- a field without dashes holds its own symbol and no other
holds_itself : (bits : List Bool) → AllZip Allows (map Some bits) bits
holds_itself [] = tt
holds_itself (b ∷ bits) = (refl, holds_itself bits)

held_is : (bits symbol : List Bool) → AllZip Allows (map Some bits) symbol → symbol ≡ bits
held_is [] [] h = refl
held_is [] (c ∷ symbol) h = elim h [ ]
held_is (b ∷ bits) [] h = elim h [ ]
held_is (b ∷ bits) (c ∷ symbol) (is, rest) = rw (is, held_is bits symbol rest) refl

module _ (b k i j x state : ℕ) (row : KissRow) (is : IsDrawnRow b k i j x state row) where
  pub holds_symbol : Holds row.cube (symbol_of k x)
  unfolding Holds
  holds_symbol = subst (λ (field : List (Option Bool)). AllZip Allows field (symbol_of k x)) (sym is.symbol) (holds_itself (symbol_of k x))

  pub held_symbol : (symbol : List Bool) → Holds row.cube symbol → symbol ≡ symbol_of k x
  unfolding Holds
  held_symbol symbol held = held_is (symbol_of k x) symbol (subst (λ (field : List (Option Bool)). AllZip Allows field symbol) is.symbol held)

  pub width_is : row.cube.width ≡ k
  width_is =
      sym (length-characters row.cube.width row.cube.care row.cube.value) ∙ ap length is.symbol
      ∙ length-map (symbol_of k x) (λ (c : Bool). Some c) ∙ length-symbol_of k x

-- numbers of one symbol are equal
pub symbol_number : (k n m : ℕ) → symbol_of k (n % 2 ^ k) ≡ symbol_of k (m % 2 ^ k) → n % 2 ^ k ≡ m % 2 ^ k
symbol_number k n m same =
    let low : (x : ℕ) → x % 2 ^ k < 2 ^ k = λ x. mod_below x (2 ^ k) (pow_pos k) in
    let back : (x : ℕ) → number_of (symbol_of k (x % 2 ^ k)) ≡ x % 2 ^ k = λ x. number_of-symbol_of k (x % 2 ^ k) ∙ mod-eq_of_lt (low x) in
    sym (back n) ∙ ap number_of same ∙ back m

-- ---- rows and numbers
module _ (word : ℕ → ℕ) (a b k : ℕ) (rows : List KissRow) (sizes : AreSizes a b k) (are : AreRows word a b k rows) where
  abbrev pub count : ℕ
  count = a * b * 2 ^ k

  pub row_at_number : (n : ℕ) → n < count → StandsAt word a b k rows n
  row_at_number n within =
      let i = n / 2 ^ k / b in
      let j = n / 2 ^ k % b in
      let x = n % 2 ^ k in
      let there = are.each i j x (first_within a b k n sizes within) (second_within a b k n sizes within) (symbol_within a b k n sizes within) in
      let state : i * b + j ≡ n / 2 ^ k = div-add-mod' (n / 2 ^ k) b in
      let number : (i * b + j) * 2 ^ k + x ≡ n = ap (λ s. s * 2 ^ k + x) state ∙ div-add-mod' n (2 ^ k) in
      (there.0, ap (slice_get rows) (sym number) ∙ there.1, there.2)

  -- its state is the number's
  pub from_number : (n : ℕ) (within : n < count) → (row_at_number n within).0.from ≡ n / 2 ^ k
  from_number n within = (row_at_number n within).2.from ∙ div-add-mod' (n / 2 ^ k) b

  -- each row has a number
  pub row_known : (row : KissRow) → Contains rows row
      → (n : ℕ) × (n < count) × (slice_get rows n ≡ Some row) × IsRowAtPlace b k (place_of b k n) (next_of word a b k (place_of b k n)) row
  row_known row (n, within, is) =
      let below : n < count = subst (λ m. n < m) are.count within in
      let here : slice_get rows n ≡ Some row = slice_get-get_or rows n row within ∙ ap (λ (r : KissRow). Some r) is in
      let there = row_at_number n below in
      let same : there.0 ≡ row = same_Some there.0 row (sym there.1 ∙ here) in
      (n, below, here, subst (IsRowAtPlace b k (place_of b k n) (next_of word a b k (place_of b k n))) same there.2)

  -- a row with a number stands among the rows
  pub row_among : (n : ℕ) (row : KissRow) → slice_get rows n ≡ Some row → Contains rows row
  row_among n row here = (n, slice_get_within rows n row here, get_or_from_slice_get rows n row row here)

  -- the row of a state and a symbol
  pub row_at_symbol : (s : ℕ) (symbol : List Bool) → s < a * b → length symbol ≡ k → (row : KissRow) × Contains rows row × (row.from ≡ s) × Holds row.cube symbol
      × IsDrawnRow b k (s / b) (s % b) (number_of symbol) (next_first word a k (s / b) (number_of symbol) * b + next_second word b k (s % b) (number_of symbol)) row
  row_at_symbol s symbol within long =
      let x = number_of symbol in
      let low : x < 2 ^ k = subst (λ n. x < 2 ^ n) long (number_below symbol) in
      let first : s / b < a = div_below s b a (omega (arith, sizes.b_low)) within in
      let there = are.each (s / b) (s % b) x first (mod_below s b (omega (arith, sizes.b_low))) low in
      let back : symbol_of k x ≡ symbol = subst (λ n. symbol_of n x ≡ symbol) long (symbol_of-number_of symbol) in (
        there.0,
        row_among _ there.0 there.1,
        there.2.from ∙ div-add-mod' s b,
        subst (Holds (there.0).cube) back (holds_symbol b k (s / b) (s % b) x _ there.0 there.2),
        there.2,
      )

-- ---- both outputs are given, and no other
pub both_given : (output : ℕ) → output < 2 → bit 3 output ≡ true
both_given output low = bit_from_one 3 output (bit_at_ones 2 output low)

pub no_other : (output : ℕ) → bit 3 output ≡ true → output < 2
no_other output given =
    elim (cases_lt output 2) [
      | inl low ↦ low
      | inr high ↦ absurd (false≢true (sym (bit_from_zero 3 output (bit_at_ones_above 2 output high)) ∙ given))
    ]

value_low : (p q : Bool) → cond p 1 0 + cond q 2 0 < 2 ^ 2
value_low true true = omega arith
value_low true false = omega arith
value_low false true = omega arith
value_low false false = omega arith

pub value_in_care : (p q : Bool) (output : ℕ) → bit (cond p 1 0 + cond q 2 0) output ≡ true → bit 3 output ≡ true
value_in_care p q output is =
    elim (cases_lt output 2) [
      | inl low ↦ both_given output low
      | inr high ↦
          let two : 0 < 2 = omega arith in
          let power : 2 ^ 2 ≤ 2 ^ output = pow-le-pow_right two high in
          absurd (false≢true (sym (bit-above output (cond p 1 0 + cond q 2 0) (omega (arith, value_low p q, power))) ∙ is))
    ]
