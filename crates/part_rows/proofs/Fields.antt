-- The characters of a cube at some inputs, before those of a field.
use Rattle.std.proofs.Common.{◌≡◌, ◌≢◌, ◌∙◌, ℕ, zero, suc, ◌+◌, ◌*◌, ◌-◌, ◌%◌, ◌^◌, ◌<◌, ◌||◌, ◌&&◌, Bool, false, true, if◌then◌else◌, List, ◌∷◌, ◌++◌, None, Option, Some, add-one, get_or, length, bit_and, bit_or, inl, inr, refl, sym, ap, subst, arith}
use Rattle.std.proofs.lemmas.Bool.{cases_Bool, cases_eq, false≢true}
use Rattle.std.proofs.lemmas.Nat.{one_shl, or_lt, pow_pos}
use Rattle.std.proofs.lemmas.Nat.Bits.{bit_at_above, bit_at-pow_other, bit_at-pow_same, same_from_bits}
use Rattle.cubes.specs.declared.cube.Cube.{Cube}
use Rattle.cubes.specs.Cube.{field_of}
use Rattle.cubes.specs.Field.{character, characters}
use Rattle.cubes.specs.Symbol.{bit}
use Rattle.cubes.specs.Laws.Bits.{bit-and, bit-or, bit_from_one, bit_from_zero, or_second, same_digits}
use Rattle.cubes.specs.Laws.Numbers.{pow-suc}
use Rattle.part_machines.specs.PartRows.{characters_at}
use Rattle.part_machines.specs.declared.fields.Field.{Field}
use Rattle.part_rows.specs.Inner.Shown.{IsField}

-- ---- one character
-- the character for an input
pub character_at : (places care value a : ℕ) → a < places → get_or (characters places care value) a None ≡ character care value (places - 1 - a)
unfolding characters
character_at zero care value a within = absurd (omega (arith, within))
character_at (suc p) care value zero within = let place : p ≡ suc p - 1 - 0 = omega arith in ap (character care value) place
character_at (suc p) care value (suc a) within =
    let place : p - 1 - a ≡ suc p - 1 - suc a = omega arith in
    character_at p care value a (omega (arith, within)) ∙ ap (character care value) place

character_same : (care value other another k : ℕ) → bit care k ≡ bit other k → bit value k ≡ bit another k → character care value k ≡ character other another k
character_same care value other another k cares values = rw cares (rw values refl)

pub cons_same : {X : Type 0} (x y : X) (xs ys : List X) → x ≡ y → xs ≡ ys → ◌≡◌ {A = List X} (x ∷ xs) (y ∷ ys)
cons_same x y xs ys head tail = cc

-- the characters of two fields with the same lowest bits
characters_same : (places care value other another : ℕ) → ((k : ℕ) → k < places → bit care k ≡ bit other k) → ((k : ℕ) → k < places → bit value k ≡ bit another k)
    → characters places care value ≡ characters places other another
unfolding characters
characters_same zero care value other another cares values = refl
characters_same (suc p) care value other another cares values =
    cons_same (character care value p) (character other another p) (characters p care value) (characters p other another)
    (character_same care value other another p (cares p (omega arith)) (values p (omega arith)))
    (characters_same p care value other another (λ k below. cares k (omega (arith, below))) (λ k below. values k (omega (arith, below))))

-- ---- one character more
one_more : (places care value : ℕ) → characters (places + 1) care value ≡ character care value places ∷ characters places care value
unfolding characters
one_more places care value = ap (λ (n : ℕ). characters n care value) (add-one places)

doubled : (n p q : ℕ) → n < p → q ≡ p + p → n < q
doubled n p q low is = omega arith

wider : (n places : ℕ) → n < 2 ^ places → n < 2 ^ (places + 1)
wider n places low = subst (λ (k : ℕ). n < 2 ^ k) (sym (add-one places)) (doubled n (2 ^ places) (2 ^ suc places) low (pow-suc places))

pub or_false : (a : Bool) → (a || false) ≡ a
or_false true = refl
or_false false = refl

module _ (places : ℕ) (field : Field) (is : IsField places field) where
  no_care : bit field.care places ≡ false
  no_care = bit_from_zero field.care places (bit_at_above field.care places places is.care_below (omega arith))

  no_value : bit field.value places ≡ false
  no_value =
      elim (cases_Bool (bit field.value places)) [
        | inl one ↦ absurd (false≢true (sym no_care ∙ is.value_in_care places one))
        | inr none ↦ none
      ]

  -- a dash before the characters
  pub with_dash : IsField (places + 1) field
  with_dash = record { care_below = wider field.care places is.care_below; value_in_care = is.value_in_care }

  pub dash_first : characters (places + 1) field.care field.value ≡ None ∷ characters places field.care field.value
  dash_first = one_more places field.care field.value ∙ ap (λ (c : Option Bool). c ∷ characters places field.care field.value) (rw no_care refl)

  -- a bit before them
  module _ (few : places < 32) (one : Bool) (more : Field) (cares : more.care ≡ bit_or field.care (1 * 2 ^ places % 2 ^ 32))
      (values : more.value ≡ (if one then (bit_or field.value (1 * 2 ^ places % 2 ^ 32)) else field.value)) where
    power : 1 * 2 ^ places % 2 ^ 32 ≡ 2 ^ places
    power = one_shl places 32 few

    care_is : more.care ≡ bit_or field.care (2 ^ places)
    care_is = cares ∙ ap (bit_or field.care) power

    power_other : (k : ℕ) → k ≢ places → bit (2 ^ places) k ≡ false
    power_other k other = bit_from_zero (2 ^ places) k (bit_at-pow_other places k other)

    power_same : bit (2 ^ places) places ≡ true
    power_same = bit_from_one (2 ^ places) places (bit_at-pow_same places)

    or_other : (n k : ℕ) → k ≢ places → bit (bit_or n (2 ^ places)) k ≡ bit n k
    or_other n k other = bit-or n (2 ^ places) k ∙ ap (λ (b : Bool). bit n k || b) (power_other k other) ∙ or_false (bit n k)

    or_same : (n : ℕ) → bit (bit_or n (2 ^ places)) places ≡ true
    or_same n = bit-or n (2 ^ places) places ∙ or_second (bit n places) (bit (2 ^ places) places) power_same

    care_other : (k : ℕ) → k ≢ places → bit more.care k ≡ bit field.care k
    care_other k other = ap (λ (n : ℕ). bit n k) care_is ∙ or_other field.care k other

    care_same : bit more.care places ≡ true
    care_same = ap (λ (n : ℕ). bit n places) care_is ∙ or_same field.care

    value_from : (b : Bool) → more.value ≡ (if b then (bit_or field.value (1 * 2 ^ places % 2 ^ 32)) else field.value)
        → ((k : ℕ) → k ≢ places → bit more.value k ≡ bit field.value k) × (bit more.value places ≡ b)
    value_from true is_high =
        let high : more.value ≡ bit_or field.value (2 ^ places) = is_high ∙ ap (bit_or field.value) power in
        ((λ k other. ap (λ (n : ℕ). bit n k) high ∙ or_other field.value k other), ap (λ (n : ℕ). bit n places) high ∙ or_same field.value)
    value_from false is_low = ((λ k other. ap (λ (n : ℕ). bit n k) is_low), ap (λ (n : ℕ). bit n places) is_low ∙ no_value)

    same_power : 2 ^ places < 2 ^ (places + 1)
    same_power = subst (λ (k : ℕ). 2 ^ places < 2 ^ k) (sym (add-one places)) (omega (arith, pow-suc places, pow_pos places))

    pub with_bit : IsField (places + 1) more
    with_bit =
        record {
          care_below = subst (λ (n : ℕ). n < 2 ^ (places + 1)) (sym care_is) (or_lt (places + 1) field.care (2 ^ places) (wider field.care places is.care_below) same_power);
          value_in_care = λ k has. elim (cases_eq k places) [
            | inl here ↦ subst (λ (n : ℕ). bit more.care n ≡ true) (sym here) care_same
            | inr other ↦ care_other k other ∙ is.value_in_care k (sym ((value_from one values).0 k other) ∙ has)
          ];
        }

    pub bit_first : characters (places + 1) more.care more.value ≡ Some one ∷ characters places field.care field.value
    bit_first =
        one_more places more.care more.value
        ∙ cons_same (character more.care more.value places) (Some one) (characters places more.care more.value) (characters places field.care field.value)
        (rw care_same (ap (λ (b : Bool). Some b) (value_from one values).1))
        (characters_same places more.care more.value field.care field.value (λ k below. care_other k (λ at. omega (arith, at, below))) (λ k below. (value_from one values).0 k (λ at. omega (arith, at, below))))

-- ---- the characters of the inputs
module _ (whole : List (Option Bool)) (inputs others : List ℕ) (first places : ℕ) (base : List (Option Bool)) (is : inputs ≡ first ∷ others) where
  size : length others + places + 1 ≡ length inputs + places
  size = let long : length inputs ≡ suc (length others) = ap (λ (list : List ℕ). length list) is in omega (arith, long)

  pub sized : (field : Field) → IsField (length others + places + 1) field → IsField (length inputs + places) field
  sized field = subst (λ (n : ℕ). IsField n field) size

  pub inputs_more : (rest more : Field) → characters (length others + places) rest.care rest.value ≡ characters_at whole others ++ base
      → characters (length others + places + 1) more.care more.value ≡ get_or whole first None ∷ characters (length others + places) rest.care rest.value
      → characters (length inputs + places) more.care more.value ≡ characters_at whole inputs ++ base
  inputs_more rest more before step =
      ap (λ (n : ℕ). characters n more.care more.value) (sym size) ∙ step ∙ ap (λ (list : List (Option Bool)). get_or whole first None ∷ list) before
      ∙ ap (λ (list : List ℕ). characters_at whole list ++ base) (sym is)

-- ---- a cube
pub cube_value : (places : ℕ) (field : Field) → IsField places field → bit_and field.care field.value ≡ field.value
cube_value places field is = same_from_bits (bit_and field.care field.value) field.value (λ k. same_digits (bit_and field.care field.value) field.value k k (bit-and field.care field.value k ∙ both k))
  where
    both_false : (a b : Bool) → b ≡ false → (a && b) ≡ b
    both_false true b none = refl
    both_false false b none = sym none

    both : (k : ℕ) → (bit field.care k && bit field.value k) ≡ bit field.value k
    both k = elim (cases_Bool (bit field.value k)) [
      | inl one ↦ rw one (rw (is.value_in_care k one) refl)
      | inr none ↦ both_false (bit field.care k) (bit field.value k) none
    ]

-- the character of a cube for an input, as code takes it
module _ (cube : Cube) (a place care value : ℕ) (within : a < cube.width) (at : place ≡ cube.width - 1 - a) (cares : care ≡ cube.care) where
  there : (b : Bool) → bit care place ≡ b → get_or (field_of cube) a None ≡ (if b then (Some (bit cube.value place)) else None)
  there b is =
      character_at cube.width cube.care cube.value a within ∙ ap (character cube.care cube.value) (sym at)
      ∙ ap (λ (c : Bool). if c then (Some (bit cube.value place)) else None) (ap (λ (n : ℕ). bit n place) (sym cares) ∙ is)

  pub shown_bit : value ≡ cube.value → bit care place ≡ true → (one : Bool) → one ≡ bit value place → Some one ≡ get_or (field_of cube) a None
  shown_bit values is one one_is = ap (λ (b : Bool). Some b) (one_is ∙ ap (λ (n : ℕ). bit n place) values) ∙ sym (there true is)

  pub shown_dash : bit care place ≡ false → None ≡ get_or (field_of cube) a None
  shown_dash is = sym (there false is)
