-- The cubes of two places of a worked machine, and what they hold.
use Rattle.std.proofs.Common.{◌≡◌, ◌<◌, ◌^◌, ℕ, ◌≤◌, Bool, true, false, List, [], ◌∷◌, None, Some, eqb, get_or, refl, ap, arith}
use Rattle.std.proofs.lemmas.Nat.Bits.{bit_at_above}
use Rattle.cubes.specs.declared.cube.Cube.{Cube}
use Rattle.cubes.specs.Cube.{Holds, field_of}
use Rattle.cubes.specs.Field.{characters}
use Rattle.cubes.specs.Symbol.{bit}
use Rattle.part_laws.specs.WorkedPart.{PairCubes}

abbrev pub second_0 : Cube
second_0 = record { care = 1; value = 0; width = 2; width_positive = omega arith; width_bound = omega arith; value_in_care = refl; care_in_width = omega arith }

abbrev pub second_1 : Cube
second_1 = record { care = 1; value = 1; width = 2; width_positive = omega arith; width_bound = omega arith; value_in_care = refl; care_in_width = omega arith }

abbrev pub both_01 : Cube
both_01 = record { care = 3; value = 1; width = 2; width_positive = omega arith; width_bound = omega arith; value_in_care = refl; care_in_width = omega arith }

abbrev pub both_11 : Cube
both_11 = record { care = 3; value = 3; width = 2; width_positive = omega arith; width_bound = omega arith; value_in_care = refl; care_in_width = omega arith }

abbrev pub both_00 : Cube
both_00 = record { care = 3; value = 0; width = 2; width_positive = omega arith; width_bound = omega arith; value_in_care = refl; care_in_width = omega arith }

abbrev pub both_10 : Cube
both_10 = record { care = 3; value = 2; width = 2; width_positive = omega arith; width_bound = omega arith; value_in_care = refl; care_in_width = omega arith }

abbrev pub first_0 : Cube
first_0 = record { care = 2; value = 0; width = 2; width_positive = omega arith; width_bound = omega arith; value_in_care = refl; care_in_width = omega arith }

abbrev pub first_1 : Cube
first_1 = record { care = 2; value = 2; width = 2; width_positive = omega arith; width_bound = omega arith; value_in_care = refl; care_in_width = omega arith }

pub second_0_is : field_of second_0 ≡ None ∷ Some false ∷ []
unfolding characters
second_0_is = refl

pub second_1_is : field_of second_1 ≡ None ∷ Some true ∷ []
unfolding characters
second_1_is = refl

pub both_01_is : field_of both_01 ≡ Some false ∷ Some true ∷ []
unfolding characters
both_01_is = refl

pub both_11_is : field_of both_11 ≡ Some true ∷ Some true ∷ []
unfolding characters
both_11_is = refl

pub both_00_is : field_of both_00 ≡ Some false ∷ Some false ∷ []
unfolding characters
both_00_is = refl

pub both_10_is : field_of both_10 ≡ Some true ∷ Some false ∷ []
unfolding characters
both_10_is = refl

pub first_0_is : field_of first_0 ≡ Some false ∷ None ∷ []
unfolding characters
first_0_is = refl

pub first_1_is : field_of first_1 ≡ Some true ∷ None ∷ []
unfolding characters
first_1_is = refl

abbrev pub the_cubes : PairCubes
the_cubes = record {
  second_0 = second_0;
  second_1 = second_1;
  both_01 = both_01;
  both_11 = both_11;
  both_00 = both_00;
  both_10 = both_10;
  first_0 = first_0;
  first_1 = first_1;
  second_0_is = second_0_is;
  second_1_is = second_1_is;
  both_01_is = both_01_is;
  both_11_is = both_11_is;
  both_00_is = both_00_is;
  both_10_is = both_10_is;
  first_0_is = first_0_is;
  first_1_is = first_1_is;
}

-- ---- what they hold: the first value of a symbol, and the second
abbrev pub one_of : List Bool → Bool
one_of y = get_or y 0 false

abbrev pub two_of : List Bool → Bool
two_of y = get_or y 1 false

pub held_second_0 : (y : List Bool) → Holds second_0 y → two_of y ≡ false
unfolding Holds characters
held_second_0 [] h = absurd h
held_second_0 (a ∷ []) h = absurd h.1
held_second_0 (a ∷ b ∷ y) h = h.1.0

pub held_second_1 : (y : List Bool) → Holds second_1 y → two_of y ≡ true
unfolding Holds characters
held_second_1 [] h = absurd h
held_second_1 (a ∷ []) h = absurd h.1
held_second_1 (a ∷ b ∷ y) h = h.1.0

pub held_both_01 : (y : List Bool) → Holds both_01 y → (one_of y ≡ false) × (two_of y ≡ true)
unfolding Holds characters
held_both_01 [] h = absurd h
held_both_01 (a ∷ []) h = absurd h.1
held_both_01 (a ∷ b ∷ y) h = (h.0, h.1.0)

pub held_both_11 : (y : List Bool) → Holds both_11 y → (one_of y ≡ true) × (two_of y ≡ true)
unfolding Holds characters
held_both_11 [] h = absurd h
held_both_11 (a ∷ []) h = absurd h.1
held_both_11 (a ∷ b ∷ y) h = (h.0, h.1.0)

pub held_both_00 : (y : List Bool) → Holds both_00 y → (one_of y ≡ false) × (two_of y ≡ false)
unfolding Holds characters
held_both_00 [] h = absurd h
held_both_00 (a ∷ []) h = absurd h.1
held_both_00 (a ∷ b ∷ y) h = (h.0, h.1.0)

pub held_both_10 : (y : List Bool) → Holds both_10 y → (one_of y ≡ true) × (two_of y ≡ false)
unfolding Holds characters
held_both_10 [] h = absurd h
held_both_10 (a ∷ []) h = absurd h.1
held_both_10 (a ∷ b ∷ y) h = (h.0, h.1.0)

pub held_first_0 : (y : List Bool) → Holds first_0 y → one_of y ≡ false
unfolding Holds characters
held_first_0 [] h = absurd h
held_first_0 (a ∷ y) h = h.0

pub held_first_1 : (y : List Bool) → Holds first_1 y → one_of y ≡ true
unfolding Holds characters
held_first_1 [] h = absurd h
held_first_1 (a ∷ y) h = h.0

-- ---- bits of small numbers
-- a number below 2 ^ k has no bit from k on
pub no_bit : (n k b : ℕ) → n < 2 ^ k → k ≤ b → bit n b ≡ false
no_bit n k b small high = ap (λ (d : ℕ). eqb d 1) (bit_at_above n k b small high)

pub low_bit : (n k b : ℕ) → n < 2 ^ k → bit n b ≡ true → (k ≤ b → ⊥)
low_bit n k b small is high = let none : bit n b ≡ false = no_bit n k b small high in absurd (cc)
