-- A field and a symbol, place by place.
use Rattle.std.proofs.Common.{◌≡◌, ℕ, zero, suc, ◌<◌, Bool, true, false, Option, Some, None, cond, List, [], ◌∷◌, length, inl, inr, ap, sym, subst, refl, arith}
use Rattle.std.proofs.lemmas.Bool.{cases_lt, false≢true}
use Rattle.std.specs.List.{AllZip}
use Rattle.cubes.specs.Symbol.{bit, symbol_of}
use Rattle.cubes.specs.Field.{Allows, characters}

-- at each of the lowest places with care, the value and the number have one bit
abbrev pub AgreesAt : ℕ → ℕ → ℕ → ℕ → Type 0
AgreesAt places care value number = (k : ℕ) → k < places → bit care k ≡ true → bit value k ≡ bit number k

-- there is a character for each place
pub length-characters : (places care value : ℕ) → length (characters places care value) ≡ places
unfolding characters
length-characters zero care value = refl
length-characters (suc p) care value = ap suc (length-characters p care value)

-- characters that allow a symbol are as many as its bits
pub length_allowed : (field : List (Option Bool)) (symbol : List Bool) → AllZip Allows field symbol → length field ≡ length symbol
length_allowed [] [] h = refl
length_allowed [] (b ∷ bits) h = elim h [ ]
length_allowed (c ∷ field) [] h = elim h [ ]
length_allowed (c ∷ field) (b ∷ bits) h = ap suc (length_allowed field bits h.1)

-- the character of a place with care allows the value's bit alone
pub allowed : (cares v b : Bool) → Allows (cond cares (Some v) None) b → cares ≡ true → v ≡ b
allowed true v b h e = sym h
allowed false v b h e = absurd (false≢true e)

pub allows : (cares v b : Bool) → (cares ≡ true → v ≡ b) → Allows (cond cares (Some v) None) b
allows true v b h = sym (h refl)
allows false v b h = tt

pub agrees_from_field : (places care value number : ℕ) → AllZip Allows (characters places care value) (symbol_of places number) → AgreesAt places care value number
unfolding characters symbol_of
agrees_from_field zero care value number h k lt e = absurd (omega (arith, lt))
agrees_from_field (suc p) care value number h k lt e =
    elim (cases_lt k p) [
      | inl below ↦ agrees_from_field p care value number h.1 k below e
      | inr above ↦
          let here : p ≡ k = omega arith in
          let P : ℕ → Type 0 = λ j. bit care j ≡ true → bit value j ≡ bit number j in
          subst P here (allowed (bit care p) (bit value p) (bit number p) h.0) e
    ]

pub field_from_agrees : (places care value number : ℕ) → AgreesAt places care value number → AllZip Allows (characters places care value) (symbol_of places number)
unfolding characters symbol_of
field_from_agrees zero care value number h = tt
field_from_agrees (suc p) care value number h = (
  allows (bit care p) (bit value p) (bit number p) (h p (omega arith)),
  field_from_agrees p care value number (λ k lt. h k (omega (arith, lt))),
)
