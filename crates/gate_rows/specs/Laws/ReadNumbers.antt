-- What a gate reads, as a number: the numbers that the columns of a cube allow are those that are read at its symbols.
use Rattle.std.proofs.Common.{◌≡◌, ℕ, zero, suc, ◌+◌, ◌-◌, ◌^◌, ◌<◌, inl, inr, Bool, eqb, true, false, cond, if◌then◌else◌, Option, Some, None, List, [], ◌∷◌, ◌++◌, length, map, get_or, slice_get, All, refl, ap, sym, ◌∙◌, subst, arith, length-append}
use Rattle.std.specs.List.{AllPairs, range_with_len}
use Rattle.std.specs.List.Sorted.{IsStrictlyIncreasing}
use Rattle.std.proofs.lemmas.Bool.{cases_Bool, cases_lt, eq-eqb, eqb-true, false≢true}
use Rattle.std.proofs.lemmas.List.{ext_get_or, get_or-append-add, get_or-map, get_or_append_left, length-map}
use Rattle.std.proofs.lemmas.List.FromFn.{get_or-map-range_with_len, length-map-range_with_len}
use Rattle.std.proofs.lemmas.List.Kept.{AllPairs-from_increasing}
use Rattle.std.proofs.lemmas.Option.{get_or_from_slice_get, slice_get-get_or, slice_get_within}
use Rattle.list_facts.specs.Laws.Places.{from_map, get_behind, get_cases, get_first, get_map}
use Rattle.cover_terms.specs.declared.term.Term.{Term}
use Rattle.cubes.specs.declared.cube.Cube.{Cube}
use Rattle.cubes.specs.Cube.{HoldsNumber}
use Rattle.cubes.specs.Field.{character}
use Rattle.cubes.specs.Symbol.{bit, number_of, symbol_of, lowest_bits}
use Rattle.cubes.specs.Laws.Held.{agrees_from_held, held_from_agrees}
use Rattle.cubes.specs.Laws.Numbers.{number_below, symbol_of-number_of}
use Rattle.gate_rows.specs.Columns.{IsReadIn, IsTermOf, column_count, column_values, input_of}
use Rattle.gate_rows.specs.Inner.Literals.{AllowsFrom, HasCharacters, code_character, columns_of, input_character}

-- ---- symbols by their bits
pub symbol_at : (w n a : ℕ) → a < w → get_or (symbol_of w n) a false ≡ bit n (w - 1 - a)
unfolding symbol_of
symbol_at zero n a lt = absurd (omega arith)
symbol_at (suc p) n zero lt = let e : p ≡ suc p - 1 - 0 = omega arith in ap (bit n) e
symbol_at (suc p) n (suc a) lt = let e : p - 1 - a ≡ suc p - 1 - suc a = omega arith in symbol_at p n a (omega arith) ∙ ap (bit n) e

-- a bit of a number of a symbol
pub number_bit : (x : List Bool) (w k : ℕ) → length x ≡ w → k < w → bit (number_of x) k ≡ get_or x (w - 1 - k) false
number_bit x w k long lt =
    let e : k ≡ w - 1 - (w - 1 - k) = omega arith in
    let whole : symbol_of w (number_of x) ≡ x = ap (λ (n : ℕ). symbol_of n (number_of x)) (sym long) ∙ symbol_of-number_of x in
    ap (bit (number_of x)) e ∙ (sym (symbol_at w (number_of x) (w - 1 - k) (omega arith)) ∙ ap (λ (bits : List Bool). get_or bits (w - 1 - k) false) whole)

-- ---- what is read, column by column
module _ (inputs places : List ℕ) (x : List Bool) (word : ℕ) where
  pub read_input : (c a : ℕ) → slice_get inputs c ≡ Some a → get_or (column_values inputs places x word) c false ≡ input_of x a
  read_input c a is =
      let lt : c < length inputs = slice_get_within inputs c a is in
      get_or_append_left (map (input_of x) inputs) (map (bit word) places) false c (omega (arith, lt, length-map inputs (input_of x)))
      ∙ (get_or-map (input_of x) inputs c 0 false lt ∙ ap (input_of x) (get_or_from_slice_get inputs c a 0 is))

  pub read_latch : (j l : ℕ) → slice_get places j ≡ Some l → get_or (column_values inputs places x word) (length inputs + j) false ≡ bit word l
  read_latch j l is =
      let front : List Bool = map (input_of x) inputs in
      let back : List Bool = map (bit word) places in
      let lt : j < length places = slice_get_within places j l is in
      let e : length inputs + j ≡ length front + j = omega (arith, length-map inputs (input_of x)) in
      ap (λ (n : ℕ). get_or (front ++ back) n false) e
      ∙ (get_or-append-add front back j false
      ∙ (get_or-map (bit word) places j 0 false lt ∙ ap (bit word) (get_or_from_slice_get places j l 0 is)))

  pub read_length : length (column_values inputs places x word) ≡ column_count inputs places
  read_length =
      omega (arith, length-append (map (input_of x) inputs) (map (bit word) places), length-map inputs (input_of x), length-map places (bit word))

-- a bit of a number, in the list of its bits
pub code_at : (width v c : ℕ) → c < width → get_or (lowest_bits width v) c false ≡ bit v c
code_at width v c lt = get_or-map-range_with_len (bit v) 0 width c c false lt (omega arith)

-- ---- the character of a cube and the bits of its symbols
-- what a character wants is the bit of the value there
wanted_parts : (cares v wanted : Bool) → cond cares (Some v) None ≡ Some wanted → (cares ≡ true) × (v ≡ wanted)
wanted_parts true v wanted is = (refl, cc)
wanted_parts false v wanted is = absurd (cc)

from_wanted : (cares v : Bool) → cares ≡ true → cond cares (Some v) None ≡ Some v
from_wanted true v h = refl
from_wanted false v h = absurd (false≢true h)

module _ (cube : Cube) (inputs places : List ℕ) (word : ℕ) (inside : All (λ a. a < cube.width) inputs) where
  -- the number of an input that is listed
  listed_within : (c a : ℕ) → slice_get inputs c ≡ Some a → a < cube.width
  listed_within c a is = subst (λ (n : ℕ). n < cube.width) (get_or_from_slice_get inputs c a 0 is) (inside c 0 (slice_get_within inputs c a is))

  -- what is read at a symbol of the cube is allowed
  pub allowed_there : (v n : ℕ) → HoldsNumber cube n → lowest_bits (column_count inputs places) v ≡ column_values inputs places (symbol_of cube.width n) word
      → AllowsFrom 0 (columns_of inputs places cube word) v
  allowed_there v n held read c wanted is =
      let x : List Bool = symbol_of cube.width n in
      let e : 0 + c ≡ c = omega arith in
      let here : get_or (lowest_bits (column_count inputs places) v) c false ≡ get_or (column_values inputs places x word) c false = ap (λ (bits : List Bool). get_or bits c false) read in
      elim (get_cases (map (input_character cube) inputs) (map (code_character word) places) c (Some wanted) is) [
        | inl first ↦
            let found = from_map (input_character cube) inputs c (Some wanted) first in
            let a : ℕ = found.0 in
            let low : a < cube.width = listed_within c a found.1 in
            let parts = wanted_parts (bit cube.care (cube.width - 1 - a)) (bit cube.value (cube.width - 1 - a)) wanted found.2 in
            let lt : c < column_count inputs places = omega (arith, slice_get_within inputs c a found.1) in
            ap (bit v) e ∙ (sym (code_at (column_count inputs places) v c lt) ∙ (here ∙ (read_input inputs places x word c a found.1
            ∙ (symbol_at cube.width n a low ∙ (sym (agrees_from_held cube n held (cube.width - 1 - a) (omega arith) parts.0) ∙ parts.1)))))
        | inr behind ↦
            let found = from_map (code_character word) places behind.0 (Some wanted) behind.2 in
            let l : ℕ = found.0 in
            let one : bit word l ≡ wanted = (let h = found.2 in cc) in
            let place : c ≡ length inputs + behind.0 = omega (arith, behind.1, length-map inputs (input_character cube)) in
            let lt : c < column_count inputs places = omega (arith, place, slice_get_within places behind.0 l found.1) in
            ap (bit v) e ∙ (sym (code_at (column_count inputs places) v c lt) ∙ (here ∙ (ap (λ (k : ℕ). get_or (column_values inputs places x word) k false) place
            ∙ (read_latch inputs places x word behind.0 l found.1 ∙ one))))
      ]

-- ---- a symbol for a number that is allowed
-- the value of the first column of an input among those that are listed
fill : List ℕ → (ℕ → Bool) → ℕ → Bool
fill [] f a = false
fill (i ∷ is) f a = if eqb i a then f 0 else fill is (λ c. f (suc c)) a

fill_at : (is : List ℕ) (f : ℕ → Bool) (c a : ℕ) → AllPairs (λ x y. x < y) is → slice_get is c ≡ Some a → fill is f a ≡ f c
unfolding fill
fill_at [] f c a ascend at = absurd (cc)
fill_at (i ∷ is) f zero a ascend at =
    let same : i ≡ a = cc in
    ap (λ (test : Bool). if test then f 0 else fill is (λ c. f (suc c)) a) (eq-eqb i a same)
fill_at (i ∷ is) f (suc c) a ascend at =
    let lt : c < length is = slice_get_within is c a at in
    let low : i < a =
    subst (λ (n : ℕ). i < n) (get_or_from_slice_get is c a i at) (ascend 0 (suc c) i (omega arith) (omega (arith, lt))) in
    let other : eqb i a ≡ false = differs i a low in
    ap (λ (test : Bool). if test then f 0 else fill is (λ c. f (suc c)) a) other
    ∙ fill_at is (λ c. f (suc c)) c a (λ j k d below within. ascend (suc j) (suc k) d (omega arith) (omega arith)) at
  where
    differs : (i a : ℕ) → i < a → eqb i a ≡ false
    differs i a low = elim (cases_Bool (eqb i a)) [ inl same ↦ absurd (let e = eqb-true i a same in omega arith) | inr other ↦ other ]

-- the bit that a character wants, or else one that is free
choice : Option Bool → Bool → Bool
choice (Some wanted) free = wanted
choice None free = free

choice_wanted : (c : Option Bool) (free wanted : Bool) → c ≡ Some wanted → choice c free ≡ wanted
unfolding choice
choice_wanted (Some b) free wanted is = cc
choice_wanted None free wanted is = absurd (cc)

choice_is : (c : Option Bool) (free v : Bool) → (free ≡ v) → ((wanted : Bool) → c ≡ Some wanted → v ≡ wanted) → choice c free ≡ v
unfolding choice
choice_is (Some b) free v same all = sym (all b refl)
choice_is None free v same all = same

module _ (cube : Cube) (inputs places : List ℕ) (word : ℕ) (inside : All (λ a. a < cube.width) inputs) (ascend : IsStrictlyIncreasing inputs) (v : ℕ) (all : AllowsFrom 0 (columns_of inputs places cube word) v) where
  -- the bit of the symbol for each input
  abbrev chosen : ℕ → Bool
  chosen a = choice (input_character cube a) (fill inputs (bit v) a)

  pub filled : List Bool
  filled = map chosen (range_with_len 0 cube.width)

  filled_length : length filled ≡ cube.width
  unfolding filled
  filled_length = length-map-range_with_len chosen 0 cube.width

  filled_at : (a : ℕ) → a < cube.width → get_or filled a false ≡ chosen a
  unfolding filled
  filled_at a lt = get_or-map-range_with_len chosen 0 cube.width a a false lt (omega arith)

  -- the cube holds it
  filled_held : HoldsNumber cube (number_of filled)
  filled_held = held_from_agrees cube (number_of filled) (λ k lt cares.
      let a : ℕ = cube.width - 1 - k in
      let back : cube.width - 1 - a ≡ k = omega arith in
      let says : input_character cube a ≡ Some (bit cube.value k) =
      ap (λ (n : ℕ). character cube.care cube.value n) back ∙ from_wanted (bit cube.care k) (bit cube.value k) cares in
      sym (number_bit filled cube.width k filled_length lt ∙ (filled_at a (omega arith) ∙ choice_wanted (input_character cube a) (fill inputs (bit v) a) (bit cube.value k) says)))

  -- and there the number is read
  filled_read : lowest_bits (column_count inputs places) v ≡ column_values inputs places filled word
  filled_read =
      ext_get_or false (lowest_bits (column_count inputs places) v) (column_values inputs places filled word)
      (length-map-range_with_len (bit v) 0 (column_count inputs places) ∙ sym (read_length inputs places filled word))
      (λ c within.
      let lt : c < column_count inputs places = omega (arith, within, length-map-range_with_len (bit v) 0 (column_count inputs places)) in
      code_at (column_count inputs places) v c lt
      ∙ elim (cases_lt c (length inputs)) [
        | inl low ↦
            let a : ℕ = get_or inputs c 0 in
            let at : slice_get inputs c ≡ Some a = slice_get-get_or inputs c 0 low in
            let free : fill inputs (bit v) a ≡ bit v c = fill_at inputs (bit v) c a (AllPairs-from_increasing inputs ascend) at in
            let wants : (wanted : Bool) → input_character cube a ≡ Some wanted → bit v c ≡ wanted =
            λ wanted is.
            let e : c ≡ 0 + c = omega arith in
            ap (bit v) e ∙ all c wanted (get_first (map (input_character cube) inputs) (map (code_character word) places) c (Some wanted)
            (get_map (input_character cube) inputs c a at ∙ ap (λ (o : Option Bool). Some o) is)) in
            sym (read_input inputs places filled word c a at ∙ (filled_at a (inside c 0 low) ∙ choice_is (input_character cube a) (fill inputs (bit v) a) (bit v c) free wants))
        | inr high ↦
            let j : ℕ = c - length inputs in
            let place : c ≡ length inputs + j = omega arith in
            let few : j < length places = omega (arith, lt) in
            let l : ℕ = get_or places j 0 in
            let at : slice_get places j ≡ Some l = slice_get-get_or places j 0 few in
            let column : 0 + (length (map (input_character cube) inputs) + j) ≡ c = omega (arith, place, length-map inputs (input_character cube)) in
            let wants : bit v c ≡ bit word l =
            sym (ap (bit v) column) ∙ all (length (map (input_character cube) inputs) + j) (bit word l)
            (get_behind (map (input_character cube) inputs) (map (code_character word) places) j ∙ get_map (code_character word) places j l at) in
            wants ∙ sym (ap (λ (k : ℕ). get_or (column_values inputs places filled word) k false) place ∙ read_latch inputs places filled word j l at)
      ])

  -- so the number is read at a symbol of the cube
  pub read_there : IsReadIn inputs places cube word (lowest_bits (column_count inputs places) v)
  read_there =
      let whole : symbol_of cube.width (number_of filled) ≡ filled = ap (λ (n : ℕ). symbol_of n (number_of filled)) (sym filled_length) ∙ symbol_of-number_of filled in (
        number_of filled,
        subst (λ (n : ℕ). number_of filled < 2 ^ n) filled_length (number_below filled),
        filled_held,
        filled_read ∙ ap (λ (x : List Bool). column_values inputs places x word) (sym whole),
      )

-- so a term with the characters of the columns is that of what is read
pub term_read : (cube : Cube) (inputs places : List ℕ) (word : ℕ) (t : Term) → All (λ a. a < cube.width) inputs → IsStrictlyIncreasing inputs → HasCharacters (columns_of inputs places cube word) t → IsTermOf inputs places cube word t
term_read cube inputs places word t inside ascend is =
    let count : length (columns_of inputs places cube word) ≡ column_count inputs places =
    omega (arith, length-append (map (input_character cube) inputs) (map (code_character word) places), length-map inputs (input_character cube), length-map places (code_character word)) in
    record {
      fits = subst (λ (n : ℕ). t.care < 2 ^ n) count is.fits;
      holds = λ v. (
        λ held. read_there cube inputs places word inside ascend v ((is.holds v).0 held),
        λ read. (is.holds v).1 (allowed_there cube inputs places word inside v read.0 read.2 read.3),
      );
    }
