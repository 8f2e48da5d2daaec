-- What gates are evaluated by, and the bits of numbers.
use Rattle.std.proofs.Common.{◌≡◌, ◌≢◌, Result, Ok, Err, OnOk, ℕ, zero, suc, ◌+◌, ◌^◌, ◌<◌, inl, inr, All, Bool, true, false, ◌&&◌, ◌||◌, List, [], ◌∷◌, ◌++◌, Option, Some, None, map, length, take, get_or, refl, sym, ◌∙◌, ap, subst, arith, add-one}
use Rattle.std.proofs.Math.Seq.{take-suc}
use Rattle.std.specs.List.{AllZip, list_any}
use Rattle.std.proofs.lemmas.Bool.{cases_lt}
use Rattle.std.proofs.lemmas.List.{get_or_append_left, get_or_push, length-map, map-append}
use Rattle.std.proofs.lemmas.List.Folds.{list_any-append}
use Rattle.std.proofs.lemmas.List.Elements.{All-head, All-tail}
use Rattle.std.proofs.lemmas.Grind.{common_steps}
use Rattle.std.proofs.lemmas.Bool.Decides.{nat_tests}
use Rattle.std.proofs.lemmas.Option.{same_Some}
use Rattle.cubes.specs.declared.cube.Cube.{Cube}
use Rattle.cubes.specs.declared.cube.CubeFail.{CubeFail}
use Rattle.cubes.specs.declared.cube.CubeFail.TheVariants.{BadChar, BadWidth}
use Rattle.cubes.specs.Cube.{IsFirstBad, field_of, holds, text_of}
use Rattle.cubes.specs.Field.{IsCharacter, allows, byte_of, characters_hold}
use Rattle.cubes.specs.Symbol.{number_of, symbol_of}
use Rattle.cubes.specs.Laws.Numbers.{length-symbol_of, number_below, symbol_of-number_of}
use Rattle.net_core.specs.Step.{character_holds, row_holds}
use Rattle.net_core.specs.declared.gate_order.NumberedGate.{NumberedGate}
use Rattle.net_sim.specs.declared.forms.GateForm.{GateForm}
use Rattle.net_sim.specs.Inner.GateValues.{bits_at, value_at, value_for}
use Rattle.net_sim.specs.Inner.Forms.{AreForms, IsCubes, IsForm, IsValueTable}
use Rattle.net_sim.proofs.Known.{zip_get}
use Rattle.net_sim.proofs.Rows.{row_holds_other}

-- the bits of one more number
pub bits_more : (signals : List Bool) (numbers : List ℕ) (i : ℕ) → i < length numbers → bits_at signals (take (i + 1) numbers) ≡ bits_at signals (take i numbers) ++ get_or signals (get_or numbers i 0) false ∷ []
bits_more signals numbers i lt =
    ap (λ (n : ℕ). bits_at signals (take n numbers)) (add-one i)
    ∙ (ap (bits_at signals) (take-suc numbers i 0 lt) ∙ map-append (λ s. get_or signals s false) (take i numbers) (get_or numbers i 0 ∷ []))

pub count_bits : (signals : List Bool) (numbers : List ℕ) → length (bits_at signals numbers) ≡ length numbers
count_bits signals numbers = length-map numbers (λ s. get_or signals s false)

-- the number of a gate's bits is one of its numbers
pub number_within : (gate : NumberedGate) (signals : List Bool) (number : ℕ) → number ≡ number_of (bits_at signals gate.inputs.items) → number < 2 ^ length gate.inputs.items
number_within gate signals number at =
    subst (λ (n : ℕ). number < 2 ^ n) (count_bits signals gate.inputs.items)
    (subst (λ (k : ℕ). k < 2 ^ length (bits_at signals gate.inputs.items)) (sym at) (number_below (bits_at signals gate.inputs.items)))

-- and writes these bits
pub bits_of_number : (gate : NumberedGate) (signals : List Bool) (number : ℕ) → number ≡ number_of (bits_at signals gate.inputs.items) → value_for gate (symbol_of (length gate.inputs.items) number) ≡ value_at signals gate
bits_of_number gate signals number at =
    let held : List Bool = bits_at signals gate.inputs.items in
    ap (value_for gate)
    (ap (symbol_of (length gate.inputs.items)) at
    ∙ (ap (λ (n : ℕ). symbol_of n (number_of held)) (sym (count_bits signals gate.inputs.items)) ∙ symbol_of-number_of held))

module _ (gate : NumberedGate) (table signals : List Bool) (is : IsValueTable gate table) (number : ℕ) (at : number ≡ number_of (bits_at signals gate.inputs.items)) where
  pub place_within : number < length table
  place_within = subst (λ (n : ℕ). number < n) (sym is.whole) (number_within gate signals number at)

  pub value_there : get_or table number false ≡ value_at signals gate
  value_there = is.values number place_within ∙ bits_of_number gate signals number at

-- a table with one more value
pub value_more : (gate : NumberedGate) (inputs number : ℕ) (table new : List Bool) (value : Bool) → length table ≡ number → ((k : ℕ) → k < number → get_or table k false ≡ value_for gate (symbol_of inputs k)) → new ≡ table ++ value ∷ [] → value ≡ value_for gate (symbol_of inputs number) → (k : ℕ) → k < number + 1 → get_or new k false ≡ value_for gate (symbol_of inputs k)
value_more gate inputs number table new value long before is here k lt =
    ap (λ list. get_or list k false) is
    ∙ elim (cases_lt k number) [
      | inl below ↦ get_or_append_left table (value ∷ []) false k (omega (arith, long)) ∙ before k below
      | inr at ↦
          let same : k ≡ number = omega arith in
          get_or_push table value false k (long ∙ sym same) ∙ (here ∙ ap (λ (n : ℕ). value_for gate (symbol_of inputs n)) (sym same))
    ]

-- the forms of the gates, place by place
pub forms_at : (gates : List NumberedGate) (forms : List GateForm) → AllZip IsForm gates forms → AreForms gates forms
forms_at gates forms zip place gate form at_gate at_form =
    let (other, at_other, is) = zip_get IsForm gates forms place gate zip at_gate in
    subst (IsForm gate) (same_Some other form (sym at_other ∙ at_form)) is

-- two tests that pass together answer alike
pub same_test : (a b : Bool) → (a ≡ true → b ≡ true) → (b ≡ true → a ≡ true) → a ≡ b
same_test true b there back = sym (there refl)
same_test false true there back = back refl
same_test false false there back = refl

-- cubes that are as wide as the gate hold what its rows hold
module _ (gate : NumberedGate) (number : ℕ) where
  abbrev same : Cube → Type 0
  same cube = cube.width ≡ length gate.inputs.items

  widths_alike : (cubes : List Cube) → All same cubes → list_any (λ cube. holds cube (symbol_of cube.width number)) cubes ≡ list_any (λ cube. holds cube (symbol_of (length gate.inputs.items) number)) cubes
  widths_alike [] all = refl
  widths_alike (cube ∷ cubes) all =
      ap (λ (n : ℕ). holds cube (symbol_of n number) || list_any (λ other. holds other (symbol_of other.width number)) cubes) (All-head same cube cubes all)
      ∙ ap (λ b. holds cube (symbol_of (length gate.inputs.items) number) || b) (widths_alike cubes (All-tail same cube cubes all))

pub same_width : (gate : NumberedGate) (cubes : List Cube) (number : ℕ) → IsCubes gate cubes → list_any (λ cube. holds cube (symbol_of cube.width number)) cubes ≡ list_any (λ row. row_holds row (symbol_of (length gate.inputs.items) number)) gate.rows
same_width gate cubes number is =
    widths_alike gate number cubes is.widths ∙ is.held (symbol_of (length gate.inputs.items) number) (length-symbol_of (length gate.inputs.items) number)

-- a test that adds nothing
pub or_false : (a b : Bool) → b ≡ false → a ≡ (a || b)
or_false true b none = refl
or_false false b none = sym none

-- the byte of a character holds what the character allows
byte_holds : (c : Option Bool) (bit : Bool) → character_holds (byte_of c) bit ≡ allows c bit
byte_holds (Some true) true = refl
byte_holds (Some true) false = refl
byte_holds (Some false) true = refl
byte_holds (Some false) false = refl
byte_holds None bit = refl

bytes_hold : (field : List (Option Bool)) (symbol : List Bool) → row_holds (map byte_of field) symbol ≡ characters_hold field symbol
bytes_hold [] [] = refl
bytes_hold [] (bit ∷ bits) = refl
bytes_hold (c ∷ field) [] = refl
bytes_hold (c ∷ field) (bit ∷ bits) = ap (λ b. b && row_holds (map byte_of field) bits) (byte_holds c bit) ∙ ap (λ b. allows c bit && b) (bytes_hold field bits)

-- a row holds what its cube does
pub cube_of_row : (cube : Cube) (row : List ℕ) (symbol : List Bool) → row ≡ text_of cube → row_holds row symbol ≡ holds cube symbol
cube_of_row cube row symbol is = ap (λ (r : List ℕ). row_holds r symbol) is ∙ bytes_hold (field_of cube) symbol

pub or_none : (b : Bool) → (b || false) ≡ b
or_none true = refl
or_none false = refl

-- one more cube, and one more row
pub held_more : (cubes : List Cube) (cube : Cube) (row : List ℕ) (symbol : List Bool) → row ≡ text_of cube → list_any (λ cube. holds cube symbol) (cubes ++ cube ∷ []) ≡ (list_any (λ cube. holds cube symbol) cubes || row_holds row symbol)
held_more cubes cube row symbol is =
    list_any-append (λ cube. holds cube symbol) cubes (cube ∷ [])
    ∙ ap (λ b. list_any (λ cube. holds cube symbol) cubes || b) (or_none (holds cube symbol) ∙ sym (cube_of_row cube row symbol is))

pub held_on_push : {V E : Type 0} (result : Result V E) (old new : List Cube) (cube : Cube) (row : List ℕ) (width : ℕ) → row ≡ text_of cube → OnOk result (new ≡ old ++ cube ∷ []) → OnOk result ((symbol : List Bool) → length symbol ≡ width → list_any (λ cube. holds cube symbol) new ≡ (list_any (λ cube. holds cube symbol) old || row_holds row symbol))
held_on_push (Ok _) old new cube row width is pushed = λ symbol wide. ap (list_any (λ cube. holds cube symbol)) pushed ∙ held_more old cube row symbol is
held_on_push (Err _) old new cube row width is pushed = tt

-- a row with a bad character holds nothing
bad_holds_none : (c : ℕ) (bit : Bool) → (IsCharacter c → ⊥) → character_holds c bit ≡ false
bad_holds_none c true bad = grind (arith, nat_tests, common_steps)
bad_holds_none c false bad = grind (arith, nat_tests, common_steps)

pub bad_row : (row : List ℕ) (symbol : List Bool) (place : ℕ) → place < length row → (IsCharacter (get_or row place 0) → ⊥) → row_holds row symbol ≡ false
bad_row [] symbol place lt bad = absurd (omega arith)
bad_row (c ∷ row) [] place lt bad = refl
bad_row (c ∷ row) (bit ∷ bits) zero lt bad = ap (λ b. b && row_holds row bits) (bad_holds_none c bit bad)
bad_row (c ∷ row) (bit ∷ bits) (suc place) lt bad =
    elim (character_holds c bit) as (λ b. (b && row_holds row bits) ≡ false) [
      | true ↦ bad_row row bits place (omega arith) bad
      | false ↦ refl
    ]

-- nor does one that is no cube of the width
pub no_cube : (row : List ℕ) (width : ℕ) (symbol : List Bool) (fail : CubeFail) → length symbol ≡ width → ((found : ℕ) → fail ≡ BadWidth found → length row ≢ width) → ((place : ℕ) → fail ≡ BadChar place → IsFirstBad row place) → row_holds row symbol ≡ false
no_cube row width symbol (BadWidth found) wide other bad = row_holds_other row symbol (λ e. other found refl (e ∙ wide))
no_cube row width symbol (BadChar place) wide other bad = let here = bad place refl in bad_row row symbol place here.inside here.bad
