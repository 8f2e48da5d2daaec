-- Lines give at most one record.
use Rattle.std.proofs.Common.{◌≡◌, ℕ, zero, suc, ◌<◌, ◌≤◌, ◌^◌, Bool, true, false, cond, eqb, min, List, [], ◌∷◌, length, map, Option, Some, None, bit_and, ap, sym, ◌∙◌, refl, subst, inl, inr, arith}
use Rattle.std.specs.Prelude.{slice_get}
use Rattle.std.specs.Int.{bit_at}
use Rattle.std.specs.List.{AllZip}
use Rattle.std.specs.Option.{option_map, option_or}
use Rattle.kiss2.specs.declared.line_kind.LineKind.TheVariants.{Reset}
use Rattle.std.proofs.lemmas.Bool.{cases_Bool, cases_lt, cases_order, eqb-true, false≢true}
use Rattle.std.proofs.lemmas.List.{length-map}
use Rattle.std.proofs.lemmas.Nat.Bits.{bit_at-lt, bit_at_above, bit_at_and, same_from_bits}
use Rattle.std.proofs.lemmas.Option.{get_or_from_slice_get, none-some, same_Some, slice_get_within}
use Rattle.std.proofs.Props.{props}
use Rattle.cubes.specs.declared.cube.Cube.{Cube}
use Rattle.cubes.specs.Cube.{field_of, text_of}
use Rattle.cubes.specs.Field.{byte_of, character, characters}
use Rattle.cubes.specs.Symbol.{bit}
use Rattle.hs_io.specs.declared.lines.Line.{Line}
use Rattle.kiss_file.specs.declared.file.KissFile.{KissFile}
use Rattle.kiss_file.specs.declared.file.KissRow.{KissRow}
use Rattle.kiss2.specs.Kiss.{IsNextOf, IsRecordOf, IsRowOf}
use Rattle.kiss_file.specs.Names.{AreDistinct}
use Rattle.kiss2.specs.Standing.{line_with, reset_name, row_lines, state_names}
use Rattle.kiss2.specs.Words.{current_field, field_at, next_field}
use Rattle.kiss2.specs.Laws.Once.{distinct_from_once, once-each_once}

-- cubes with the same numbers are one
module _ (d : Cube) where
  module _ (care value width : ℕ) where
    made : 0 < width → width ≤ 32 → bit_and care value ≡ value → care < 2 ^ width → Cube
    made p q r s = record { care = care; value = value; width = width; width_positive = p; width_bound = q; value_in_care = r; care_in_width = s }

  base : (p : 0 < d.width) (q : d.width ≤ 32) (r : bit_and d.care d.value ≡ d.value) (s : d.care < 2 ^ d.width) → made d.care d.value d.width p q r s ≡ d
  unfolding made
  base p q r s =
      let one : p ≡ d.width_positive = let prop : (x y : 0 < d.width) → x ≡ y = hlevel props in prop p d.width_positive in
      let two : q ≡ d.width_bound = let prop : (x y : d.width ≤ 32) → x ≡ y = hlevel props in prop q d.width_bound in
      let three : r ≡ d.value_in_care = let prop : (x y : bit_and d.care d.value ≡ d.value) → x ≡ y = hlevel props in prop r d.value_in_care in
      let four : s ≡ d.care_in_width = let prop : (x y : d.care < 2 ^ d.width) → x ≡ y = hlevel props in prop s d.care_in_width in
      ap (λ x. made d.care d.value d.width x q r s) one
      ∙ (ap (λ x. made d.care d.value d.width d.width_positive x r s) two
      ∙ (ap (λ x. made d.care d.value d.width d.width_positive d.width_bound x s) three
      ∙ ap (λ x. made d.care d.value d.width d.width_positive d.width_bound d.value_in_care x) four))

  same_values : (care value width : ℕ) → care ≡ d.care → value ≡ d.value → width ≡ d.width
      → (p : 0 < width) (q : width ≤ 32) (r : bit_and care value ≡ value) (s : care < 2 ^ width) → made care value width p q r s ≡ d
  same_values care value width e f g =
      subst (λ c. (p : 0 < width) (q : width ≤ 32) (r : bit_and c value ≡ value) (s : c < 2 ^ width) → made c value width p q r s ≡ d) (sym e)
      (subst (λ v. (p : 0 < width) (q : width ≤ 32) (r : bit_and d.care v ≡ v) (s : d.care < 2 ^ width) → made d.care v width p q r s ≡ d) (sym f)
      (subst (λ w. (p : 0 < w) (q : w ≤ 32) (r : bit_and d.care d.value ≡ d.value) (s : d.care < 2 ^ w) → made d.care d.value w p q r s ≡ d) (sym g) base))

same_numbers : (c d : Cube) → c.care ≡ d.care → c.value ≡ d.value → c.width ≡ d.width → c ≡ d
unfolding made
same_numbers c d e f g = same_values d c.care c.value c.width e f g c.width_positive c.width_bound c.value_in_care c.care_in_width

-- characters that are written alike are alike
byte_once : (a b : Option Bool) → byte_of a ≡ byte_of b → a ≡ b
byte_once None None e = refl
byte_once None (Some true) e = absurd (omega arith)
byte_once None (Some false) e = absurd (omega arith)
byte_once (Some true) None e = absurd (omega arith)
byte_once (Some false) None e = absurd (omega arith)
byte_once (Some true) (Some true) e = refl
byte_once (Some true) (Some false) e = absurd (omega arith)
byte_once (Some false) (Some true) e = absurd (omega arith)
byte_once (Some false) (Some false) e = refl

same_head : {X : Type 0} (x y : X) (xs ys : List X) → x ∷ xs ≡ y ∷ ys → (x ≡ y) × (xs ≡ ys)
same_head x y xs ys e = (cc, cc)

same_characters : (n care value care' value' : ℕ) → map byte_of (characters n care value) ≡ map byte_of (characters n care' value') → (k : ℕ) → k < n → character care value k ≡ character care' value' k
unfolding characters
same_characters zero care value care' value' e k lt = absurd (omega arith)
same_characters (suc n) care value care' value' e k lt =
    let parts = same_head _ _ _ _ e in
    elim (cases_lt k n) [
      | inl less ↦ same_characters n care value care' value' parts.1 k less
      | inr more ↦ let last : k ≡ n = omega arith in subst (λ m. character care value m ≡ character care' value' m) (sym last) (byte_once (character care value n) (character care' value' n) parts.0)
    ]

length-characters : (n care value : ℕ) → length (characters n care value) ≡ n
unfolding characters
length-characters zero care value = refl
length-characters (suc n) care value = ap suc (length-characters n care value)

-- a cube's text is as long as it is wide
pub length-text : (c : Cube) → length (text_of c) ≡ c.width
length-text c = length-map (field_of c) byte_of ∙ length-characters c.width c.care c.value

same_bit : (m n : ℕ) → m < 2 → n < 2 → eqb m 1 ≡ eqb n 1 → m ≡ n
same_bit zero zero lm ln e = refl
same_bit zero (suc zero) lm ln e = absurd (false≢true e)
same_bit (suc zero) zero lm ln e = absurd (false≢true (sym e))
same_bit (suc zero) (suc zero) lm ln e = refl
same_bit (suc (suc m)) n lm ln e = absurd (omega arith)
same_bit m (suc (suc n)) lm ln e = absurd (omega arith)

-- where the characters are alike, so are the cares, and the values under care
cares_alike : (a b : Bool) (x y : Bool) → cond a (Some x) None ≡ cond b (Some y) None → a ≡ b
cares_alike true true x y e = refl
cares_alike true false x y e = absurd (none-some x (sym e))
cares_alike false true x y e = absurd (none-some y e)
cares_alike false false x y e = refl

values_alike : (a : Bool) (x y : Bool) → a ≡ true → cond a (Some x) None ≡ cond a (Some y) None → x ≡ y
values_alike true x y is e = same_Some x y e
values_alike false x y is e = absurd (false≢true is)

module _ (c d : Cube) (same : text_of c ≡ text_of d) where
  same_width : c.width ≡ d.width
  same_width = sym (length-text c) ∙ (ap length same ∙ length-text d)

  at_place : (k : ℕ) → k < c.width → character c.care c.value k ≡ character d.care d.value k
  at_place = same_characters c.width c.care c.value d.care d.value (same ∙ ap (λ w. map byte_of (characters w d.care d.value)) (sym same_width))

  care_bits : (k : ℕ) → bit_at c.care k ≡ bit_at d.care k
  care_bits k =
      elim (cases_lt k c.width) [
        | inl inside ↦ same_bit (bit_at c.care k) (bit_at d.care k) (bit_at-lt c.care k) (bit_at-lt d.care k) (cares_alike (bit c.care k) (bit d.care k) (bit c.value k) (bit d.value k) (at_place k inside))
        | inr past ↦ let past' : d.width ≤ k = omega (arith, same_width) in bit_at_above c.care c.width k c.care_in_width past ∙ sym (bit_at_above d.care d.width k d.care_in_width past')
      ]

  same_care : c.care ≡ d.care
  same_care = same_from_bits c.care d.care care_bits

  value_bits : (k : ℕ) → bit_at c.value k ≡ bit_at d.value k
  value_bits k =
      let mine : min (bit_at c.care k) (bit_at c.value k) ≡ bit_at c.value k = sym (bit_at_and c.care c.value k) ∙ ap (λ n. bit_at n k) c.value_in_care in
      let yours : min (bit_at d.care k) (bit_at d.value k) ≡ bit_at d.value k = sym (bit_at_and d.care d.value k) ∙ ap (λ n. bit_at n k) d.value_in_care in
      let cares = care_bits k in
      elim (cases_Bool (bit c.care k)) [
        | inr dash ↦
            let none : bit_at c.care k ≡ 0 = zero_bit (bit_at c.care k) (bit_at-lt c.care k) dash in
            omega arith
        | inl is ↦
            let one : bit_at c.care k ≡ 1 = eqb-true (bit_at c.care k) 1 is in
            let inside : k < c.width = within k one in
            let both : cond (bit c.care k) (Some (bit c.value k)) None ≡ cond (bit c.care k) (Some (bit d.value k)) None =
            at_place k inside ∙ ap (λ t. cond (eqb t 1) (Some (bit d.value k)) None) (sym cares) in
            same_bit (bit_at c.value k) (bit_at d.value k) (bit_at-lt c.value k) (bit_at-lt d.value k) (values_alike (bit c.care k) (bit c.value k) (bit d.value k) is both)
      ] where
        zero_bit : (n : ℕ) → n < 2 → eqb n 1 ≡ false → n ≡ 0
        zero_bit zero lt e = refl
        zero_bit (suc zero) lt e = absurd (false≢true (sym e))
        zero_bit (suc (suc n)) lt e = absurd (omega arith)

        zero_one : ◌≡◌ {A = ℕ} 0 1 → ⊥
        zero_one e = omega arith

        within : (k : ℕ) → bit_at c.care k ≡ 1 → k < c.width
        within k one =
            elim (cases_lt k c.width) [
              | inl inside ↦ inside
              | inr past ↦ absurd (zero_one (sym (bit_at_above c.care c.width k c.care_in_width past) ∙ one))
            ]

  -- cubes with one text are one
  pub same_cube : c ≡ d
  same_cube = same_numbers c d same_care (same_from_bits c.value d.value value_bits) same_width

-- a state's number is one
pub number_once : (names : List (List ℕ)) (name : List ℕ) (i j : ℕ) → AreDistinct names → slice_get names i ≡ Some name → slice_get names j ≡ Some name → i ≡ j
number_once names name i j distinct first second =
    elim (cases_order i j) [
      | inl same ↦ same
      | inr (inl less) ↦ absurd (distinct i j name less (slice_get_within names j name second) (get_or_from_slice_get names i name name first ∙ sym (get_or_from_slice_get names j name name second)))
      | inr (inr more) ↦ absurd (distinct j i name more (slice_get_within names i name first) (get_or_from_slice_get names j name name second ∙ sym (get_or_from_slice_get names i name name first)))
    ]

pub next_once : (states : List (List ℕ)) (field : List ℕ) (to other : Option ℕ) → AreDistinct states → IsNextOf states field to → IsNextOf states field other → to ≡ other
next_once states field None None distinct first second = refl
next_once states field None (Some t) distinct first second = absurd (false≢true (sym second.0 ∙ first))
next_once states field (Some t) None distinct first second = absurd (false≢true (sym first.0 ∙ second))
next_once states field (Some t) (Some u) distinct first second = ap Some (number_once states field t u distinct first.1 second.1)

row_once : (states : List (List ℕ)) (line : Line) (row other : KissRow) → AreDistinct states → IsRowOf states line row → IsRowOf states line other → row ≡ other
row_once states line row other distinct first second =
    let cube = same_cube row.cube other.cube (first.cube ∙ sym second.cube) in
    let from = number_once states (current_field line) row.from other.from distinct first.from second.from in
    let to = next_once states (next_field line) row.to other.to distinct first.to second.to in
    let care = first.care ∙ sym second.care in
    let value = first.value ∙ sym second.value in
    make_same row.cube other.cube row.from other.from row.to other.to row.care other.care row.value other.value cube from to care value where
      make_same : (a b : Cube) (f g : ℕ) (t u : Option ℕ) (c d v w : ℕ) → a ≡ b → f ≡ g → t ≡ u → c ≡ d → v ≡ w
          → ◌≡◌ {A = KissRow} (record { cube = a; from = f; to = t; care = c; value = v }) (record { cube = b; from = g; to = u; care = d; value = w })
      make_same a b f g t u c d v w p q r s x = cc

rows_once : (states : List (List ℕ)) (lines : List Line) (rows others : List KissRow) → AreDistinct states → AllZip (IsRowOf states) lines rows → AllZip (IsRowOf states) lines others → rows ≡ others
rows_once states [] [] [] distinct first second = refl
rows_once states [] (row ∷ rows) others distinct first second = absurd first
rows_once states [] [] (row ∷ others) distinct first second = absurd second
rows_once states (line ∷ lines) [] others distinct first second = absurd first
rows_once states (line ∷ lines) (row ∷ rows) [] distinct first second = absurd second
rows_once states (line ∷ lines) (row ∷ rows) (other ∷ others) distinct first second =
    let one = row_once states line row other distinct first.0 second.0 in
    let rest = rows_once states lines rows others distinct first.1 second.1 in
    cc

pub states_distinct : (lines : List Line) → AreDistinct (state_names lines)
unfolding state_names
states_distinct lines = distinct_from_once _ (once-each_once _)

pub reset_there : (lines : List Line) → 0 < length (row_lines lines) → (name : List ℕ) × (reset_name lines ≡ Some name)
reset_there lines some = either (option_map (field_at 1) (line_with Reset lines)) (row_lines lines) some where
  either : (named : Option (List ℕ)) (rows : List Line) → 0 < length rows → (name : List ℕ) × (option_or named (option_map current_field (slice_get rows 0)) ≡ Some name)
  either (Some name) rows some = (name, refl)
  either None [] some = absurd (omega arith)
  either None (row ∷ rows) some = (current_field row, refl)

-- the record is one, where there is a row
pub one_record : (lines : List Line) (F G : KissFile) → 0 < length (row_lines lines) → IsRecordOf lines F → IsRecordOf lines G → F ≡ G
one_record lines F G some first second =
    let distinct : AreDistinct F.states = subst AreDistinct (sym first.states) (states_distinct lines) in
    let inputs = same_Some F.inputs G.inputs (sym first.inputs ∙ second.inputs) in
    let outputs = same_Some F.outputs G.outputs (sym first.outputs ∙ second.outputs) in
    let states : F.states ≡ G.states = first.states ∙ sym second.states in
    let other_rows : AllZip (IsRowOf F.states) (row_lines lines) G.rows = subst (λ names. AllZip (IsRowOf names) (row_lines lines) G.rows) (sym states) second.rows in
    let rows = rows_once F.states (row_lines lines) F.rows G.rows distinct first.rows other_rows in
    let input_names = first.input_names ∙ sym second.input_names in
    let output_names = first.output_names ∙ sym second.output_names in
    let named = reset_there lines some in
    let reset : F.reset ≡ G.reset = number_once F.states named.0 F.reset G.reset distinct (first.reset ∙ named.1) (ap (λ names. slice_get names G.reset) states ∙ (second.reset ∙ named.1)) in
    make_same F.inputs G.inputs F.outputs G.outputs F.reset G.reset F.states G.states F.rows G.rows F.input_names G.input_names F.output_names G.output_names inputs outputs reset states rows input_names output_names where
      make_same : (a b c d e f : ℕ) (g h : List (List ℕ)) (i j : List KissRow) (k l m n : Option (List (List ℕ))) → a ≡ b → c ≡ d → e ≡ f → g ≡ h → i ≡ j → k ≡ l → m ≡ n
          → ◌≡◌ {A = KissFile} (record { inputs = a; outputs = c; reset = e; states = g; rows = i; input_names = k; output_names = m })
          (record { inputs = b; outputs = d; reset = f; states = h; rows = j; input_names = l; output_names = n })
      make_same a b c d e f g h i j k l m n p q r s t u v = cc
