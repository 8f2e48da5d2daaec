-- Lines without a fault give a record.
use Rattle.std.proofs.Common.{◌≡◌, ℕ, zero, suc, ◌+◌, ◌-◌, ◌*◌, ◌<◌, ◌≤◌, ◌^◌, Bool, true, false, cond, eqb, List, [], ◌∷◌, length, map, Option, Some, None, bit_and, All, Contains, ap, sym, ◌∙◌, refl, subst, inl, inr, arith}
use Rattle.std.specs.Prelude.{slice_get}
use Rattle.std.specs.Int.{bit_at}
use Rattle.std.specs.List.{AllByRecursion, AllZip}
use Rattle.std.specs.Option.{option_map, option_or}
use Rattle.std.proofs.lemmas.Bool.{cases_Bool, cases_lt}
use Rattle.std.proofs.lemmas.Bool.Decides.{nat_tests}
use Rattle.std.proofs.lemmas.List.{get_or_default}
use Rattle.std.proofs.lemmas.List.Elements.{All-head, All-tail, recursion_from_All}
use Rattle.std.proofs.lemmas.Nat.Bits.{bit_at-zero, bit_at_and, bit_at_cat_high, bit_at_cat_low, same_from_bits}
use Rattle.std.proofs.lemmas.Option.{slice_get-get_or}
use Rattle.cubes.specs.declared.cube.Cube.{Cube}
use Rattle.cubes.specs.Cube.{text_of}
use Rattle.cubes.specs.Field.{IsCharacter, byte_of, characters}
use Rattle.hs_io.specs.declared.lines.Line.{Line}
use Rattle.kiss_file.specs.declared.file.KissFile.{KissFile}
use Rattle.kiss_file.specs.declared.file.KissRow.{KissRow}
use Rattle.kiss2.specs.declared.line_kind.LineKind.TheVariants.{InputNames, OutputNames, Reset}
use Rattle.kiss2.specs.Inner.FaultlessLines.{IsGoodRow, IsKnownRow}
use Rattle.kiss2.specs.Kiss.{HaveNoFault, IsNextOf, IsRecordOf, IsRowOf, closing_fault}
use Rattle.kiss2.specs.Standing.{line_with, names_said, reset_name, row_lines, state_names}
use Rattle.kiss2.specs.Words.{care_in, current_field, field_at, input_field, is_character_field, is_open, next_field, output_field, value_in}
use Rattle.kiss2.specs.Laws.Building.{character_at, field_length}
use Rattle.kiss2.specs.Laws.Closing.{reset_state, some_rows}
use Rattle.kiss2.specs.Laws.GoodLines.{counts_there, inputs_range, rows_good, rows_known}

-- the numbers of a field, its first character the highest bit
-- a character by its bits
abbrev character_by : ℕ → ℕ → Option Bool
character_by care value = cond (eqb care 1) (Some (eqb value 1)) None

care_digit : ℕ → ℕ
care_digit byte = cond (eqb byte 45) 0 1

value_digit : ℕ → ℕ
value_digit byte = cond (eqb byte 49) 1 0

care_number : List ℕ → ℕ
care_number [] = 0
care_number (b ∷ bs) = care_digit b * 2 ^ length bs + care_number bs

value_number : List ℕ → ℕ
value_number [] = 0
value_number (b ∷ bs) = value_digit b * 2 ^ length bs + value_number bs

care_digit-le : (b : ℕ) → care_digit b ≤ 1
unfolding care_digit
care_digit-le b = grind arith

value_digit-le : (b : ℕ) → value_digit b ≤ care_digit b
unfolding value_digit care_digit
value_digit-le b = grind (arith, nat_tests)

under : (d n r : ℕ) → d ≤ 1 → r < 2 ^ n → d * 2 ^ n + r < 2 ^ suc n
under zero n r le lt = let t : 2 ^ suc n ≡ 2 * 2 ^ n = omega arith in rw t (omega arith)
under (suc zero) n r le lt = let t : 2 ^ suc n ≡ 2 * 2 ^ n = omega arith in rw t (omega arith)
under (suc (suc d)) n r le lt = absurd (omega arith)

care_below : (bs : List ℕ) → care_number bs < 2 ^ length bs
unfolding care_number
care_below [] = omega arith
care_below (b ∷ bs) = under (care_digit b) (length bs) (care_number bs) (care_digit-le b) (care_below bs)

value_below : (bs : List ℕ) → value_number bs < 2 ^ length bs
unfolding value_number
value_below [] = omega arith
value_below (b ∷ bs) = let le = value_digit-le b in let one = care_digit-le b in under (value_digit b) (length bs) (value_number bs) (omega arith) (value_below bs)

small_bit : (d e k : ℕ) → d ≤ e → e ≤ 1 → bit_at d k ≤ bit_at e k
small_bit zero e k de le = rw (bit_at-zero k) (omega arith)
small_bit (suc zero) zero k de le = absurd (omega arith)
small_bit (suc zero) (suc zero) k de le = omega arith
small_bit (suc zero) (suc (suc e)) k de le = absurd (omega arith)
small_bit (suc (suc d)) e k de le = absurd (omega arith)

-- a value has no bit outside its care
bits_inside : (bs : List ℕ) (k : ℕ) → bit_at (value_number bs) k ≤ bit_at (care_number bs) k
unfolding value_number care_number
bits_inside [] k = omega arith
bits_inside (b ∷ bs) k =
    elim (cases_lt k (length bs)) [
      | inl low ↦ rw (bit_at_cat_low (value_digit b) (length bs) (value_number bs) k low, bit_at_cat_low (care_digit b) (length bs) (care_number bs) k low) (bits_inside bs k)
      | inr high ↦ rw (bit_at_cat_high (value_digit b) (length bs) (value_number bs) k (value_below bs) high, bit_at_cat_high (care_digit b) (length bs) (care_number bs) k (care_below bs) high)
          (small_bit (value_digit b) (care_digit b) (k - length bs) (value_digit-le b) (care_digit-le b))
    ]

and_inside : (bs : List ℕ) → bit_and (care_number bs) (value_number bs) ≡ value_number bs
and_inside bs = same_from_bits (bit_and (care_number bs) (value_number bs)) (value_number bs) (λ k. let le = bits_inside bs k in bit_at_and (care_number bs) (value_number bs) k ∙ omega arith)

characters-low : (n care value d e top : ℕ) → n ≤ top → characters n (d * 2 ^ top + care) (e * 2 ^ top + value) ≡ characters n care value
unfolding characters
characters-low zero care value d e top le = refl
characters-low (suc n) care value d e top le =
    let cares = bit_at_cat_low d top care n (omega arith) in
    let values = bit_at_cat_low e top value n (omega arith) in
    ap (λ b. character_by b (bit_at (e * 2 ^ top + value) n) ∷ characters n (d * 2 ^ top + care) (e * 2 ^ top + value)) cares
    ∙ (ap (λ b. character_by (bit_at care n) b ∷ characters n (d * 2 ^ top + care) (e * 2 ^ top + value)) values
    ∙ ap (λ rest. character_by (bit_at care n) (bit_at value n) ∷ rest) (characters-low n care value d e top (omega arith)))

byte_at : (b : ℕ) → IsCharacter b → byte_of (character_by (care_digit b) (value_digit b)) ≡ b
unfolding care_digit value_digit
byte_at b (inl is) = rw is refl
byte_at b (inr (inl is)) = rw is refl
byte_at b (inr (inr is)) = rw is refl

digit_bit : (d : ℕ) → d ≤ 1 → bit_at d 0 ≡ d
digit_bit zero le = refl
digit_bit (suc zero) le = refl
digit_bit (suc (suc d)) le = absurd (omega arith)

-- they spell it
spelled : (bs : List ℕ) → AllByRecursion IsCharacter bs → map byte_of (characters (length bs) (care_number bs) (value_number bs)) ≡ bs
unfolding characters care_number value_number
spelled [] good = refl
spelled (b ∷ bs) (good, more) =
    let n = length bs in
    let one = care_digit-le b in
    let le = value_digit-le b in
    let none : n - n ≡ 0 = omega arith in
    let care : bit_at (care_digit b * 2 ^ n + care_number bs) n ≡ care_digit b = bit_at_cat_high (care_digit b) n (care_number bs) n (care_below bs) (omega arith) ∙ (ap (bit_at (care_digit b)) none ∙ digit_bit (care_digit b) one) in
    let value : bit_at (value_digit b * 2 ^ n + value_number bs) n ≡ value_digit b = bit_at_cat_high (value_digit b) n (value_number bs) n (value_below bs) (omega arith) ∙ (ap (bit_at (value_digit b)) none ∙ digit_bit (value_digit b) (omega arith)) in
    ap (λ c. byte_of (character_by c (bit_at (value_digit b * 2 ^ n + value_number bs) n)) ∷ map byte_of (characters n (care_digit b * 2 ^ n + care_number bs) (value_digit b * 2 ^ n + value_number bs))) care
    ∙ (ap (λ v. byte_of (character_by (care_digit b) v) ∷ map byte_of (characters n (care_digit b * 2 ^ n + care_number bs) (value_digit b * 2 ^ n + value_number bs))) value
    ∙ (ap (λ c. c ∷ map byte_of (characters n (care_digit b * 2 ^ n + care_number bs) (value_digit b * 2 ^ n + value_number bs))) (byte_at b good)
    ∙ ap (λ rest. b ∷ rest) (ap (map byte_of) (characters-low n (care_number bs) (value_number bs) (care_digit b) (value_digit b) n (omega arith)) ∙ spelled bs more)))

-- a field of characters is a cube's
a_cube : (k : ℕ) (field : List ℕ) → 1 ≤ k → k ≤ 32 → is_character_field k field ≡ true → (c : Cube) × (text_of c ≡ field)
a_cube k field some few good =
    let long : length field ≡ k = field_length k field good in
    let all : All IsCharacter field = λ i d lt. subst IsCharacter (get_or_default field i 0 d lt) (character_at k field i good lt) in (
      record {
        care = care_number field;
        value = value_number field;
        width = k;
        width_positive = some;
        width_bound = few;
        value_in_care = and_inside field;
        care_in_width = subst (λ n. care_number field < 2 ^ n) long (care_below field);
      },
      ap (λ n. map byte_of (characters n (care_number field) (value_number field))) (sym long) ∙ spelled field (recursion_from_All IsCharacter field all),
    )

a_number : (states : List (List ℕ)) (name : List ℕ) → Contains states name → (n : ℕ) × (slice_get states n ≡ Some name)
a_number states name (n, within, same) = (n, slice_get-get_or states n name within ∙ ap Some same)

a_next : (states : List (List ℕ)) (field : List ℕ) → (is_open field ≡ false → Contains states field) → (to : Option ℕ) × IsNextOf states field to
a_next states field known =
    elim (cases_Bool (is_open field)) [
      | inl free ↦ (None, free)
      | inr named ↦ let n = a_number states field (known named) in (Some n.0, (named, n.1))
    ]

a_row : (states : List (List ℕ)) (k o : ℕ) (line : Line) → 1 ≤ k → k ≤ 32 → IsGoodRow k o line → IsKnownRow states line → (row : KissRow) × IsRowOf states line row
a_row states k o line some few good known =
    let cube = a_cube k (input_field line) some few good.input in
    let from = a_number states (current_field line) known.current in
    let to = a_next states (next_field line) known.next in (
      record { cube = cube.0; from = from.0; to = to.0; care = care_in (output_field line); value = value_in (output_field line) },
      record { cube = cube.1; from = from.1; to = to.1; care = refl; value = refl },
    )

all_rows : (states : List (List ℕ)) (k o : ℕ) (lines : List Line) → 1 ≤ k → k ≤ 32 → All (IsGoodRow k o) lines → All (IsKnownRow states) lines → (rows : List KissRow) × AllZip (IsRowOf states) lines rows
all_rows states k o [] some few good known = ([], tt)
all_rows states k o (line ∷ lines) some few good known =
    let row = a_row states k o line some few (All-head (IsGoodRow k o) line lines good) (All-head (IsKnownRow states) line lines known) in
    let rows = all_rows states k o lines some few (All-tail (IsGoodRow k o) line lines good) (All-tail (IsKnownRow states) line lines known) in
    (row.0 ∷ rows.0, (row.1, rows.1))

-- the number of the reset state
a_reset : (lines : List Line) (k o : ℕ) → closing_fault lines ≡ None → All (IsKnownRow (state_names lines)) (row_lines lines) → (n : ℕ) × (slice_get (state_names lines) n ≡ reset_name lines)
a_reset lines k o closed known = either (line_with Reset lines) refl where
  first : (rows : List Line) → 0 < length rows → All (IsKnownRow (state_names lines)) rows → (n : ℕ) × (slice_get (state_names lines) n ≡ option_map current_field (slice_get rows 0))
  first [] some known = absurd (omega arith)
  first (row ∷ rows) some known = a_number (state_names lines) (current_field row) (All-head (IsKnownRow (state_names lines)) row rows known).current

  either : (named : Option Line) → line_with Reset lines ≡ named
      → (n : ℕ) × (slice_get (state_names lines) n ≡ option_or (option_map (field_at 1) named) (option_map current_field (slice_get (row_lines lines) 0)))
  either (Some line) is = a_number (state_names lines) (field_at 1 line) (reset_state lines line closed is)
  either None is = first (row_lines lines) (some_rows lines closed) known

-- the record
pub a_record : (lines : List Line) → HaveNoFault lines → closing_fault lines ≡ None → (F : KissFile) × IsRecordOf lines F
a_record lines faultless closed =
    let counts = counts_there lines faultless (some_rows lines closed) in
    let k = counts.0 in
    let o = counts.1 in
    let range = inputs_range lines faultless k counts.2 in
    let good = rows_good lines faultless k o counts.2 counts.3 in
    let known = rows_known lines k o good in
    let rows = all_rows (state_names lines) k o (row_lines lines) range.0 range.1 good known in
    let reset = a_reset lines k o closed known in (
      record { inputs = k; outputs = o; reset = reset.0; states = state_names lines; rows = rows.0; input_names = names_said InputNames lines; output_names = names_said OutputNames lines },
      record { inputs = counts.2; outputs = counts.3; states = refl; reset = reset.1; rows = rows.1; input_names = refl; output_names = refl },
    )
