-- What lines without a fault have.
use Rattle.std.proofs.Common.{◌≡◌, ℕ, zero, suc, ◌<◌, ◌≤◌, Bool, true, false, not, eqb, ltb, cond, ◌||◌, List, [], ◌∷◌, ◌++◌, length, get_or, take, drop, Option, Some, None, All, ap, sym, ◌∙◌, refl, subst, inl, inr, arith}
use Rattle.std.specs.Prelude.{filter, find, slice_get}
use Rattle.std.specs.List.{position_or_len}
use Rattle.std.specs.Option.{option_map, option_or}
use Rattle.std.proofs.lemmas.Bool.{cases_Bool, eqb-true, false≢true, ltb-false, not-false, ltb-true, not_from_false, or_left, or_parts, or_right}
use Rattle.std.proofs.lemmas.List.{length_push, take-append-drop, take_all}
use Rattle.std.proofs.lemmas.List.Elements.{All-cons, All-nil}
use Rattle.std.proofs.lemmas.List.Folds.{find-append, find_at, list_any-append}
use Rattle.std.proofs.lemmas.List.Sums.{passes_at_first}
use Rattle.std.proofs.lemmas.Bool.Decides.{nat_tests}
use Rattle.std.specs.Str.{bytes_eq}
use Rattle.std.proofs.lemmas.Option.{get_or_from_slice_get, none-some, same_Some, slice_get-get_or, slice_get_within}
use Rattle.hs_io.specs.declared.lines.Line.{Line}
use Rattle.kiss2.specs.declared.fault.KissKind.{KissKind}
use Rattle.kiss2.specs.declared.fault.KissKind.TheVariants.{AnyState, BadByte, BadCube, BadFields, BadNumber, BadOutput, MissingCounts, OverLimit, Repeated}
use Rattle.kiss2.specs.declared.fault.KissLimit.{KissLimit}
use Rattle.kiss2.specs.declared.fault.KissLimit.TheVariants.{Inputs, Outputs, NameBytes, Rows, States}
use Rattle.kiss2.specs.declared.line_kind.LineKind.{LineKind}
use Rattle.kiss2.specs.declared.line_kind.LineKind.TheVariants.{InputCount, OutputCount, Row}
use Rattle.kiss2.specs.Faults.{count_fault, fault_in, fault_where, first_of, form_fault, is_not_one, long_name, operand_of, row_fault, stands_again}
use Rattle.kiss2.specs.Inner.FaultlessLines.{IsGoodRow, IsKnownRow}
use Rattle.kiss2.specs.Kiss.{HaveNoFault}
use Rattle.kiss2.specs.Standing.{each_once, inputs_said, line_with, names_in_column, outputs_said, row_lines, state_names}
use Rattle.kiss2.specs.Words.{current_field, field_at, input_field, is_character_field, is_name, is_decimal, is_of_kind, is_open, line_kind_of, next_field, decimal_value, operands, output_field, same_kind}
use Rattle.kiss2.specs.Laws.Finding.{contained_from_test}
use Rattle.kiss2.specs.Laws.Once.{among, among-each_once, itself, names_same}
use Rattle.kiss2.specs.Laws.Stood.{operand_field, rows_more, rows_stay}

-- no fault of a list: none of the first, and none of the rest
pub none_first : (fault : Option KissKind) (faults : List (Option KissKind)) → first_of (fault ∷ faults) ≡ None → (fault ≡ None) × (first_of faults ≡ None)
none_first None faults none = (refl, none)
none_first (Some kind) faults none = absurd (none-some kind (sym none))

pub none_where : (test : Bool) (kind : KissKind) → fault_where test kind ≡ None → test ≡ false
none_where true kind none = absurd (none-some kind (sym none))
none_where false kind none = refl

-- the first test of a list fails
pub passes : (test : Bool) (kind : KissKind) (faults : List (Option KissKind)) → first_of (fault_where test kind ∷ faults) ≡ None → (test ≡ false) × (first_of faults ≡ None)
passes test kind faults none = let p = none_first (fault_where test kind) faults none in (none_where test kind p.0, p.1)

-- a line without a fault
pub record IsFine (before : List Line) (line : Line) : Type 0 where
  pub clean : line.bad ≡ false
  pub fresh : stands_again (line_kind_of line) before ≡ false
  pub form : form_fault (line_kind_of line) before line ≡ None

pub fine : (before : List Line) (line : Line) → fault_in before line ≡ None → IsFine before line
unfolding fault_in
fine before line none =
    let bad = passes line.bad BadByte _ none in
    let again = passes (stands_again (line_kind_of line) before) Repeated _ bad.1 in
    let rest = none_first (form_fault (line_kind_of line) before line) [] again.1 in
    record { clean = bad.0; fresh = again.0; form = rest.0 }

-- where it is of a kind
pub form_at : (before : List Line) (line : Line) (kind : LineKind) → fault_in before line ≡ None → line_kind_of line ≡ kind → form_fault kind before line ≡ None
form_at before line kind none is = subst (λ k. form_fault k before line ≡ None) is (fine before line none).form

pub kind_row : (kind : LineKind) → same_kind Row kind ≡ true → kind ≡ Row
kind_row Row e = refl
kind_row _ e = absurd (false≢true e)

pub kind_inputs : (kind : LineKind) → same_kind InputCount kind ≡ true → kind ≡ InputCount
kind_inputs InputCount e = refl
kind_inputs _ e = absurd (false≢true e)

pub kind_outputs : (kind : LineKind) → same_kind OutputCount kind ≡ true → kind ≡ OutputCount
kind_outputs OutputCount e = refl
kind_outputs _ e = absurd (false≢true e)

-- a line that is found stands there
pub record IsFound (lines : List Line) (kind : LineKind) (line : Line) (place : ℕ) : Type 0 where
  pub stands : slice_get lines place ≡ Some line
  pub kind_is : is_of_kind kind line ≡ true

pub found : (lines : List Line) (kind : LineKind) (line : Line) → line_with kind lines ≡ Some line → (place : ℕ) × IsFound lines kind line place
found lines kind line is =
    let place = position_or_len (is_of_kind kind) lines in
    let stands : slice_get lines place ≡ Some line = sym (find_at (is_of_kind kind) lines) ∙ is in
    let within = slice_get_within lines place line stands in
    (place, record { stands = stands; kind_is = subst (λ l. is_of_kind kind l ≡ true) (get_or_from_slice_get lines place line line stands) (passes_at_first (is_of_kind kind) lines line within) })

-- what was found among the first lines is found among all
pub found_on : (lines : List Line) (place : ℕ) (kind : LineKind) (line : Line) → line_with kind (take place lines) ≡ Some line → line_with kind lines ≡ Some line
found_on lines place kind line is =
    ap (λ ls. line_with kind ls) (sym (take-append-drop place lines))
    ∙ (find-append (is_of_kind kind) (take place lines) (drop place lines) ∙ ap (λ o. option_or o (line_with kind (drop place lines))) is)

-- a number of inputs or outputs without a fault
pub count_fine : (what : KissLimit) (limit : ℕ) (fields : List (List ℕ)) → count_fault what limit fields ≡ None → (1 ≤ decimal_value (operand_of fields)) × (decimal_value (operand_of fields) ≤ limit)
count_fine what limit fields none =
    let n = decimal_value (operand_of fields) in
    let last : List (Option KissKind) = fault_where (ltb limit n) (OverLimit what n) ∷ [] in
    let bad : Bool = not (is_decimal (operand_of fields)) in
    let one = passes (is_not_one fields) BadFields (fault_where (bad || eqb n 0) BadNumber ∷ last) none in
    let number = passes (bad || eqb n 0) BadNumber last one.1 in
    let over = passes (ltb limit n) (OverLimit what n) [] number.1 in
    let not_zero : eqb n 0 ≡ false = (or_parts bad (eqb n 0) number.0).1 in
    (grind (arith, nat_tests), ltb-false limit n over.0)

module _ (lines : List Line) (faultless : HaveNoFault lines) where
  pub inputs_range : (count : ℕ) → inputs_said lines ≡ Some count → (1 ≤ count) × (count ≤ 32)
  inputs_range count is = at (line_with InputCount lines) refl is where
    at : (o : Option Line) → line_with InputCount lines ≡ o → option_map (λ l. decimal_value (field_at 1 l)) o ≡ Some count → (1 ≤ count) × (count ≤ 32)
    at None e is = absurd (none-some count is)
    at (Some line) e is =
        let here = found lines InputCount line e in
        let form = form_at (take here.0 lines) line InputCount (faultless here.0 line here.1.stands) (kind_inputs (line_kind_of line) here.1.kind_is) in
        let range = count_fine Inputs 32 (operands line) form in
        let same : decimal_value (operand_of (operands line)) ≡ count = ap decimal_value (operand_field line) ∙ same_Some _ count is in
        subst (λ n. (1 ≤ n) × (n ≤ 32)) same range

  pub outputs_range : (count : ℕ) → outputs_said lines ≡ Some count → (1 ≤ count) × (count ≤ 64)
  outputs_range count is = at (line_with OutputCount lines) refl is where
    at : (o : Option Line) → line_with OutputCount lines ≡ o → option_map (λ l. decimal_value (field_at 1 l)) o ≡ Some count → (1 ≤ count) × (count ≤ 64)
    at None e is = absurd (none-some count is)
    at (Some line) e is =
        let here = found lines OutputCount line e in
        let form = form_at (take here.0 lines) line OutputCount (faultless here.0 line here.1.stands) (kind_outputs (line_kind_of line) here.1.kind_is) in
        let range = count_fine Outputs 64 (operands line) form in
        let same : decimal_value (operand_of (operands line)) ≡ count = ap decimal_value (operand_field line) ∙ same_Some _ count is in
        subst (λ n. (1 ≤ n) × (n ≤ 64)) same range

short_one : (test : Bool) (name : List ℕ) (rest : List (List ℕ)) → long_name (cond test (name ∷ rest) rest) ≡ None → (test ≡ true → length name ≤ 64) × (long_name rest ≡ None)
short_one true name rest none = first (ltb 64 (length name)) refl none where
  first : (long : Bool) → ltb 64 (length name) ≡ long → option_map (λ n. OverLimit NameBytes (length n)) (cond long (Some name) (find (λ n. ltb 64 (length n)) rest)) ≡ None
      → (true ≡ true → length name ≤ 64) × (long_name rest ≡ None)
  first true e none = absurd (none-some (OverLimit NameBytes (length name)) (sym none))
  first false e none = ((λ _. ltb-false 64 (length name) e), none)
short_one false name rest none = ((λ t. absurd (false≢true t)), none)

-- a row without a fault, after others
pub record IsFineRow (inputs outputs : Option ℕ) (rows : ℕ) (states : List (List ℕ)) (line : Line) (k o : ℕ) : Type 0 where
  pub inputs_are : inputs ≡ Some k
  pub outputs_are : outputs ≡ Some o
  pub good : IsGoodRow k o line
  pub few_rows : rows < 65536
  pub few_states : length states ≤ 256

pub row_fine : (inputs outputs : Option ℕ) (rows : ℕ) (states : List (List ℕ)) (line : Line) → row_fault inputs outputs rows states line ≡ None → (k : ℕ) × (o : ℕ) × IsFineRow inputs outputs rows states line k o
row_fine None outputs rows states line none = absurd (none-some MissingCounts (sym none))
row_fine (Some k) None rows states line none = absurd (none-some MissingCounts (sym none))
row_fine (Some k) (Some o) rows states line none =
    let fields = passes (not (eqb (length line.fields) 4)) BadFields _ none in
    let few = passes (not (ltb rows 65536)) (OverLimit Rows 65537) _ fields.1 in
    let cube = passes (not (is_character_field k (input_field line))) BadCube _ few.1 in
    let any = passes (is_open (current_field line)) AnyState _ cube.1 in
    let names = none_first (long_name (filter is_name (current_field line ∷ next_field line ∷ []))) _ any.1 in
    let first = short_one (is_name (current_field line)) (current_field line) (filter is_name (next_field line ∷ [])) (both names.0) in
    let second = short_one (is_name (next_field line)) (next_field line) [] first.1 in
    let states_few = passes (ltb 256 (length states)) (OverLimit States 257) _ names.1 in
    let output = passes (not (is_character_field o (output_field line))) BadOutput _ states_few.1 in (
      k,
      o,
      record {
        inputs_are = refl;
        outputs_are = refl;
        good = record {
          fields = eqb-true (length line.fields) 4 (not-false _ fields.0);
          input = not-false _ cube.0;
          current = any.0;
          current_short = first.0 (not_from_false _ any.0);
          next_short = λ e. second.0 (not_from_false _ e);
          output = not-false _ output.0;
        };
        few_rows = ltb-true rows 65536 (not-false _ few.0);
        few_states = ltb-false 256 (length states) states_few.0;
      },
    ) where
      both : long_name (filter is_name (current_field line ∷ next_field line ∷ [])) ≡ None
          → long_name (cond (is_name (current_field line)) (current_field line ∷ filter is_name (next_field line ∷ [])) (filter is_name (next_field line ∷ []))) ≡ None
      both e = e

pub some_from_map : {X Y : Type 0} (f : X → Y) (o : Option X) (y : Y) → option_map f o ≡ Some y → (x : X) × (o ≡ Some x)
some_from_map f None y e = absurd (none-some y e)
some_from_map f (Some x) y e = (x, refl)

-- what each kept element has
pub all_kept : {X : Type 0} (p : X → Bool) (P : X → Type 0) (xs : List X) → ((place : ℕ) (x : X) → slice_get xs place ≡ Some x → p x ≡ true → P x) → All P (filter p xs)
all_kept p P [] each = All-nil P
all_kept p P (x ∷ xs) each =
    let rest = all_kept p P xs (λ place y stands passes. each (suc place) y stands passes) in
    elim (cases_Bool (p x)) [
      | inl kept ↦ subst (λ t. All P (cond t (x ∷ filter p xs) (filter p xs))) (sym kept) (All-cons P x (filter p xs) (each 0 x refl kept) rest)
      | inr dropped ↦ subst (λ t. All P (cond t (x ∷ filter p xs) (filter p xs))) (sym dropped) rest
    ]

-- one line more
pub take_step : (xs : List Line) (i : ℕ) (x : Line) → slice_get xs i ≡ Some x → take (suc i) xs ≡ take i xs ++ x ∷ []
take_step [] i x e = absurd (none-some x e)
take_step (y ∷ ys) zero x e = ap (λ z. z ∷ []) (same_Some y x e)
take_step (y ∷ ys) (suc i) x e = ap (λ zs. y ∷ zs) (take_step ys i x e)

none_few : length (state_names []) ≤ 256
unfolding state_names each_once
none_few = omega arith

module _ (lines : List Line) (faultless : HaveNoFault lines) where
  -- a row among them
  pub row_there : (place : ℕ) (line : Line) → slice_get lines place ≡ Some line → line_kind_of line ≡ Row
      → (k : ℕ) × (o : ℕ) × IsFineRow (inputs_said (take place lines)) (outputs_said (take place lines)) (length (row_lines (take place lines))) (state_names (take place lines ++ line ∷ [])) line k o
  row_there place line stands kind = row_fine _ _ _ _ line (form_at (take place lines) line Row (faultless place line stands) kind)

  pub inputs_on : (place k : ℕ) → inputs_said (take place lines) ≡ Some k → inputs_said lines ≡ Some k
  inputs_on place k is =
      let line = some_from_map (λ l. decimal_value (field_at 1 l)) (line_with InputCount (take place lines)) k is in
      ap (option_map (λ l. decimal_value (field_at 1 l))) (found_on lines place InputCount line.0 line.1 ∙ sym line.1) ∙ is

  pub outputs_on : (place o : ℕ) → outputs_said (take place lines) ≡ Some o → outputs_said lines ≡ Some o
  outputs_on place o is =
      let line = some_from_map (λ l. decimal_value (field_at 1 l)) (line_with OutputCount (take place lines)) o is in
      ap (option_map (λ l. decimal_value (field_at 1 l))) (found_on lines place OutputCount line.0 line.1 ∙ sym line.1) ∙ is

  -- each row, with the numbers of inputs and outputs
  pub rows_good : (k o : ℕ) → inputs_said lines ≡ Some k → outputs_said lines ≡ Some o → All (IsGoodRow k o) (row_lines lines)
  rows_good k o inputs outputs =
      all_kept (is_of_kind Row) (IsGoodRow k o) lines
      (λ place line stands row.
      let there = row_there place line stands (kind_row (line_kind_of line) row) in
      let same_k : there.0 ≡ k = same_Some there.0 k (sym (inputs_on place there.0 there.2.inputs_are) ∙ inputs) in
      let same_o : there.1 ≡ o = same_Some there.1 o (sym (outputs_on place there.1 there.2.outputs_are) ∙ outputs) in
      subst (λ n. IsGoodRow n o line) same_k (subst (λ n. IsGoodRow there.0 n line) same_o there.2.good))

  -- there are counts where there is a row
  pub counts_there : 0 < length (row_lines lines) → (k : ℕ) × (o : ℕ) × (inputs_said lines ≡ Some k) × (outputs_said lines ≡ Some o)
  counts_there some =
      let first = some_kept (is_of_kind Row) lines some in
      let there = row_there first.0 first.1 first.2 (kind_row (line_kind_of first.1) first.3) in
      (there.0, there.1, inputs_on first.0 there.0 there.2.inputs_are, outputs_on first.0 there.1 there.2.outputs_are) where
        some_kept : {X : Type 0} (p : X → Bool) (xs : List X) → 0 < length (filter p xs) → (place : ℕ) × (x : X) × (slice_get xs place ≡ Some x) × (p x ≡ true)
        some_kept p [] some = absurd (omega arith)
        some_kept p (x ∷ xs) some =
            elim (cases_Bool (p x)) [
              | inl kept ↦ (0, x, refl, kept)
              | inr dropped ↦
                  let rest = some_kept p xs (subst (λ t. 0 < length (cond t (x ∷ filter p xs) (filter p xs))) dropped some) in
                  (suc rest.0, rest.1, rest.2, rest.3)
            ]

  -- there are at most 256 states and 65,536 rows
  pub few_up_to : (count : ℕ) → count ≤ length lines → (length (state_names (take count lines)) ≤ 256) × (length (row_lines (take count lines)) ≤ 65536)
  few_up_to zero le = (none_few, omega arith)
  few_up_to (suc count) le =
      let before = few_up_to count (omega arith) in
      let line = at_place lines count (omega arith) in
      let more : take (suc count) lines ≡ take count lines ++ line.0 ∷ [] = take_step lines count line.0 line.1 in
      elim (cases_Bool (is_of_kind Row line.0)) [
        | inl row ↦
            let kind = kind_row (line_kind_of line.0) row in
            let there = row_there count line.0 line.1 kind in
            let fewer = there.2.few_rows in
            (rw more there.2.few_states, rw (more, rows_more (take count lines) line.0 kind) (omega (arith, length_push (row_lines (take count lines)) line.0)))
        | inr other ↦
            let same : row_lines (take count lines ++ line.0 ∷ []) ≡ row_lines (take count lines) = rows_stay (take count lines) line.0 (line_kind_of line.0) refl other in
            (rw (more, names_same (take count lines) (take count lines ++ line.0 ∷ []) same) before.0, rw (more, same) before.1)
      ] where
        at_place : (xs : List Line) (i : ℕ) → i < length xs → (x : Line) × (slice_get xs i ≡ Some x)
        at_place [] i lt = absurd (omega arith)
        at_place (x ∷ xs) zero lt = (x, refl)
        at_place (x ∷ xs) (suc i) lt = at_place xs i (omega arith)

  pub few : (length (state_names lines) ≤ 256) × (length (row_lines lines) ≤ 65536)
  few = subst (λ ls. (length (state_names ls) ≤ 256) × (length (row_lines ls) ≤ 65536)) (take_all (length lines) lines (omega arith)) (few_up_to (length lines) (omega arith))

-- a name that stands at a place of a row is among the names of that place
name_at : (place : ℕ) (rows : List Line) (k : ℕ) (row : Line) → slice_get rows k ≡ Some row → is_name (field_at place row) ≡ true → among (field_at place row) (names_in_column place rows) ≡ true
name_at place [] k row stands name = absurd (none-some row stands)
name_at place (r ∷ rows) zero row stands name =
    let same : r ≡ row = same_Some r row stands in
    subst (λ t. among (field_at place row) (cond t (field_at place r ∷ names_in_column place rows) (names_in_column place rows)) ≡ true) (sym (subst (λ l. is_name (field_at place l) ≡ true) (sym same) name))
    (or_left (bytes_eq (field_at place row) (field_at place r)) (among (field_at place row) (names_in_column place rows))
    (subst (λ l. bytes_eq (field_at place row) (field_at place l) ≡ true) (sym same) (itself (field_at place row))))
name_at place (r ∷ rows) (suc k) row stands name =
    let later = name_at place rows k row stands name in
    elim (cases_Bool (is_name (field_at place r))) [
      | inl kept ↦ subst (λ t. among (field_at place row) (cond t (field_at place r ∷ names_in_column place rows) (names_in_column place rows)) ≡ true) (sym kept)
          (or_right (bytes_eq (field_at place row) (field_at place r)) (among (field_at place row) (names_in_column place rows)) later)
      | inr dropped ↦ subst (λ t. among (field_at place row) (cond t (field_at place r ∷ names_in_column place rows) (names_in_column place rows)) ≡ true) (sym dropped) later
    ]

pub among_states : (name : List ℕ) (lines : List Line) → among name (state_names lines) ≡ (among name (names_in_column 1 (row_lines lines)) || among name (names_in_column 2 (row_lines lines)))
unfolding state_names
among_states name lines =
    among-each_once name (names_in_column 1 (row_lines lines) ++ names_in_column 2 (row_lines lines)) ∙ list_any-append (bytes_eq name) (names_in_column 1 (row_lines lines)) (names_in_column 2 (row_lines lines))

-- the names on rows are names of states
pub rows_known : (lines : List Line) (k o : ℕ) → All (IsGoodRow k o) (row_lines lines) → All (IsKnownRow (state_names lines)) (row_lines lines)
rows_known lines k o good place d inside =
    let rows = row_lines lines in
    let row = get_or rows place d in
    let stands : slice_get rows place ≡ Some row = slice_get-get_or rows place d inside in
    record {
      current = contained_from_test (state_names lines) (current_field row)
          (among_states (current_field row) lines ∙ or_left _ (among (current_field row) (names_in_column 2 rows)) (name_at 1 rows place row stands (not_from_false _ (good place d inside).current)));
      next = λ named. contained_from_test (state_names lines) (next_field row)
          (among_states (next_field row) lines ∙ or_right (among (next_field row) (names_in_column 1 rows)) _ (name_at 2 rows place row stands (not_from_false _ named)));
    }
