-- The rows, as they are written, have no fault, and are read as they were.
use Rattle.std.proofs.Common.{◌≡◌, ℕ, zero, suc, ◌+◌, ◌*◌, ◌/◌, ◌%◌, ◌<◌, ◌≤◌, ◌^◌, Bool, true, false, not, cond, eqb, ltb, List, [], ◌∷◌, ◌++◌, length, map, Option, Some, None, All, ap, sym, ◌∙◌, refl, subst, inl, inr, arith, codes, append_assoc, append-nil}
use Rattle.std.specs.Prelude.{filter}
use Rattle.std.specs.Int.{bit_at}
use Rattle.std.specs.List.{AllByRecursion, AllZip, cons_option, filter_map, list_all, range_with_len}
use Rattle.std.specs.Option.{IfSome}
use Rattle.std.specs.Str.{bytes_eq}
use Rattle.std.proofs.lemmas.Bool.{and_from, cases_Bool, cases_lt, eq-eqb, false≢true, false_from_ne_true, le-ltb, lt-ltb, not_from_false, not_from_true, or_cases, or_from, or_left, or_right}
use Rattle.std.proofs.lemmas.List.{length_push}
use Rattle.std.proofs.lemmas.List.Elements.{Contains-get_or, All-cons, All-head, All-nil, All-tail}
use Rattle.std.proofs.lemmas.List.Folds.{list_any-append}
use Rattle.std.proofs.lemmas.List.FromFn.{length-map-range_with_len}
use Rattle.std.proofs.lemmas.Nat.Bits.{bit_at-lt, bit_at-suc, bit_at_above, bit_at_lowest, same_from_bits}
use Rattle.std.proofs.lemmas.Option.{slice_get-get_or}
use Rattle.std.proofs.lemmas.Slice.Eq.{bytes_eq-Decides}
use Rattle.cubes.specs.declared.cube.Cube.{Cube}
use Rattle.cubes.specs.Cube.{text_of}
use Rattle.cubes.specs.Field.{byte_of, character, characters}
use Rattle.cubes.specs.Symbol.{bit}
use Rattle.hs_io.specs.declared.lines.Line.{Line}
use Rattle.kiss2.specs.declared.fault.KissKind.{KissKind}
use Rattle.kiss2.specs.declared.fault.KissKind.TheVariants.{AnyState, BadCube, BadOutput, OverLimit}
use Rattle.kiss2.specs.declared.fault.KissLimit.TheVariants.{Rows, States}
use Rattle.kiss_file.specs.declared.file.KissRow.{KissRow}
use Rattle.kiss2.specs.declared.line_kind.LineKind.{LineKind}
use Rattle.kiss2.specs.declared.line_kind.LineKind.TheVariants.{End, Row}
use Rattle.kiss2.specs.Faults.{fault_in, fault_where, first_of, has_twice, long_name}
use Rattle.kiss2.specs.Kiss.{HaveNoFault, IsNextOf, IsRowOf}
use Rattle.kiss_file.specs.LawfulFile.{IsLawfulRow}
use Rattle.kiss_file.specs.Names.{IsPlainName, name_of}
use Rattle.kiss2.specs.Standing.{inputs_said, line_with, names_in_column, outputs_said, row_lines, state_names}
use Rattle.kiss2.specs.Words.{care_in, is_character, is_character_field, is_ending, is_name, is_open, kind_of_field, line_kind_of, same_kind, value_in}
use Rattle.kiss2.specs.KissText.{fields_of_row, next_name, output_characters}
use Rattle.kiss2.specs.Laws.Building.{names_in_column-append}
use Rattle.kiss2.specs.Laws.Faultless.{faultless_push}
use Rattle.kiss2.specs.Laws.Finding.{contained_test}
use Rattle.kiss2.specs.Laws.GoodLines.{among_states}
use Rattle.kiss2_laws.proofs.Header.{none_long}
use Rattle.kiss2.specs.Laws.Once.{among, no_more, once-each_once}
use Rattle.kiss2_laws.proofs.ReadBack.{numbered}
use Rattle.kiss2.specs.Laws.SameRecord.{length-text}
use Rattle.kiss2.specs.Laws.Stood.{fault_form, rows_more, skip, stay}

-- characters that are written are characters
byte_test : (c : Option Bool) → is_character (byte_of c) ≡ true
byte_test None = refl
byte_test (Some true) = refl
byte_test (Some false) = refl

bytes_test : (cs : List (Option Bool)) → list_all is_character (map byte_of cs) ≡ true
bytes_test [] = refl
bytes_test (c ∷ cs) = and_from (is_character (byte_of c)) (list_all is_character (map byte_of cs)) (byte_test c) (bytes_test cs)

cube_written : (k : ℕ) (c : Cube) → c.width ≡ k → is_character_field k (text_of c) ≡ true
cube_written k c is = and_from (eqb (length (text_of c)) k) (list_all is_character (text_of c)) (eq-eqb (length (text_of c)) k (length-text c ∙ is)) (bytes_test (characters c.width c.care c.value))

outputs_test : (row : KissRow) (places : List ℕ) → list_all is_character (map (λ b. byte_of (character row.care row.value b)) places) ≡ true
outputs_test row [] = refl
outputs_test row (b ∷ places) = and_from (is_character (byte_of (character row.care row.value b))) _ (byte_test (character row.care row.value b)) (outputs_test row places)

outputs_written : (o : ℕ) (row : KissRow) → is_character_field o (output_characters o row) ≡ true
outputs_written o row =
    and_from (eqb (length (output_characters o row)) o) (list_all is_character (output_characters o row))
    (eq-eqb (length (output_characters o row)) o (length-map-range_with_len (λ b. byte_of (character row.care row.value b)) 0 o)) (outputs_test row (range_with_len 0 o))

-- a line that begins with a character is a row
first_kind : (c : Option Bool) (rest : List ℕ) → kind_of_field (byte_of c ∷ rest) ≡ Row
unfolding kind_of_field
first_kind None rest = refl
first_kind (Some true) rest = refl
first_kind (Some false) rest = refl

text_kind : (width care value : ℕ) → 0 < width → kind_of_field (map byte_of (characters width care value)) ≡ Row
unfolding characters
text_kind zero care value some = absurd (omega arith)
text_kind (suc n) care value some = first_kind (character care value n) (map byte_of (characters n care value))

-- a digit of an output field
digit_of : ℕ → List ℕ → ℕ → ℕ
digit_of mark [] i = 0
digit_of mark (b ∷ field) zero = cond (eqb b mark) 1 0
digit_of mark (b ∷ field) (suc i) = digit_of mark field i

double_half : (d n : ℕ) → d ≤ 1 → (d + 2 * n) / 2 ≡ n
double_half d n le = omega arith

double_odd : (d n : ℕ) → d ≤ 1 → (d + 2 * n) % 2 ≡ d
double_odd d n le = omega arith

small : (t : Bool) → cond t 0 1 ≤ 1
small true = omega arith
small false = omega arith

small' : (t : Bool) → cond t 1 0 ≤ 1
small' true = omega arith
small' false = omega arith

-- the bits of the numbers of characters
module _ (care value : ℕ) where
  field_from : ℕ → ℕ → List ℕ
  field_from a n = map (λ b. byte_of (character care value b)) (range_with_len a n)

  care_bit : (t u : Bool) → ◌≡◌ {A = ℕ} (cond (eqb (byte_of (cond t (Some u) None)) 45) 0 1) (cond t 1 0)
  care_bit true true = refl
  care_bit true false = refl
  care_bit false u = refl

  value_bit : (t u : Bool) → ◌≡◌ {A = ℕ} (cond (eqb (byte_of (cond t (Some u) None)) 49) 1 0) (cond t (cond u 1 0) 0)
  value_bit true true = refl
  value_bit true false = refl
  value_bit false u = refl

  one_or_none : (m : ℕ) → m < 2 → cond (eqb m 1) 1 0 ≡ m
  one_or_none zero lt = refl
  one_or_none (suc zero) lt = refl
  one_or_none (suc (suc m)) lt = absurd (omega arith)

  care_bits : (n a i : ℕ) → i < n → bit_at (care_in (field_from a n)) i ≡ bit_at care (a + i)
  unfolding care_in field_from
  care_bits zero a i lt = absurd (omega arith)
  care_bits (suc n) a zero lt =
      let d : ℕ = cond (eqb (byte_of (character care value a)) 45) 0 1 in
      let same : a ≡ a + 0 = omega arith in
      bit_at_lowest (d + 2 * care_in (field_from (a + 1) n))
      ∙ (double_odd d (care_in (field_from (a + 1) n)) (small (eqb (byte_of (character care value a)) 45))
      ∙ (care_bit (bit care a) (bit value a) ∙ (one_or_none (bit_at care a) (bit_at-lt care a) ∙ ap (bit_at care) same)))
  care_bits (suc n) a (suc i) lt =
      let d : ℕ = cond (eqb (byte_of (character care value a)) 45) 0 1 in
      let same : (a + 1) + i ≡ a + suc i = omega arith in
      bit_at-suc (d + 2 * care_in (field_from (a + 1) n)) i
      ∙ (ap (λ m. bit_at m i) (double_half d (care_in (field_from (a + 1) n)) (small (eqb (byte_of (character care value a)) 45)))
      ∙ (care_bits n (a + 1) i (omega arith) ∙ ap (bit_at care) same))

  value_bits : (n a i : ℕ) → i < n → bit_at (value_in (field_from a n)) i ≡ cond (bit care (a + i)) (bit_at value (a + i)) 0
  unfolding value_in field_from
  value_bits zero a i lt = absurd (omega arith)
  value_bits (suc n) a zero lt =
      let d : ℕ = cond (eqb (byte_of (character care value a)) 49) 1 0 in
      let same : a ≡ a + 0 = omega arith in
      bit_at_lowest (d + 2 * value_in (field_from (a + 1) n))
      ∙ (double_odd d (value_in (field_from (a + 1) n)) (small' (eqb (byte_of (character care value a)) 49))
      ∙ (value_bit (bit care a) (bit value a) ∙ (ap (λ m. cond (bit care a) m 0) (one_or_none (bit_at value a) (bit_at-lt value a)) ∙ ap (λ m. cond (bit care m) (bit_at value m) 0) same)))
  value_bits (suc n) a (suc i) lt =
      let d : ℕ = cond (eqb (byte_of (character care value a)) 49) 1 0 in
      let same : (a + 1) + i ≡ a + suc i = omega arith in
      bit_at-suc (d + 2 * value_in (field_from (a + 1) n)) i
      ∙ (ap (λ m. bit_at m i) (double_half d (value_in (field_from (a + 1) n)) (small' (eqb (byte_of (character care value a)) 49)))
      ∙ (value_bits n (a + 1) i (omega arith) ∙ ap (λ m. cond (bit care m) (bit_at value m) 0) same))

zero_bit : (n : ℕ) → n < 2 → (eqb n 1 ≡ true → ⊥) → n ≡ 0
zero_bit zero lt no_one = refl
zero_bit (suc zero) lt no_one = absurd (no_one refl)
zero_bit (suc (suc n)) lt no_one = absurd (omega arith)

field_below : (care value n a : ℕ) → (care_in (field_from care value a n) < 2 ^ n) × (value_in (field_from care value a n) < 2 ^ n)
unfolding care_in value_in field_from
field_below care value zero a = (omega arith, omega arith)
field_below care value (suc n) a =
    let rest = field_below care value n (a + 1) in
    let twice : 2 ^ suc n ≡ 2 * 2 ^ n = omega arith in
    let one = small (eqb (byte_of (character care value a)) 45) in
    let two = small' (eqb (byte_of (character care value a)) 49) in
    (rw twice (omega (arith, rest.0, one)), rw twice (omega (arith, rest.1, two)))

field_is : (o : ℕ) (row : KissRow) → output_characters o row ≡ field_from row.care row.value 0 o
unfolding field_from
field_is o row = refl

module _ (k o states : ℕ) (row : KissRow) (lawful : IsLawfulRow k o states row) where
  -- the numbers of outputs are read as they were
  pub care_back : care_in (output_characters o row) ≡ row.care
  care_back =
      ap care_in (field_is o row)
      ∙ same_from_bits (care_in (field_from row.care row.value 0 o)) row.care
      (λ i. elim (cases_lt i o) [
        | inl inside ↦ let same : 0 + i ≡ i = omega arith in care_bits row.care row.value o 0 i inside ∙ ap (bit_at row.care) same
        | inr past ↦
            bit_at_above (care_in (field_from row.care row.value 0 o)) o i (field_below row.care row.value o 0).0 past
            ∙ sym (zero_bit (bit_at row.care i) (bit_at-lt row.care i) (λ one. let lt = lawful.care i one in absurd (omega arith)))
      ])

  pub value_back : value_in (output_characters o row) ≡ row.value
  value_back =
      ap value_in (field_is o row)
      ∙ same_from_bits (value_in (field_from row.care row.value 0 o)) row.value
      (λ i. elim (cases_lt i o) [
        | inl inside ↦
            let same : 0 + i ≡ i = omega arith in
            value_bits row.care row.value o 0 i inside ∙ (ap (λ m. cond (bit row.care m) (bit_at row.value m) 0) same ∙ kept i)
        | inr past ↦
            bit_at_above (value_in (field_from row.care row.value 0 o)) o i (field_below row.care row.value o 0).1 past
            ∙ sym (zero_bit (bit_at row.value i) (bit_at-lt row.value i) (λ one. let lt = lawful.care i (lawful.value i one) in absurd (omega arith)))
      ]) where
        kept : (i : ℕ) → cond (bit row.care i) (bit_at row.value i) 0 ≡ bit_at row.value i
        kept i =
            elim (cases_Bool (bit row.care i)) [
              | inl given ↦ ap (λ t. cond t (bit_at row.value i) 0) given
              | inr dash ↦ ap (λ t. cond t (bit_at row.value i) 0) dash ∙ sym (zero_bit (bit_at row.value i) (bit_at-lt row.value i) (λ one. false≢true (sym dash ∙ lawful.value i one)))
            ]

states_once : (lines : List Line) → has_twice (state_names lines) ≡ false
unfolding state_names
states_once lines = once-each_once _

among_one : (name x : List ℕ) → among name (filter is_name (x ∷ [])) ≡ true → bytes_eq name x ≡ true
among_one name x there = at (is_name x) there where
  at : (t : Bool) → among name (cond t (x ∷ []) []) ≡ true → bytes_eq name x ≡ true
  at true there = elim (or_cases (bytes_eq name x) false there) [ inl same ↦ same | inr none ↦ absurd (false≢true none) ]
  at false there = absurd (false≢true there)

plain_open : (name : List ℕ) → IsPlainName name → is_open name ≡ false
plain_open name plain =
    or_from (bytes_eq name (codes "*")) (bytes_eq name (codes "-"))
    (false_from_ne_true _ (λ e. plain.no_star ((bytes_eq-Decides name (codes "*")).0 e)))
    (false_from_ne_true _ (λ e. plain.no_dash ((bytes_eq-Decides name (codes "-")).0 e)))

-- rows of a record with these states
module _ (states : List (List ℕ)) (k o : ℕ) (some : 1 ≤ k) (plain : All IsPlainName states) (few : length states ≤ 256) where
  -- the line of a row
  pub row_line : ℕ → KissRow → Line
  row_line n row = record { number = n; fields = fields_of_row states o row; bad = false }

  -- what stands in lines so far
  pub record Ready (before : List Line) (count : ℕ) : Type 0 where
    pub inputs : inputs_said before ≡ Some k
    pub outputs : outputs_said before ≡ Some o
    pub rows : length (row_lines before) ≡ count
    pub known : (name : List ℕ) → among name (state_names before) ≡ true → among name states ≡ true
    pub faultless : HaveNoFault before

  name_plain : (s : ℕ) → s < length states → IsPlainName (name_of states s)
  name_plain s lt = plain s [] lt

  name_there : (s : ℕ) → s < length states → among (name_of states s) states ≡ true
  name_there s lt = contained_test states (name_of states s) (Contains-get_or states s [] lt)

  module _ (n : ℕ) (row : KissRow) (lawful : IsLawfulRow k o (length states) row) where
    kind : line_kind_of (row_line n row) ≡ Row
    unfolding row_line
    kind = text_kind row.cube.width row.cube.care row.cube.value (omega (arith, lawful.width))

    next_short : (to : Option ℕ) → IfSome to (λ t. t < length states) → All (λ name. length name ≤ 64) (filter is_name (next_name states to ∷ []))
    next_short None lt = All-nil (λ name. length name ≤ 64)
    next_short (Some t) lt = subst (λ b. All (λ name. length name ≤ 64) (cond b (name_of states t ∷ []) [])) (sym (not_from_false _ (plain_open (name_of states t) (name_plain t lt))))
        (All-cons (λ name. length name ≤ 64) (name_of states t) [] (name_plain t lt).short (All-nil (λ name. length name ≤ 64)))

    names_short : All (λ name. length name ≤ 64) (filter is_name (name_of states row.from ∷ next_name states row.to ∷ []))
    names_short =
        subst (λ b. All (λ name. length name ≤ 64) (cond b (name_of states row.from ∷ filter is_name (next_name states row.to ∷ [])) (filter is_name (next_name states row.to ∷ [])))) (sym (not_from_false _ (plain_open (name_of states row.from) (name_plain row.from lawful.from))))
        (All-cons (λ name. length name ≤ 64) (name_of states row.from) _ (name_plain row.from lawful.from).short (next_short row.to lawful.to))

    next_known : (to : Option ℕ) → IfSome to (λ t. t < length states) → (name : List ℕ) → among name (filter is_name (next_name states to ∷ [])) ≡ true → among name states ≡ true
    next_known None lt name there = absurd (false≢true there)
    next_known (Some t) lt name there = subst (λ m. among m states ≡ true) (sym ((bytes_eq-Decides name (name_of states t)).0 (among_one name (name_of states t) there))) (name_there t lt)

    module _ (before : List Line) (count : ℕ) (ready : Ready before count) where
      line : Line
      line = row_line n row

      known_more : (name : List ℕ) → among name (state_names (before ++ row_line n row ∷ [])) ≡ true → among name states ≡ true
      unfolding row_line
      known_more name there =
          let more = rows_more before (row_line n row) kind in
          let one : names_in_column 1 (row_lines (before ++ row_line n row ∷ [])) ≡ names_in_column 1 (row_lines before) ++ filter is_name (name_of states row.from ∷ []) =
          ap (names_in_column 1) more ∙ names_in_column-append 1 (row_lines before) (row_line n row ∷ []) in
          let two : names_in_column 2 (row_lines (before ++ row_line n row ∷ [])) ≡ names_in_column 2 (row_lines before) ++ filter is_name (next_name states row.to ∷ []) =
          ap (names_in_column 2) more ∙ names_in_column-append 2 (row_lines before) (row_line n row ∷ []) in
          elim (or_cases (among name (names_in_column 1 (row_lines (before ++ row_line n row ∷ [])))) (among name (names_in_column 2 (row_lines (before ++ row_line n row ∷ [])))) (sym (among_states name (before ++ row_line n row ∷ [])) ∙ there)) [
            | inl first ↦
                elim (or_cases (among name (names_in_column 1 (row_lines before))) (among name (filter is_name (name_of states row.from ∷ [])))
                (sym (list_any-append (bytes_eq name) (names_in_column 1 (row_lines before)) (filter is_name (name_of states row.from ∷ []))) ∙ (sym (ap (among name) one) ∙ first))) [
                  | inl earlier ↦ ready.known name (among_states name before ∙ or_left (among name (names_in_column 1 (row_lines before))) (among name (names_in_column 2 (row_lines before))) earlier)
                  | inr here ↦ subst (λ m. among m states ≡ true) (sym ((bytes_eq-Decides name (name_of states row.from)).0 (among_one name (name_of states row.from) here))) (name_there row.from lawful.from)
                ]
            | inr second ↦
                elim (or_cases (among name (names_in_column 2 (row_lines before))) (among name (filter is_name (next_name states row.to ∷ [])))
                (sym (list_any-append (bytes_eq name) (names_in_column 2 (row_lines before)) (filter is_name (next_name states row.to ∷ []))) ∙ (sym (ap (among name) two) ∙ second))) [
                  | inl earlier ↦ ready.known name (among_states name before ∙ or_right (among name (names_in_column 1 (row_lines before))) (among name (names_in_column 2 (row_lines before))) earlier)
                  | inr here ↦ next_known row.to lawful.to name here
                ]
          ]

      states_few : length (state_names (before ++ row_line n row ∷ [])) ≤ 256
      states_few = omega (arith, no_more (state_names (before ++ row_line n row ∷ [])) states (states_once (before ++ row_line n row ∷ [])) known_more)

      no_fault : count < 65536 → fault_in before (row_line n row) ≡ None
      unfolding row_line
      no_fault room =
          let seen = state_names (before ++ row_line n row ∷ []) in
          let last : List (Option KissKind) = fault_where (not (is_character_field o (output_characters o row))) BadOutput ∷ [] in
          let states_left : List (Option KissKind) = fault_where (ltb 256 (length seen)) (OverLimit States 257) ∷ last in
          let names_left : List (Option KissKind) = long_name (filter is_name (name_of states row.from ∷ next_name states row.to ∷ [])) ∷ states_left in
          let any_left : List (Option KissKind) = fault_where (is_open (name_of states row.from)) AnyState ∷ names_left in
          let cube_left : List (Option KissKind) = fault_where (not (is_character_field k (text_of row.cube))) BadCube ∷ any_left in
          fault_form before (row_line n row) Row refl kind refl
          ∙ (rw (ready.inputs, ready.outputs, ready.rows)
          (skip (not (ltb count 65536)) (OverLimit Rows 65537) cube_left (not_from_true _ (lt-ltb count 65536 room))
          ∙ (skip (not (is_character_field k (text_of row.cube))) BadCube any_left (not_from_true _ (cube_written k row.cube lawful.width))
          ∙ (skip (is_open (name_of states row.from)) AnyState names_left (plain_open (name_of states row.from) (name_plain row.from lawful.from))
          ∙ (ap (λ f. first_of (f ∷ states_left)) (none_long (filter is_name (name_of states row.from ∷ next_name states row.to ∷ [])) names_short)
          ∙ (skip (ltb 256 (length seen)) (OverLimit States 257) last (le-ltb 256 (length seen) states_few)
          ∙ skip (not (is_character_field o (output_characters o row))) BadOutput [] (not_from_true _ (outputs_written o row))))))))

      pushed : count < 65536 → Ready (before ++ row_line n row ∷ []) (count + 1)
      pushed room =
          let kept = stay before (row_line n row) Row kind in
          record {
            inputs = sym (kept.inputs refl) ∙ ready.inputs;
            outputs = sym (kept.outputs refl) ∙ ready.outputs;
            rows = ap length (rows_more before (row_line n row) kind) ∙ (length_push (row_lines before) (row_line n row) ∙ ap (λ m. m + 1) ready.rows);
            known = known_more;
            faultless = faultless_push before (row_line n row) ready.faultless (no_fault room);
          }

    -- the line is read as the row
    next_is : (to : Option ℕ) → IfSome to (λ t. t < length states) → IsNextOf states (next_name states to) to
    next_is None lt = refl
    next_is (Some t) lt = (plain_open (name_of states t) (name_plain t lt), slice_get-get_or states t [] lt)

    row_is : IsRowOf states (row_line n row) row
    unfolding row_line
    row_is = record {
      cube = refl;
      from = slice_get-get_or states row.from [] lawful.from;
      to = next_is row.to lawful.to;
      care = sym (care_back k o (length states) row lawful);
      value = sym (value_back k o (length states) row lawful);
    }

  -- all rows
  abbrev pub row_texts : List KissRow → List (List (List ℕ))
  row_texts rows = map (fields_of_row states o) rows

  pub all_pushed : (rows : List KissRow) (n count : ℕ) (before : List Line) → All (IsLawfulRow k o (length states)) rows → Ready before count → count + length rows ≤ 65536
      → Ready (before ++ numbered n (row_texts rows)) (count + length rows)
  unfolding row_line
  all_pushed [] n count before lawful ready room = subst (λ m. Ready (before ++ []) m) (omega arith) (subst (λ ls. Ready ls count) (sym (append-nil before)) ready)
  all_pushed (row ∷ rows) n count before lawful ready room =
      let one = pushed n row (All-head (IsLawfulRow k o (length states)) row rows lawful) before count ready (omega arith) in
      let rest = all_pushed rows (n + 1) (count + 1) (before ++ row_line n row ∷ []) (All-tail (IsLawfulRow k o (length states)) row rows lawful) one (omega arith) in
      let same : (count + 1) + length rows ≡ count + suc (length rows) = omega arith in
      subst (λ m. Ready (before ++ numbered n (row_texts (row ∷ rows))) m) same (subst (λ ls. Ready ls ((count + 1) + length rows)) (append_assoc before (row_line n row ∷ []) (numbered (n + 1) (row_texts rows))) rest)

  pub rows_zip : (rows : List KissRow) (n : ℕ) → All (IsLawfulRow k o (length states)) rows → AllZip (IsRowOf states) (numbered n (row_texts rows)) rows
  unfolding row_line
  rows_zip [] n lawful = tt
  rows_zip (row ∷ rows) n lawful =
      (row_is n row (All-head (IsLawfulRow k o (length states)) row rows lawful), rows_zip rows (n + 1) (All-tail (IsLawfulRow k o (length states)) row rows lawful))

  pub rows_are : (rows : List KissRow) (n : ℕ) → All (IsLawfulRow k o (length states)) rows → row_lines (numbered n (row_texts rows)) ≡ numbered n (row_texts rows)
  unfolding row_line
  rows_are [] n lawful = refl
  rows_are (row ∷ rows) n lawful =
      ap (λ b. cond b (row_line n row ∷ row_lines (numbered (n + 1) (row_texts rows))) (row_lines (numbered (n + 1) (row_texts rows)))) (ap (same_kind Row) (kind n row (All-head (IsLawfulRow k o (length states)) row rows lawful)))
      ∙ ap (λ ls. row_line n row ∷ ls) (rows_are rows (n + 1) (All-tail (IsLawfulRow k o (length states)) row rows lawful))

  -- no row is a line of another kind
  pub rows_without : (wanted : LineKind) → same_kind wanted Row ≡ false → (rows : List KissRow) (n : ℕ) → All (IsLawfulRow k o (length states)) rows → line_with wanted (numbered n (row_texts rows)) ≡ None
  unfolding row_line
  rows_without wanted apart [] n lawful = refl
  rows_without wanted apart (row ∷ rows) n lawful =
      ap (λ b. cond b (Some (row_line n row)) (line_with wanted (numbered (n + 1) (row_texts rows)))) (ap (same_kind wanted) (kind n row (All-head (IsLawfulRow k o (length states)) row rows lawful)) ∙ apart)
      ∙ rows_without wanted apart rows (n + 1) (All-tail (IsLawfulRow k o (length states)) row rows lawful)

  -- nor ends it the text
  pub rows_go : (rows : List KissRow) → All (IsLawfulRow k o (length states)) rows → AllByRecursion (λ fields. (n : ℕ) → is_ending (record { number = n; fields = fields; bad = false }) ≡ false) (row_texts rows)
  unfolding row_line
  rows_go [] lawful = tt
  rows_go (row ∷ rows) lawful =
      ((λ n. ap (same_kind End) (kind n row (All-head (IsLawfulRow k o (length states)) row rows lawful))), rows_go rows (All-tail (IsLawfulRow k o (length states)) row rows lawful))

  -- the columns of states
  pub column_from : (rows : List KissRow) (n : ℕ) → All (IsLawfulRow k o (length states)) rows → names_in_column 1 (numbered n (row_texts rows)) ≡ map (name_of states) (map (λ row. row.from) rows)
  unfolding row_line
  column_from [] n lawful = refl
  column_from (row ∷ rows) n lawful =
      ap (λ b. cond b (name_of states row.from ∷ names_in_column 1 (numbered (n + 1) (row_texts rows))) (names_in_column 1 (numbered (n + 1) (row_texts rows))))
      (not_from_false _ (plain_open (name_of states row.from) (name_plain row.from (All-head (IsLawfulRow k o (length states)) row rows lawful).from)))
      ∙ ap (λ names. name_of states row.from ∷ names) (column_from rows (n + 1) (All-tail (IsLawfulRow k o (length states)) row rows lawful))

  pub column_to : (rows : List KissRow) (n : ℕ) → All (IsLawfulRow k o (length states)) rows → names_in_column 2 (numbered n (row_texts rows)) ≡ map (name_of states) (filter_map (λ row. row.to) rows)
  unfolding row_line
  column_to [] n lawful = refl
  column_to (row ∷ rows) n lawful = at row.to (All-head (IsLawfulRow k o (length states)) row rows lawful).to (column_to rows (n + 1) (All-tail (IsLawfulRow k o (length states)) row rows lawful)) where
    at : (to : Option ℕ) → IfSome to (λ t. t < length states) → names_in_column 2 (numbered (n + 1) (row_texts rows)) ≡ map (name_of states) (filter_map (λ r. r.to) rows)
        → cond (is_name (next_name states to)) (next_name states to ∷ names_in_column 2 (numbered (n + 1) (row_texts rows))) (names_in_column 2 (numbered (n + 1) (row_texts rows))) ≡ map (name_of states) (cons_option to (filter_map (λ r. r.to) rows))
    at None lt rest = rest
    at (Some t) lt rest =
        ap (λ b. cond b (name_of states t ∷ names_in_column 2 (numbered (n + 1) (row_texts rows))) (names_in_column 2 (numbered (n + 1) (row_texts rows)))) (not_from_false _ (plain_open (name_of states t) (name_plain t lt)))
        ∙ ap (λ names. name_of states t ∷ names) rest
