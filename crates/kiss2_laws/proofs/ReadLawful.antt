-- What is read is lawful.
use Rattle.std.proofs.Common.{◌≡◌, ◌≢◌, ◌⊎◌, ℕ, zero, suc, ◌+◌, ◌*◌, ◌%◌, ◌/◌, ◌<◌, ◌≤◌, ◌^◌, Bool, true, false, not, cond, eqb, ltb, ◌||◌, List, [], ◌∷◌, ◌++◌, length, map, take, drop, get_or, Option, Some, None, All, Contains, ap, sym, ◌∙◌, refl, subst, inl, inr, arith, codes, append-nil}
use Rattle.std.specs.Prelude.{find, slice_get, unwrap_or}
use Rattle.std.specs.Int.{bit_at}
use Rattle.std.specs.List.{AllZip, cons_option, filter_map, list_any, prefix_len}
use Rattle.std.specs.Option.{IfSome, option_map, option_or}
use Rattle.std.specs.Str.{bytes_eq}
use Rattle.std.proofs.lemmas.Bool.{cases_Bool, cases_lt, cases_order, eqb-true, false≢true, ltb-false, not-false, not-true, not_from_false, or_cases, or_from, or_left, or_parts, or_right}
use Rattle.std.proofs.lemmas.Bool.Decides.{nat_tests}
use Rattle.std.proofs.lemmas.List.{append_assoc, take-append-drop}
use Rattle.std.proofs.lemmas.List.Elements.{All-append, All-cons, All-drop, All-filter, All-head, All-nil, All-tail, All-take, All-weaker}
use Rattle.std.proofs.lemmas.List.Folds.{find-append, list_any-append}
use Rattle.std.proofs.lemmas.Nat.Bits.{bit_at-lt, bit_at-suc, bit_at_above, bit_at_lowest}
use Rattle.std.proofs.lemmas.Option.{get_or_from_slice_get, none-some, same_Some, slice_get-get_or, slice_get_within}
use Rattle.std.proofs.lemmas.Slice.Eq.{bytes_eq-Decides}
use Rattle.list_facts.specs.Laws.Everywhere.{all_at}
use Rattle.cubes.specs.Symbol.{bit}
use Rattle.hs_io.specs.declared.lines.Line.{Line}
use Rattle.hs_io.specs.Lines.{lines_of}
use Rattle.hs_io.specs.Spelling.{IsFieldByte}
use Rattle.kiss2.specs.declared.fault.KissKind.TheVariants.{BadFields, MissingCounts, OverLimit, Repeated}
use Rattle.kiss2.specs.declared.fault.KissKind.{KissKind}
use Rattle.kiss2.specs.declared.fault.KissLimit.TheVariants.{NameBytes}
use Rattle.kiss_file.specs.declared.file.KissFile.{KissFile}
use Rattle.kiss_file.specs.declared.file.KissRow.{KissRow}
use Rattle.kiss2.specs.declared.line_kind.LineKind.{LineKind}
use Rattle.kiss2.specs.declared.line_kind.LineKind.TheVariants.{InputNames, OutputNames, Row}
use Rattle.kiss2.specs.Faults.{fault_where, has_twice, long_name, names_fault}
use Rattle.kiss2.specs.Inner.FaultlessLines.{IsGoodRow}
use Rattle.kiss2.specs.Inner.ReaderState.{once_after}
use Rattle.kiss2.specs.Kiss.{HaveNoFault, IsNextOf, IsRecordOf, IsRowOf, Kiss, lines_read}
use Rattle.kiss_file.specs.LawfulFile.{AreGiven, AreNumbered, IsGivenName, IsLawful, IsLawfulRow, appearances}
use Rattle.kiss_file.specs.Names.{AreDistinct, IsPlainName}
use Rattle.kiss2.specs.Standing.{each_once, inputs_said, line_with, names_in_column, names_said, outputs_said, row_lines, state_names}
use Rattle.kiss2.specs.Words.{care_in, current_field, field_at, has_backslash, is_ending, is_name, is_of_kind, is_open, line_kind_of, next_field, operands, output_field, same_kind, value_in}
use Rattle.kiss2.specs.Laws.Building.{field_length}
use Rattle.kiss2.specs.Laws.Closing.{some_rows}
use Rattle.kiss2.specs.Laws.FieldBytes.{HasGoodFields, fields_good}
use Rattle.kiss2.specs.Laws.Finding.{contained_from_test, contained_test}
use Rattle.kiss2.specs.Laws.GoodLines.{IsFound, all_kept, few, fine, form_at, found, inputs_on, inputs_range, none_first, outputs_on, outputs_range, passes, rows_good}
use Rattle.kiss2.specs.Laws.Once.{among, among-each_once, distinct_from_once, each_once-append, itself, once-each_once}
use Rattle.kiss2.specs.Laws.SameRecord.{length-text, number_once, reset_there, states_distinct}

-- names of states
plain_name : (name : List ℕ) → 0 < length name → length name ≤ 64 → All IsFieldByte name → is_open name ≡ false → IsPlainName name
plain_name name some short visible named =
    let parts = or_parts (bytes_eq name (codes "*")) (bytes_eq name (codes "-")) named in
    record {
      some = some;
      short = short;
      visible = visible;
      no_star = λ e. false≢true (sym parts.0 ∙ (bytes_eq-Decides name (codes "*")).1 e);
      no_dash = λ e. false≢true (sym parts.1 ∙ (bytes_eq-Decides name (codes "-")).1 e);
    }

-- what the lines of a text have
read_good : (bytes : List ℕ) → All (HasGoodFields (length bytes)) (lines_read bytes)
unfolding lines_read
read_good bytes = All-take (HasGoodFields (length bytes)) (prefix_len (λ line. not (is_ending line)) (lines_of bytes)) (lines_of bytes) (fields_good bytes)

module _ (most : ℕ) (lines : List Line) (fields : All (HasGoodFields most) lines) (faultless : HaveNoFault lines) where
  -- the bytes of a line's fields
  visible_at : (place : ℕ) (line : Line) → slice_get lines place ≡ Some line → All (λ field. (0 < length field) × All IsFieldByte field) line.fields
  visible_at place line stands =
      (all_at (HasGoodFields most) lines place line fields stands).visible (fine (take place lines) line (faultless place line stands)).clean

  record HasNames (line : Line) : Type 0 where
    current : (0 < length (current_field line)) × All IsFieldByte (current_field line)
    next : (0 < length (next_field line)) × All IsFieldByte (next_field line)

  rows_named : (k o : ℕ) → All (IsGoodRow k o) (row_lines lines) → All (λ line. length line.fields ≡ 4 → HasNames line) (row_lines lines)
  rows_named k o good =
      all_kept (is_of_kind Row) (λ line. length line.fields ≡ 4 → HasNames line) lines
      (λ place line stands row four.
      let visible = visible_at place line stands in
      record { current = visible 1 [] (omega arith); next = visible 2 [] (omega arith) })

  plain_row : (k o : ℕ) → All (IsGoodRow k o) (row_lines lines) → All (λ line. IsPlainName (current_field line) × (is_open (next_field line) ≡ false → IsPlainName (next_field line))) (row_lines lines)
  plain_row k o good i d lt =
      let row = good i d lt in
      let names = rows_named k o good i d lt row.fields in
      (plain_name _ names.current.0 row.current_short names.current.1 row.current, λ named. plain_name _ names.next.0 (row.next_short named) names.next.1 named)

column_all : (P : List ℕ → Type 0) (place : ℕ) (rows : List Line) → All (λ row. is_name (field_at place row) ≡ true → P (field_at place row)) rows → All P (names_in_column place rows)
column_all P place [] each = All-nil P
column_all P place (row ∷ rows) each =
    let rest = column_all P place rows (All-tail (λ r. is_name (field_at place r) ≡ true → P (field_at place r)) row rows each) in
    elim (cases_Bool (is_name (field_at place row))) [
      | inl named ↦ subst (λ t. All P (cond t (field_at place row ∷ names_in_column place rows) (names_in_column place rows))) (sym named)
          (All-cons P (field_at place row) (names_in_column place rows) (All-head (λ r. is_name (field_at place r) ≡ true → P (field_at place r)) row rows each named) rest)
      | inr free ↦ subst (λ t. All P (cond t (field_at place row ∷ names_in_column place rows) (names_in_column place rows))) (sym free) rest
    ]

once_all : (P : List ℕ → Type 0) (names : List (List ℕ)) → All P names → All P (each_once names)
unfolding each_once
once_all P [] all = All-nil P
once_all P (name ∷ names) all =
    All-cons P name _ (All-head P name names all) (All-filter (λ other. not (bytes_eq other name)) P (each_once names) (once_all P names (All-tail P name names all)))

states_plain : (lines : List Line) → All (λ line. IsPlainName (current_field line) × (is_open (next_field line) ≡ false → IsPlainName (next_field line))) (row_lines lines) → All IsPlainName (state_names lines)
unfolding state_names
states_plain lines plain =
    once_all IsPlainName (names_in_column 1 (row_lines lines) ++ names_in_column 2 (row_lines lines))
    (All-append IsPlainName (names_in_column 1 (row_lines lines)) (names_in_column 2 (row_lines lines))
    (column_all IsPlainName 1 (row_lines lines) (λ i d lt named. (plain i d lt).0))
    (column_all IsPlainName 2 (row_lines lines) (λ i d lt named. (plain i d lt).1 (not-true _ named))))

-- names that are given
short_names : (names : List (List ℕ)) → long_name names ≡ None → All (λ name. length name ≤ 64) names
short_names [] none = All-nil (λ name. length name ≤ 64)
short_names (name ∷ names) none = first (ltb 64 (length name)) refl none (λ e. short_names names e) where
  first : (long : Bool) → ltb 64 (length name) ≡ long → option_map (λ n. OverLimit NameBytes (length n)) (cond long (Some name) (find (λ n. ltb 64 (length n)) names)) ≡ None
      → (long_name names ≡ None → All (λ n. length n ≤ 64) names) → All (λ n. length n ≤ 64) (name ∷ names)
  first true e none rest = absurd (none-some (OverLimit NameBytes (length name)) (sym none))
  first false e none rest = All-cons (λ n. length n ≤ 64) name names (ltb-false 64 (length name) e) (rest none)

no_byte : (name : List ℕ) → has_backslash name ≡ false → All (λ byte. byte ≢ 92) name
no_byte [] none = All-nil (λ byte. byte ≢ 92)
no_byte (b ∷ bs) none =
    let parts = or_parts (eqb b 92) (has_backslash bs) none in
    All-cons (λ byte. byte ≢ 92) b bs (λ e. grind (arith, nat_tests)) (no_byte bs parts.1)

no_bytes : (names : List (List ℕ)) → list_any has_backslash names ≡ false → All (λ name. All (λ byte. byte ≢ 92) name) names
no_bytes [] none = All-nil (λ name. All (λ byte. byte ≢ 92) name)
no_bytes (name ∷ names) none =
    let parts = or_parts (has_backslash name) (list_any has_backslash names) none in
    All-cons (λ n. All (λ byte. byte ≢ 92) n) name names (no_byte name parts.0) (no_bytes names parts.1)

-- a line of names without a fault
record AreFine (count : Option ℕ) (others names : List (List ℕ)) (k : ℕ) : Type 0 where
  counted : count ≡ Some k
  as_many : length names ≡ k
  short : All (λ name. length name ≤ 64) names
  plain : All (λ name. All (λ byte. byte ≢ 92) name) names
  once : has_twice (others ++ names) ≡ false

names_fine : (count : Option ℕ) (others names : List (List ℕ)) → names_fault count others names ≡ None → (k : ℕ) × AreFine count others names k
names_fine None others names none = absurd (none-some MissingCounts (sym none))
names_fine (Some k) others names none =
    let last : List (Option KissKind) = fault_where (has_twice (others ++ names)) Repeated ∷ [] in
    let fields = passes (not (eqb (length names) k) || list_any has_backslash names) BadFields (long_name names ∷ last) none in
    let parts = or_parts (not (eqb (length names) k)) (list_any has_backslash names) fields.0 in
    let long = none_first (long_name names) last fields.1 in
    let twice = passes (has_twice (others ++ names)) Repeated [] long.1 in
    (k, record { counted = refl; as_many = eqb-true (length names) k (not-false _ parts.0); short = short_names names long.0; plain = no_bytes names parts.1; once = twice.0 })

kind_input_names : (kind : LineKind) → same_kind InputNames kind ≡ true → kind ≡ InputNames
kind_input_names InputNames e = refl
kind_input_names _ e = absurd (false≢true e)

kind_output_names : (kind : LineKind) → same_kind OutputNames kind ≡ true → kind ≡ OutputNames
kind_output_names OutputNames e = refl
kind_output_names _ e = absurd (false≢true e)

-- two lists of names of which none stands twice
pub twice_parts : (first second : List (List ℕ)) → has_twice (first ++ second) ≡ false
    → (has_twice first ≡ false) × (has_twice second ≡ false) × ((name : List ℕ) → among name first ≡ true → among name second ≡ false)
twice_parts [] second once = (refl, once, λ name there. absurd (false≢true there))
twice_parts (x ∷ first) second once =
    let parts = or_parts (among x (first ++ second)) (has_twice (first ++ second)) once in
    let apart = or_parts (among x first) (among x second) (sym (list_any-append (bytes_eq x) first second) ∙ parts.0) in
    let rest = twice_parts first second parts.1 in (
      or_from (among x first) (has_twice first) apart.0 rest.0,
      rest.1,
      λ name there. elim (or_cases (bytes_eq name x) (among name first) there) [
        | inl same ↦ subst (λ n. among n second ≡ false) (sym ((bytes_eq-Decides name x).0 same)) apart.1
        | inr later ↦ rest.2 name later
      ],
    )

twice_join : (first second : List (List ℕ)) → has_twice first ≡ false → has_twice second ≡ false → ((name : List ℕ) → among name first ≡ true → among name second ≡ false) → has_twice (first ++ second) ≡ false
twice_join [] second one two apart = two
twice_join (x ∷ first) second one two apart =
    let parts = or_parts (among x first) (has_twice first) one in
    or_from (among x (first ++ second)) (has_twice (first ++ second))
    (list_any-append (bytes_eq x) first second ∙ or_from (among x first) (among x second) parts.0 (apart x (or_left (bytes_eq x x) (among x first) (itself x))))
    (twice_join first second parts.1 two (λ name there. apart name (or_right (bytes_eq name x) (among name first) there)))

twice_swap : (first second : List (List ℕ)) → has_twice (first ++ second) ≡ false → has_twice (second ++ first) ≡ false
twice_swap first second once =
    let parts = twice_parts first second once in
    twice_join second first parts.1 parts.0 (λ name there. elim (cases_Bool (among name first)) [
      | inl here ↦ absurd (false≢true (sym (parts.2 name here) ∙ there))
      | inr absent ↦ absent
    ])

-- what is found among all lines stands among the first ones, where its place does
none_found : (p : Line → Bool) (xs : List Line) → find p xs ≡ None → (place : ℕ) (x : Line) → slice_get xs place ≡ Some x → p x ≡ false
none_found p [] none place x stands = absurd (none-some x stands)
none_found p (y ∷ ys) none place x stands = at (p y) refl none place stands (λ e k s. none_found p ys e k x s) where
  at : (test : Bool) → p y ≡ test → cond test (Some y) (find p ys) ≡ None → (k : ℕ) → slice_get (y ∷ ys) k ≡ Some x → (find p ys ≡ None → (k : ℕ) → slice_get ys k ≡ Some x → p x ≡ false) → p x ≡ false
  at true e none k stands rest = absurd (none-some y (sym none))
  at false e none zero stands rest = subst (λ l. p l ≡ false) (same_Some y x stands) e
  at false e none (suc k) stands rest = rest none k stands

in_front : (lines : List Line) (count : ℕ) (kind : LineKind) (line : Line) (place : ℕ) → place < count → IsFound lines kind line place → line_with kind lines ≡ Some line → line_with kind (take count lines) ≡ Some line
in_front lines count kind line place lt there is = at (line_with kind (take count lines)) refl where
  whole : option_or (line_with kind (take count lines)) (line_with kind (drop count lines)) ≡ Some line
  whole = sym (find-append (is_of_kind kind) (take count lines) (drop count lines)) ∙ (ap (line_with kind) (take-append-drop count lines) ∙ is)

  front : (xs : List Line) (i n : ℕ) → i < n → slice_get (take n xs) i ≡ slice_get xs i
  front xs i zero lt = absurd (omega arith)
  front [] i (suc n) lt = refl
  front (y ∷ ys) zero (suc n) lt = refl
  front (y ∷ ys) (suc i) (suc n) lt = front ys i n (omega arith)

  at : (o : Option Line) → line_with kind (take count lines) ≡ o → line_with kind (take count lines) ≡ Some line
  at (Some other) e = e ∙ (sym (ap (λ o. option_or o (line_with kind (drop count lines))) e) ∙ whole)
  at None e = absurd (false≢true (sym (none_found (is_of_kind kind) (take count lines) e place line (front lines place count lt ∙ there.stands)) ∙ there.kind_is))

kinds_apart : (kind : LineKind) → kind ≡ InputNames → false ≡ same_kind OutputNames kind
kinds_apart kind is = sym (ap (same_kind OutputNames) is)

module _ (most : ℕ) (lines : List Line) (fields : All (HasGoodFields most) lines) (faultless : HaveNoFault lines) where
  inputs_fine : (line : Line) → line_with InputNames lines ≡ Some line → (place : ℕ) × (k : ℕ) × IsFound lines InputNames line place × AreFine (inputs_said (take place lines)) (unwrap_or (names_said OutputNames (take place lines)) []) (operands line) k
  inputs_fine line is =
      let here = found lines InputNames line is in
      let form = form_at (take here.0 lines) line InputNames (faultless here.0 line here.1.stands) (kind_input_names (line_kind_of line) here.1.kind_is) in
      let names = names_fine _ _ (operands line) form in
      (here.0, names.0, here.1, names.1)

  outputs_fine : (line : Line) → line_with OutputNames lines ≡ Some line → (place : ℕ) × (o : ℕ) × IsFound lines OutputNames line place × AreFine (outputs_said (take place lines)) (unwrap_or (names_said InputNames (take place lines)) []) (operands line) o
  outputs_fine line is =
      let here = found lines OutputNames line is in
      let form = form_at (take here.0 lines) line OutputNames (faultless here.0 line here.1.stands) (kind_output_names (line_kind_of line) here.1.kind_is) in
      let names = names_fine _ _ (operands line) form in
      (here.0, names.0, here.1, names.1)

  given_at : (place : ℕ) (line : Line) → slice_get lines place ≡ Some line → All (λ name. length name ≤ 64) (operands line) → All (λ name. All (λ byte. byte ≢ 92) name) (operands line) → All IsGivenName (operands line)
  given_at place line stands short plain i d lt =
      let visible = All-drop (λ field. (0 < length field) × All IsFieldByte field) 1 line.fields (visible_at most lines fields faultless place line stands) i d lt in
      record { some = visible.0; short = short i d lt; visible = visible.1; no_backslash = plain i d lt }

  inputs_given : (k : ℕ) → inputs_said lines ≡ Some k → AreGiven k (names_said InputNames lines)
  inputs_given k is = at (line_with InputNames lines) refl where
    at : (o : Option Line) → line_with InputNames lines ≡ o → AreGiven k (option_map operands o)
    at None e = tt
    at (Some line) e =
        let there = inputs_fine line e in
        let same : there.1 ≡ k = same_Some there.1 k (sym (inputs_on lines faultless there.0 there.1 there.3.counted) ∙ is) in
        (there.3.as_many ∙ same, given_at there.0 line there.2.stands there.3.short there.3.plain)

  outputs_given : (o : ℕ) → outputs_said lines ≡ Some o → AreGiven o (names_said OutputNames lines)
  outputs_given o is = at (line_with OutputNames lines) refl where
    at : (x : Option Line) → line_with OutputNames lines ≡ x → AreGiven o (option_map operands x)
    at None e = tt
    at (Some line) e =
        let there = outputs_fine line e in
        let same : there.1 ≡ o = same_Some there.1 o (sym (outputs_on lines faultless there.0 there.1 there.3.counted) ∙ is) in
        (there.3.as_many ∙ same, given_at there.0 line there.2.stands there.3.short there.3.plain)

  -- no given name stands twice
  given_once : has_twice (unwrap_or (names_said InputNames lines) [] ++ unwrap_or (names_said OutputNames lines) []) ≡ false
  given_once = at (line_with InputNames lines) (line_with OutputNames lines) refl refl where
    at : (a b : Option Line) → line_with InputNames lines ≡ a → line_with OutputNames lines ≡ b → has_twice (unwrap_or (option_map operands a) [] ++ unwrap_or (option_map operands b) []) ≡ false
    at None None e f = refl
    at (Some line) None e f = let there = inputs_fine line e in rw (append-nil (operands line)) (twice_parts (unwrap_or (names_said OutputNames (take there.0 lines)) []) (operands line) there.3.once).1
    at None (Some line) e f = let there = outputs_fine line f in (twice_parts (unwrap_or (names_said InputNames (take there.0 lines)) []) (operands line) there.3.once).1
    at (Some line) (Some other) e f =
        let one = inputs_fine line e in
        let two = outputs_fine other f in
        elim (cases_order one.0 two.0) [
          | inl same ↦
              let lines_same : line ≡ other = same_Some line other (sym one.2.stands ∙ (ap (slice_get lines) same ∙ two.2.stands)) in
              absurd (false≢true (kinds_apart (line_kind_of line) (kind_input_names (line_kind_of line) one.2.kind_is) ∙ ap (λ l. is_of_kind OutputNames l) lines_same ∙ two.2.kind_is))
          | inr (inl less) ↦
              let before : names_said InputNames (take two.0 lines) ≡ Some (operands line) = ap (option_map operands) (in_front lines two.0 InputNames line one.0 less one.2 e) in
              sym (ap (λ names. has_twice (unwrap_or names [] ++ operands other)) before) ∙ two.3.once
          | inr (inr more) ↦
              let before : names_said OutputNames (take one.0 lines) ≡ Some (operands other) = ap (option_map operands) (in_front lines one.0 OutputNames other two.0 more two.2 f) in
              twice_swap (operands other) (operands line) (sym (ap (λ names. has_twice (unwrap_or names [] ++ operands line)) before) ∙ one.3.once)
        ]

-- the outputs of a row
double : (n : ℕ) → 2 ^ suc n ≡ 2 * 2 ^ n
double n = omega arith

care_in_below : (field : List ℕ) → care_in field < 2 ^ length field
unfolding care_in
care_in_below [] = omega arith
care_in_below (b ∷ field) = let rest = care_in_below field in rw (double (length field)) (at (eqb b 45) rest) where
  at : (dash : Bool) → care_in field < 2 ^ length field → cond dash 0 1 + 2 * care_in field < 2 * 2 ^ length field
  at true rest = omega arith
  at false rest = omega arith

half : (d n : ℕ) → d ≤ 1 → (d + 2 * n) / 2 ≡ n
half d n le = omega arith

odd : (d n : ℕ) → d ≤ 1 → (d + 2 * n) % 2 ≡ d
odd d n le = omega arith

value_inside : (field : List ℕ) (k : ℕ) → bit_at (value_in field) k ≤ bit_at (care_in field) k
unfolding care_in value_in
value_inside [] k = omega arith
value_inside (b ∷ field) zero = rw (bit_at_lowest (cond (eqb b 49) 1 0 + 2 * value_in field), bit_at_lowest (cond (eqb b 45) 0 1 + 2 * care_in field)) (digits (cond (eqb b 49) 1 0) (cond (eqb b 45) 0 1) (one (eqb b 49)) (two (eqb b 45)) below) where
  one : (t : Bool) → cond t 1 0 ≤ 1
  one true = omega arith
  one false = omega arith

  two : (t : Bool) → cond t 0 1 ≤ 1
  two true = omega arith
  two false = omega arith

  below : cond (eqb b 49) 1 0 ≤ cond (eqb b 45) 0 1
  below = grind (arith, nat_tests)

  digits : (v c : ℕ) → v ≤ 1 → c ≤ 1 → v ≤ c → (v + 2 * value_in field) % 2 ≤ (c + 2 * care_in field) % 2
  digits v c lv lc le = omega (arith, odd v (value_in field) lv, odd c (care_in field) lc)
value_inside (b ∷ field) (suc k) =
    rw (bit_at-suc (cond (eqb b 49) 1 0 + 2 * value_in field) k, bit_at-suc (cond (eqb b 45) 0 1 + 2 * care_in field) k, half (cond (eqb b 49) 1 0) (value_in field) (one (eqb b 49)), half (cond (eqb b 45) 0 1) (care_in field) (two (eqb b 45))) (value_inside field k) where
      one : (t : Bool) → cond t 1 0 ≤ 1
      one true = omega arith
      one false = omega arith

      two : (t : Bool) → cond t 0 1 ≤ 1
      two true = omega arith
      two false = omega arith

bit_one : (m n : ℕ) → m ≤ n → n < 2 → eqb m 1 ≡ true → eqb n 1 ≡ true
bit_one m zero le lt is = let one = eqb-true m 1 is in absurd (omega arith)
bit_one m (suc zero) le lt is = refl
bit_one m (suc (suc n)) le lt is = absurd (omega arith)

next_lawful : (states : List (List ℕ)) (field : List ℕ) (to : Option ℕ) → IsNextOf states field to → IfSome to (λ state. state < length states)
next_lawful states field None next = tt
next_lawful states field (Some t) next = slice_get_within states t field next.1

row_lawful : (k o : ℕ) (states : List (List ℕ)) (line : Line) (row : KissRow) → IsRowOf states line row → IsGoodRow k o line → IsLawfulRow k o (length states) row
row_lawful k o states line row is good =
    let long = field_length o (output_field line) good.output in
    let below : row.care < 2 ^ o = subst (λ n. n < 2 ^ o) (sym is.care) (subst (λ n. care_in (output_field line) < 2 ^ n) long (care_in_below (output_field line))) in
    record {
      width = sym (length-text row.cube) ∙ (ap length is.cube ∙ field_length k _ good.input);
      from = slice_get_within states row.from _ is.from;
      to = next_lawful states (next_field line) row.to is.to;
      care = λ b given. within b given below (cases_lt b o);
      value = λ b given.
          subst (λ n. bit n b ≡ true) (sym is.care)
          (bit_one (bit_at (value_in (output_field line)) b) (bit_at (care_in (output_field line)) b) (value_inside (output_field line) b) (bit_at-lt (care_in (output_field line)) b) (subst (λ n. bit n b ≡ true) is.value given));
    } where
      within : (b : ℕ) → bit row.care b ≡ true → row.care < 2 ^ o → (b < o) ⊎ (o ≤ b) → b < o
      within b given below (inl inside) = inside
      within b given below (inr past) = absurd (false≢true (sym (ap (λ n. eqb n 1) (bit_at_above row.care o b below past)) ∙ given))

zip_all : {A B : Type 0} (R : A → B → Type 0) (P : A → Type 0) (Q : B → Type 0) → ((a : A) (b : B) → R a b → P a → Q b) → (xs : List A) (ys : List B) → AllZip R xs ys → All P xs → All Q ys
zip_all R P Q f [] [] all p = All-nil Q
zip_all R P Q f [] (y ∷ ys) all p = absurd all
zip_all R P Q f (x ∷ xs) [] all p = absurd all
zip_all R P Q f (x ∷ xs) (y ∷ ys) all p = All-cons Q y ys (f x y all.0 (All-head P x xs p)) (zip_all R P Q f xs ys all.1 (All-tail P x xs p))

-- the states of lines, by their names
states_are : (lines : List Line) → state_names lines ≡ each_once (names_in_column 1 (row_lines lines) ++ names_in_column 2 (row_lines lines))
unfolding state_names
states_are lines = refl

zip_length : {A B : Type 0} (R : A → B → Type 0) (xs : List A) (ys : List B) → AllZip R xs ys → length ys ≡ length xs
zip_length R [] [] all = refl
zip_length R [] (y ∷ ys) all = absurd all
zip_length R (x ∷ xs) [] all = absurd all
zip_length R (x ∷ xs) (y ∷ ys) all = ap suc (zip_length R xs ys all.1)

-- the numbers of the states as they appear, and their names
abbrev IsNumberOf : List (List ℕ) → ℕ → List ℕ → Type 0
IsNumberOf states number name = slice_get states number ≡ Some name

zip_append : {A B : Type 0} (R : A → B → Type 0) (xs xs' : List A) (ys ys' : List B) → AllZip R xs ys → AllZip R xs' ys' → AllZip R (xs ++ xs') (ys ++ ys')
zip_append R [] xs' [] ys' one two = two
zip_append R [] xs' (y ∷ ys) ys' one two = absurd one
zip_append R (x ∷ xs) xs' [] ys' one two = absurd one
zip_append R (x ∷ xs) xs' (y ∷ ys) ys' one two = (one.0, zip_append R xs xs' ys ys' one.1 two)

currents : (states : List (List ℕ)) (lines : List Line) (rows : List KissRow) → AllZip (IsRowOf states) lines rows → All (λ line. is_name (current_field line) ≡ true) lines
    → AllZip (IsNumberOf states) (map (λ row. row.from) rows) (names_in_column 1 lines)
currents states [] [] all named = tt
currents states [] (row ∷ rows) all named = absurd all
currents states (line ∷ lines) [] all named = absurd all
currents states (line ∷ lines) (row ∷ rows) all named =
    subst (λ t. AllZip (IsNumberOf states) (row.from ∷ map (λ r. r.from) rows) (cond t (current_field line ∷ names_in_column 1 lines) (names_in_column 1 lines))) (sym (All-head (λ l. is_name (current_field l) ≡ true) line lines named))
    (all.0.from, currents states lines rows all.1 (All-tail (λ l. is_name (current_field l) ≡ true) line lines named))

nexts : (states : List (List ℕ)) (lines : List Line) (rows : List KissRow) → AllZip (IsRowOf states) lines rows → AllZip (IsNumberOf states) (filter_map (λ row. row.to) rows) (names_in_column 2 lines)
nexts states [] [] all = tt
nexts states [] (row ∷ rows) all = absurd all
nexts states (line ∷ lines) [] all = absurd all
nexts states (line ∷ lines) (row ∷ rows) all = at row.to all.0.to (nexts states lines rows all.1) where
  at : (to : Option ℕ) → IsNextOf states (next_field line) to → AllZip (IsNumberOf states) (filter_map (λ r. r.to) rows) (names_in_column 2 lines)
      → AllZip (IsNumberOf states) (cons_option to (filter_map (λ r. r.to) rows)) (cond (is_name (next_field line)) (next_field line ∷ names_in_column 2 lines) (names_in_column 2 lines))
  at None free rest = subst (λ t. AllZip (IsNumberOf states) (filter_map (λ r. r.to) rows) (cond (not t) (next_field line ∷ names_in_column 2 lines) (names_in_column 2 lines))) (sym free) rest
  at (Some t) named rest = subst (λ x. AllZip (IsNumberOf states) (t ∷ filter_map (λ r. r.to) rows) (cond (not x) (next_field line ∷ names_in_column 2 lines) (names_in_column 2 lines))) (sym named.0) (named.1, rest)

zip_at : {A B : Type 0} (R : A → B → Type 0) (xs : List A) (ys : List B) (i : ℕ) (x : A) → AllZip R xs ys → slice_get xs i ≡ Some x → (y : B) × (slice_get ys i ≡ Some y) × R x y
zip_at R [] ys i x all stands = absurd (none-some x stands)
zip_at R (a ∷ xs) [] i x all stands = absurd all
zip_at R (a ∷ xs) (b ∷ ys) zero x all stands = (b, refl, subst (λ z. R z b) (same_Some a x stands) all.0)
zip_at R (a ∷ xs) (b ∷ ys) (suc i) x all stands = zip_at R xs ys i x all.1 stands

zip_back : {A B : Type 0} (R : A → B → Type 0) (xs : List A) (ys : List B) (i : ℕ) (y : B) → AllZip R xs ys → slice_get ys i ≡ Some y → (x : A) × (slice_get xs i ≡ Some x) × R x y
zip_back R [] [] i y all stands = absurd (none-some y stands)
zip_back R [] (b ∷ ys) i y all stands = absurd all
zip_back R (a ∷ xs) [] i y all stands = absurd all
zip_back R (a ∷ xs) (b ∷ ys) zero y all stands = (a, refl, subst (R a) (same_Some b y stands) all.0)
zip_back R (a ∷ xs) (b ∷ ys) (suc i) y all stands = zip_back R xs ys i y all.1 stands

-- names that are put stand behind those that were there
once_front : (names more : List (List ℕ)) → (rest : List (List ℕ)) × (once_after names more ≡ names ++ rest)
once_front names [] = ([], sym (append-nil names))
once_front names (x ∷ more) = at (among x names) (once_front names more) (once_front (names ++ x ∷ []) more) where
  at : (there : Bool) → (rest : List (List ℕ)) × (once_after names more ≡ names ++ rest) → (rest : List (List ℕ)) × (once_after (names ++ x ∷ []) more ≡ (names ++ x ∷ []) ++ rest)
      → (rest : List (List ℕ)) × (once_after (cond there names (names ++ x ∷ [])) more ≡ names ++ rest)
  at true kept put = kept
  at false kept put = (x ∷ put.0, put.1 ∙ append_assoc names (x ∷ []) put.0)

get_left : (xs ys : List (List ℕ)) (i : ℕ) → i < length xs → slice_get (xs ++ ys) i ≡ slice_get xs i
get_left [] ys i lt = absurd (omega arith)
get_left (x ∷ xs) ys zero lt = refl
get_left (x ∷ xs) ys (suc i) lt = get_left xs ys i (omega arith)

get_middle : (xs : List (List ℕ)) (y : List ℕ) (ys : List (List ℕ)) → slice_get (xs ++ y ∷ ys) (length xs) ≡ Some y
get_middle [] y ys = refl
get_middle (x ∷ xs) y ys = get_middle xs y ys

take_get : {X : Type 0} (xs : List X) (i n : ℕ) (x : X) → slice_get (take n xs) i ≡ Some x → (slice_get xs i ≡ Some x) × (i < n)
take_get xs i zero x stands = absurd (none-some x stands)
take_get [] i (suc n) x stands = absurd (none-some x stands)
take_get (y ∷ ys) zero (suc n) x stands = (stands, omega arith)
take_get (y ∷ ys) (suc i) (suc n) x stands = let rest = take_get ys i n x stands in (rest.0, omega (arith, rest.1))

get_take : {X : Type 0} (xs : List X) (i n : ℕ) (x : X) → i < n → slice_get xs i ≡ Some x → slice_get (take n xs) i ≡ Some x
get_take xs i zero x lt stands = absurd (omega arith)
get_take [] i (suc n) x lt stands = absurd (none-some x stands)
get_take (y ∷ ys) zero (suc n) x lt stands = stands
get_take (y ∷ ys) (suc i) (suc n) x lt stands = get_take ys i n x (omega arith) stands

take_next : (xs : List (List ℕ)) (i : ℕ) (x : List ℕ) → slice_get xs i ≡ Some x → xs ≡ take i xs ++ x ∷ drop (suc i) xs
take_next [] i x stands = absurd (none-some x stands)
take_next (y ∷ ys) zero x stands = ap (λ z. z ∷ ys) (same_Some y x stands)
take_next (y ∷ ys) (suc i) x stands = ap (λ zs. y ∷ zs) (take_next ys i x stands)

contains_at : (xs : List ℕ) (i x : ℕ) → slice_get xs i ≡ Some x → Contains xs x
contains_at xs i x stands = (i, slice_get_within xs i x stands, get_or_from_slice_get xs i x x stands)

name_place : (names : List (List ℕ)) (name : List ℕ) → among name names ≡ true → (i : ℕ) × (slice_get names i ≡ Some name)
name_place names name there = let h = contained_from_test names name there in (h.0, slice_get-get_or names h.0 name h.1 ∙ ap Some h.2)

among_at : (names : List (List ℕ)) (i : ℕ) (name : List ℕ) → slice_get names i ≡ Some name → among name names ≡ true
among_at names i name stands = contained_test names name (i, slice_get_within names i name stands, get_or_from_slice_get names i name name stands)

-- numbers of names, each name numbered where it comes first
module _ (names : List (List ℕ)) (numbers : List ℕ) (all : AllZip (IsNumberOf (each_once names)) numbers names) where
  distinct : AreDistinct (each_once names)
  distinct = distinct_from_once (each_once names) (once-each_once names)

  -- each number appears
  appears : (s : ℕ) → s < length (each_once names) → Contains numbers s
  appears s lt =
      let name = get_or (each_once names) s [] in
      let here : slice_get (each_once names) s ≡ Some name = slice_get-get_or (each_once names) s [] lt in
      let there : among name names ≡ true = sym (among-each_once name names) ∙ among_at (each_once names) s name here in
      let place = name_place names name there in
      let number = zip_back (IsNumberOf (each_once names)) numbers names place.0 name all place.1 in
      let same : number.0 ≡ s = number_once (each_once names) name number.0 s distinct number.2 here in
      contains_at numbers place.0 s (number.1 ∙ ap Some same)

  -- a number is at most how many names came before
  module _ (place i : ℕ) (stands : slice_get numbers place ≡ Some i) where
    name : (n : List ℕ) × (slice_get names place ≡ Some n) × (slice_get (each_once names) i ≡ Some n)
    name = zip_at (IsNumberOf (each_once names)) numbers names place i all stands

    before : List (List ℕ)
    before = each_once (take place names)

    whole : (rest : List (List ℕ)) × (each_once names ≡ once_after (cond (among name.0 before) before (before ++ name.0 ∷ [])) rest)
    unfolding before
    whole = (
      drop (suc place) names,
      ap each_once (take_next names place name.0 name.1) ∙ each_once-append (take place names) (name.0 ∷ drop (suc place) names),
    )

    front : (rest : List (List ℕ)) × (each_once names ≡ cond (among name.0 before) before (before ++ name.0 ∷ []) ++ rest)
    front = let more = once_front (cond (among name.0 before) before (before ++ name.0 ∷ [])) whole.0 in (more.0, whole.1 ∙ more.1)

    -- where the name stands among all
    bound : i ≤ length before
    bound = at (among name.0 before) refl front.0 front.1 where
      at : (there : Bool) → among name.0 before ≡ there → (rest : List (List ℕ)) → each_once names ≡ cond (among name.0 before) before (before ++ name.0 ∷ []) ++ rest → i ≤ length before
      at true is rest split =
          let known = name_place before name.0 is in
          let inside = slice_get_within before known.0 name.0 known.1 in
          let split' : each_once names ≡ before ++ rest = split ∙ ap (λ t. cond t before (before ++ name.0 ∷ []) ++ rest) is in
          let at_all : slice_get (each_once names) known.0 ≡ Some name.0 = ap (λ xs. slice_get xs known.0) split' ∙ (get_left before rest known.0 inside ∙ known.1) in
          let same : i ≡ known.0 = number_once (each_once names) name.0 i known.0 distinct name.2 at_all in
          omega arith
      at false is rest split =
          let split' : each_once names ≡ before ++ name.0 ∷ rest = split ∙ (ap (λ t. cond t before (before ++ name.0 ∷ []) ++ rest) is ∙ append_assoc before (name.0 ∷ []) rest) in
          let at_all : slice_get (each_once names) (length before) ≡ Some name.0 = ap (λ xs. slice_get xs (length before)) split' ∙ get_middle before name.0 rest in
          let same : i ≡ length before = number_once (each_once names) name.0 i (length before) distinct name.2 at_all in
          omega arith

    in_front_of : (s : ℕ) → s < length before → slice_get (each_once names) s ≡ slice_get before s
    in_front_of s lt = at (among name.0 before) front.0 front.1 where
      at : (there : Bool) (rest : List (List ℕ)) → each_once names ≡ cond there before (before ++ name.0 ∷ []) ++ rest → slice_get (each_once names) s ≡ slice_get before s
      at true rest split = ap (λ xs. slice_get xs s) split ∙ get_left before rest s lt
      at false rest split = ap (λ xs. slice_get xs s) (split ∙ append_assoc before (name.0 ∷ []) rest) ∙ get_left before (name.0 ∷ rest) s lt

    -- each lesser number has appeared before
    lesser : (s : ℕ) → s < i → Contains (take place numbers) s
    unfolding before
    lesser s lt =
        let le = bound in
        let inside : s < length before = omega arith in
        let other = get_or before s [] in
        let here : slice_get before s ≡ Some other = slice_get-get_or before s [] inside in
        let there : among other (take place names) ≡ true = sym (among-each_once other (take place names)) ∙ among_at before s other here in
        let at = name_place (take place names) other there in
        let out = take_get names at.0 place other at.1 in
        let number = zip_back (IsNumberOf (each_once names)) numbers names at.0 other all out.0 in
        let same : number.0 ≡ s = number_once (each_once names) other number.0 s distinct number.2 (in_front_of s inside ∙ here) in
        contains_at (take place numbers) at.0 s (get_take numbers at.0 place s out.1 (number.1 ∙ ap Some same))

numbered : (lines : List Line) (F : KissFile) → IsRecordOf lines F → All (λ line. is_name (current_field line) ≡ true) (row_lines lines) → AreNumbered F
numbered lines F is named =
    let names : List (List ℕ) = names_in_column 1 (row_lines lines) ++ names_in_column 2 (row_lines lines) in
    let states : F.states ≡ each_once names = is.states ∙ states_are lines in
    let all : AllZip (IsNumberOf F.states) (appearances F) names =
    zip_append (IsNumberOf F.states) (map (λ row. row.from) F.rows) (filter_map (λ row. row.to) F.rows) (names_in_column 1 (row_lines lines)) (names_in_column 2 (row_lines lines))
    (currents F.states (row_lines lines) F.rows is.rows named) (nexts F.states (row_lines lines) F.rows is.rows) in
    let zipped : AllZip (IsNumberOf (each_once names)) (appearances F) names = subst (λ st. AllZip (IsNumberOf st) (appearances F) names) states all in
    record {
      each = λ s lt. appears names (appearances F) zipped s (subst (λ st. s < length st) states lt);
      in_order = λ place s inside lt. lesser names (appearances F) zipped place (get_or (appearances F) place 0) (slice_get-get_or (appearances F) place 0 inside) s lt;
    }

pub read_lawful : (bytes : List ℕ) (F : KissFile) → Kiss bytes F → IsLawful F
read_lawful bytes F read =
    let lines = lines_read bytes in
    let most = length bytes in
    let fields = read_good bytes in
    let none = read.faultless in
    let whole = read.whole in
    let some = some_rows lines read.closed in
    let good = rows_good lines none F.inputs F.outputs whole.inputs whole.outputs in
    let inputs = inputs_range lines none F.inputs whole.inputs in
    let outputs = outputs_range lines none F.outputs whole.outputs in
    let count = zip_length (IsRowOf F.states) (row_lines lines) F.rows whole.rows in
    let limits = few lines none in
    let named : All (λ line. is_name (current_field line) ≡ true) (row_lines lines) = All-weaker (IsGoodRow F.inputs F.outputs) (λ line. is_name (current_field line) ≡ true) (λ line g. not_from_false _ g.current) (row_lines lines) good in
    let reset = reset_there lines some in
    record {
      some_input = inputs.0;
      inputs = inputs.1;
      some_output = outputs.0;
      outputs = outputs.1;
      some_row = omega arith;
      row_count = rw count limits.1;
      state_count = rw whole.states limits.0;
      distinct = subst AreDistinct (sym whole.states) (states_distinct lines);
      state_names = subst (All IsPlainName) (sym whole.states) (states_plain lines (plain_row most lines fields none F.inputs F.outputs good));
      input_names = subst (AreGiven F.inputs) (sym whole.input_names) (inputs_given most lines fields none F.inputs whole.inputs);
      output_names = subst (AreGiven F.outputs) (sym whole.output_names) (outputs_given most lines fields none F.outputs whole.outputs);
      given_distinct =
          subst (λ a. AreDistinct (unwrap_or a [] ++ unwrap_or F.output_names [])) (sym whole.input_names)
          (subst (λ b. AreDistinct (unwrap_or (names_said InputNames lines) [] ++ unwrap_or b [])) (sym whole.output_names)
          (distinct_from_once (unwrap_or (names_said InputNames lines) [] ++ unwrap_or (names_said OutputNames lines) []) (given_once most lines fields none)));
      rows = zip_all (IsRowOf F.states) (IsGoodRow F.inputs F.outputs) (IsLawfulRow F.inputs F.outputs (length F.states)) (λ line row is g. row_lawful F.inputs F.outputs F.states line row is g) (row_lines lines) F.rows whole.rows good;
      reset = slice_get_within F.states F.reset reset.0 (whole.reset ∙ reset.1);
      numbered = numbered lines F whole named;
    }
