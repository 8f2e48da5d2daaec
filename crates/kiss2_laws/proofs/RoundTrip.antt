-- What is written of a lawful record is read back as that record.
use Rattle.std.proofs.Common.{◌≡◌, ℕ, suc, ◌+◌, ◌<◌, ◌≤◌, ◌^◌, Bool, true, false, cond, eqb, List, [], ◌∷◌, ◌++◌, length, map, Option, Some, None, All, ap, sym, ◌∙◌, refl, subst, arith, codes, append_assoc, append-nil}
use Rattle.std.specs.Prelude.{slice_get, unwrap_or}
use Rattle.std.specs.Fmt.{decimal}
use Rattle.std.specs.List.{AllByRecursion, AllZip, cons_option, filter_map, list_any, range_with_len}
use Rattle.std.specs.Option.{IfSome, is_some, option_map, option_or}
use Rattle.std.proofs.lemmas.Bool.{false≢true, ne_eqb}
use Rattle.std.proofs.lemmas.List.{map-append}
use Rattle.std.proofs.lemmas.List.Folds.{find-append}
use Rattle.std.proofs.lemmas.List.Elements.{All-append, All-cons, All-head, All-nil, Contains-get_or, All-map, All-tail, filter-append, recursion_from_All}
use Rattle.std.proofs.lemmas.List.Sums.{count_by-le-length}
use Rattle.std.proofs.lemmas.List.FromFn.{length-map-range_with_len, length-range_with_len}
use Rattle.cubes.specs.Cube.{text_of}
use Rattle.cubes.specs.Field.{byte_of, character, characters}
use Rattle.std.proofs.lemmas.Option.{slice_get-get_or}
use Rattle.hs_io.specs.declared.lines.Line.{Line}
use Rattle.hs_io.specs.Lines.{lines_of}
use Rattle.hs_io.specs.Spelling.{spelled, ArePlainFields, IsFieldByte, IsPlainField}
use Rattle.kiss2.specs.declared.fault.KissFault.{KissFault}
use Rattle.kiss2.specs.declared.fault.KissKind.TheVariants.{NoRows, ResetUnknown}
use Rattle.kiss2.specs.declared.fault.KissLimit.TheVariants.{Inputs, Outputs}
use Rattle.kiss_file.specs.declared.file.KissFile.{KissFile}
use Rattle.kiss_file.specs.declared.file.KissRow.{KissRow}
use Rattle.kiss2.specs.declared.line_kind.LineKind.{LineKind}
use Rattle.kiss2.specs.declared.line_kind.LineKind.TheVariants.{InputCount, InputNames, OutputCount, OutputNames, Reset, Row, RowCount, StateCount}
use Rattle.kiss2.specs.Faults.{has_twice, names_fault}
use Rattle.kiss2.specs.Kiss.{HaveNoFault, IsReadAs, IsRowOf, Kiss, before_end, closing_fault, lines_read, reset_unknown}
use Rattle.kiss_file.specs.LawfulFile.{AreGiven, IsGivenName, IsLawful, IsLawfulRow, appearances, given_names}
use Rattle.kiss_file.specs.Names.{IsPlainName, name_of}
use Rattle.kiss2.specs.Standing.{each_once, has_stood, inputs_said, line_with, names_in_column, names_said, outputs_said, row_lines, state_names}
use Rattle.kiss2.specs.Words.{decimal_value, field_at, is_ending, is_of_kind, kind_of_field, operands, same_kind}
use Rattle.kiss2.specs.KissText.{fields_of_row, given_line, kiss_lines, kiss_text, next_name, output_characters, states_standing}
use Rattle.kiss2.specs.Laws.Faultless.{faultless_none, faultless_push}
use Rattle.kiss2.specs.Laws.Finding.{contained_test, once_from_distinct}
use Rattle.kiss2_laws.proofs.Header.{count_written, names_written, number_written, reset_written}
use Rattle.kiss2.specs.Laws.Once.{among}
use Rattle.kiss2_laws.proofs.ReadBack.{before_end-cons, decimal_plain, decimal_read, lines_of-spelled, numbered}
use Rattle.kiss2_laws.proofs.ReadLawful.{twice_parts}
use Rattle.kiss2.specs.Laws.SameRecord.{length-text}
use Rattle.kiss2_laws.proofs.RowsBack.{Ready, all_pushed, column_from, column_to, row_texts, rows_are, rows_go, rows_without, rows_zip}
use Rattle.kiss2_laws.proofs.Renumbered.{renumbered}
use Rattle.kiss2.specs.Laws.Stood.{fault_form, or_none, other}

-- the lines above the rows
abbrev pub head : ℕ → ℕ → Option (List (List ℕ)) → Option (List (List ℕ)) → ℕ → ℕ → List ℕ → List (List (List ℕ))
head k o ilb ob p s r =
    (codes ".i" ∷ decimal k ∷ []) ∷ (codes ".o" ∷ decimal o ∷ [])
    ∷ (given_line (codes ".ilb") ilb ++ (given_line (codes ".ob") ob ++ ((codes ".p" ∷ decimal p ∷ []) ∷ (codes ".s" ∷ decimal s ∷ []) ∷ (codes ".r" ∷ r ∷ []) ∷ [])))

numbered-append : (n : ℕ) (xs ys : List (List (List ℕ))) → numbered n (xs ++ ys) ≡ numbered n xs ++ numbered (n + length xs) ys
numbered-append n [] ys = let same : n ≡ n + 0 = omega arith in ap (λ m. numbered m ys) same
numbered-append n (x ∷ xs) ys =
    let same : (n + 1) + length xs ≡ n + suc (length xs) = omega arith in
    ap (λ ls. record { number = n; fields = x; bad = false } ∷ ls) (numbered-append (n + 1) xs ys ∙ ap (λ m. numbered (n + 1) xs ++ numbered m ys) same)

-- a line by its number and its fields
abbrev pub line : ℕ → List (List ℕ) → Line
line n fields = record { number = n; fields = fields; bad = false }

-- `.p`, `.s` and `.r` behind lines in which they have not stood
tail_fine : (before : List Line) (n p s : ℕ) (r : List ℕ) → p < 10 ^ 9 → s < 10 ^ 9 → length r ≤ 64 → HaveNoFault before
    → has_stood RowCount before ≡ false → has_stood StateCount before ≡ false → has_stood Reset before ≡ false
    → HaveNoFault (before ++ numbered n ((codes ".p" ∷ decimal p ∷ []) ∷ (codes ".s" ∷ decimal s ∷ []) ∷ (codes ".r" ∷ r ∷ []) ∷ []))
unfolding kind_of_field
tail_fine before n p s r small_p small_s short none no_p no_s no_r =
    let one = line n (codes ".p" ∷ decimal p ∷ []) in
    let two = line (n + 1) (codes ".s" ∷ decimal s ∷ []) in
    let three = line ((n + 1) + 1) (codes ".r" ∷ r ∷ []) in
    let first : HaveNoFault (before ++ one ∷ []) = faultless_push before one none (fault_form before one RowCount refl refl no_p ∙ number_written p small_p) in
    let no_s' : has_stood StateCount (before ++ one ∷ []) ≡ false = ap is_some (other before one StateCount RowCount refl refl) ∙ no_s in
    let no_r' : has_stood Reset (before ++ one ∷ []) ≡ false = ap is_some (other before one Reset RowCount refl refl) ∙ no_r in
    let second : HaveNoFault ((before ++ one ∷ []) ++ two ∷ []) = faultless_push (before ++ one ∷ []) two first (fault_form (before ++ one ∷ []) two StateCount refl refl no_s' ∙ number_written s small_s) in
    let no_r'' : has_stood Reset ((before ++ one ∷ []) ++ two ∷ []) ≡ false = ap is_some (other (before ++ one ∷ []) two Reset StateCount refl refl) ∙ no_r' in
    let third : HaveNoFault (((before ++ one ∷ []) ++ two ∷ []) ++ three ∷ []) = faultless_push ((before ++ one ∷ []) ++ two ∷ []) three second (fault_form ((before ++ one ∷ []) ++ two ∷ []) three Reset refl refl no_r'' ∙ reset_written r short) in
    subst HaveNoFault (append_assoc (before ++ one ∷ []) (two ∷ []) (three ∷ []) ∙ append_assoc before (one ∷ []) (two ∷ three ∷ [])) third

module _ (k o : ℕ) (some_k : 1 ≤ k) (few_k : k ≤ 32) (some_o : 1 ≤ o) (few_o : o ≤ 64) where
  counts : List Line
  counts = line 1 (codes ".i" ∷ decimal k ∷ []) ∷ line 2 (codes ".o" ∷ decimal o ∷ []) ∷ []

  inputs_are : decimal_value (decimal k) ≡ k
  inputs_are = (decimal_read k (omega arith)).1

  outputs_are : decimal_value (decimal o) ≡ o
  outputs_are = (decimal_read o (omega arith)).1

  counts_fine : HaveNoFault counts
  unfolding counts kind_of_field
  counts_fine =
      let one = line 1 (codes ".i" ∷ decimal k ∷ []) in
      let two = line 2 (codes ".o" ∷ decimal o ∷ []) in
      faultless_push (one ∷ []) two (faultless_push [] one faultless_none (fault_form [] one InputCount refl refl refl ∙ count_written Inputs 32 k some_k few_k (omega arith)))
      (fault_form (one ∷ []) two OutputCount refl refl refl ∙ count_written Outputs 64 o some_o few_o (omega arith))

  -- with the names of inputs, of outputs, and of both
  inputs_named : (a : List (List ℕ)) → length a ≡ k → All IsGivenName a → has_twice a ≡ false → HaveNoFault (counts ++ line 3 (codes ".ilb" ∷ a) ∷ [])
  unfolding counts kind_of_field
  inputs_named a long given once =
      faultless_push counts (line 3 (codes ".ilb" ∷ a)) counts_fine
      (fault_form counts (line 3 (codes ".ilb" ∷ a)) InputNames refl refl refl ∙ (ap (λ n. names_fault (Some n) [] a) inputs_are ∙ names_written k [] a long given once))

  outputs_named : (b : List (List ℕ)) → length b ≡ o → All IsGivenName b → has_twice b ≡ false → HaveNoFault (counts ++ line 3 (codes ".ob" ∷ b) ∷ [])
  unfolding counts kind_of_field
  outputs_named b long given once =
      faultless_push counts (line 3 (codes ".ob" ∷ b)) counts_fine
      (fault_form counts (line 3 (codes ".ob" ∷ b)) OutputNames refl refl refl ∙ (ap (λ n. names_fault (Some n) [] b) outputs_are ∙ names_written o [] b long given once))

  both_named : (a b : List (List ℕ)) → length a ≡ k → All IsGivenName a → length b ≡ o → All IsGivenName b → has_twice (a ++ b) ≡ false → HaveNoFault ((counts ++ line 3 (codes ".ilb" ∷ a) ∷ []) ++ line 4 (codes ".ob" ∷ b) ∷ [])
  unfolding counts kind_of_field
  both_named a b long_a given_a long_b given_b once =
      let parts = twice_parts a b once in
      let before = counts ++ line 3 (codes ".ilb" ∷ a) ∷ [] in
      faultless_push before (line 4 (codes ".ob" ∷ b)) (inputs_named a long_a given_a parts.0)
      (fault_form before (line 4 (codes ".ob" ∷ b)) OutputNames refl refl refl ∙ (ap (λ n. names_fault (Some n) a b) outputs_are ∙ names_written o a b long_b given_b once))

  module _ (p s : ℕ) (r : List ℕ) (small_p : p < 10 ^ 9) (small_s : s < 10 ^ 9) (short : length r ≤ 64) where
    -- the lines above the rows have no fault
    pub head_fine : (ilb ob : Option (List (List ℕ))) → AreGiven k ilb → AreGiven o ob → has_twice (unwrap_or ilb [] ++ unwrap_or ob []) ≡ false → HaveNoFault (numbered 1 (head k o ilb ob p s r))
    unfolding counts kind_of_field
    head_fine None None ga gb once = tail_fine counts 3 p s r small_p small_s short counts_fine refl refl refl
    head_fine (Some a) None ga gb once =
        tail_fine (counts ++ line 3 (codes ".ilb" ∷ a) ∷ []) 4 p s r small_p small_s short (inputs_named a ga.0 ga.1 (sym (ap has_twice (append-nil a)) ∙ once)) refl refl refl
    head_fine None (Some b) ga gb once = tail_fine (counts ++ line 3 (codes ".ob" ∷ b) ∷ []) 4 p s r small_p small_s short (outputs_named b gb.0 gb.1 once) refl refl refl
    head_fine (Some a) (Some b) ga gb once =
        tail_fine ((counts ++ line 3 (codes ".ilb" ∷ a) ∷ []) ++ line 4 (codes ".ob" ∷ b) ∷ []) 5 p s r small_p small_s short (both_named a b ga.0 ga.1 gb.0 gb.1 once) refl refl refl

  -- what they say
  module _ (p s : ℕ) (r : List ℕ) where
    pub head_inputs : (ilb ob : Option (List (List ℕ))) → inputs_said (numbered 1 (head k o ilb ob p s r)) ≡ Some k
    unfolding kind_of_field
    head_inputs ilb ob = ap Some inputs_are

    pub head_outputs : (ilb ob : Option (List (List ℕ))) → outputs_said (numbered 1 (head k o ilb ob p s r)) ≡ Some o
    unfolding kind_of_field
    head_outputs ilb ob = ap Some outputs_are

    pub head_rows : (ilb ob : Option (List (List ℕ))) → row_lines (numbered 1 (head k o ilb ob p s r)) ≡ []
    unfolding kind_of_field
    head_rows None None = refl
    head_rows None (Some b) = refl
    head_rows (Some a) None = refl
    head_rows (Some a) (Some b) = refl

    pub head_states : (ilb ob : Option (List (List ℕ))) → state_names (numbered 1 (head k o ilb ob p s r)) ≡ []
    unfolding kind_of_field state_names each_once
    head_states None None = refl
    head_states None (Some b) = refl
    head_states (Some a) None = refl
    head_states (Some a) (Some b) = refl

    pub head_ilb : (ilb ob : Option (List (List ℕ))) → names_said InputNames (numbered 1 (head k o ilb ob p s r)) ≡ ilb
    unfolding kind_of_field
    head_ilb None None = refl
    head_ilb None (Some b) = refl
    head_ilb (Some a) None = refl
    head_ilb (Some a) (Some b) = refl

    pub head_ob : (ilb ob : Option (List (List ℕ))) → names_said OutputNames (numbered 1 (head k o ilb ob p s r)) ≡ ob
    unfolding kind_of_field
    head_ob None None = refl
    head_ob None (Some b) = refl
    head_ob (Some a) None = refl
    head_ob (Some a) (Some b) = refl

    pub head_reset : (ilb ob : Option (List (List ℕ))) → (n : ℕ) × (line_with Reset (numbered 1 (head k o ilb ob p s r)) ≡ Some (line n (codes ".r" ∷ r ∷ [])))
    unfolding kind_of_field
    head_reset None None = (5, refl)
    head_reset None (Some b) = (6, refl)
    head_reset (Some a) None = (6, refl)
    head_reset (Some a) (Some b) = (7, refl)

    pub head_goes : (ilb ob : Option (List (List ℕ))) → AllByRecursion (λ fields. (n : ℕ) → is_ending (record { number = n; fields = fields; bad = false }) ≡ false) (head k o ilb ob p s r)
    unfolding kind_of_field
    head_goes None None = (λ n. refl, (λ n. refl, (λ n. refl, (λ n. refl, (λ n. refl, tt)))))
    head_goes None (Some b) = (λ n. refl, (λ n. refl, (λ n. refl, (λ n. refl, (λ n. refl, (λ n. refl, tt))))))
    head_goes (Some a) None = (λ n. refl, (λ n. refl, (λ n. refl, (λ n. refl, (λ n. refl, (λ n. refl, tt))))))
    head_goes (Some a) (Some b) = (λ n. refl, (λ n. refl, (λ n. refl, (λ n. refl, (λ n. refl, (λ n. refl, (λ n. refl, tt)))))))

-- fields that are written
word_plain : (first second : ℕ) → IsFieldByte first → IsFieldByte second → IsPlainField (first ∷ second ∷ [])
word_plain first second one two = record { some = omega arith; visible = (one, (two, tt)) }

letter : (b : ℕ) → 36 ≤ b → b ≤ 126 → IsFieldByte b
letter b low high = record { low = omega arith; high = high; no_comment = λ e. absurd (omega arith) }

name_field : (name : List ℕ) → 0 < length name → All IsFieldByte name → IsPlainField name
name_field name some all = record { some = some; visible = recursion_from_All IsFieldByte name all }

given_fields : (names : List (List ℕ)) → All IsGivenName names → ArePlainFields names
given_fields [] all = tt
given_fields (name ∷ names) all =
    let here = All-head IsGivenName name names all in
    (name_field name here.some here.visible, given_fields names (All-tail IsGivenName name names all))

character_byte : (c : Option Bool) → IsFieldByte (byte_of c)
character_byte None = letter 45 (omega arith) (omega arith)
character_byte (Some true) = letter 49 (omega arith) (omega arith)
character_byte (Some false) = letter 48 (omega arith) (omega arith)

characters_bytes : (cs : List (Option Bool)) → AllByRecursion IsFieldByte (map byte_of cs)
characters_bytes [] = tt
characters_bytes (c ∷ cs) = (character_byte c, characters_bytes cs)

outputs_bytes : (row : KissRow) (places : List ℕ) → AllByRecursion IsFieldByte (map (λ b. byte_of (character row.care row.value b)) places)
outputs_bytes row [] = tt
outputs_bytes row (b ∷ places) = (character_byte (character row.care row.value b), outputs_bytes row places)

module _ (states : List (List ℕ)) (k o : ℕ) (some_k : 1 ≤ k) (some_o : 1 ≤ o) (plain : All IsPlainName states) where
  state_field : (s : ℕ) → s < length states → IsPlainField (name_of states s)
  state_field s lt = let h = plain s [] lt in name_field (name_of states s) h.some h.visible

  next_plain : (to : Option ℕ) → IfSome to (λ t. t < length states) → IsPlainField (next_name states to)
  next_plain None lt = record { some = omega arith; visible = (letter 45 (omega arith) (omega arith), tt) }
  next_plain (Some t) lt = state_field t lt

  row_plain : (row : KissRow) → IsLawfulRow k o (length states) row → ArePlainFields (fields_of_row states o row)
  row_plain row lawful =
      let wide : length (text_of row.cube) ≡ row.cube.width = length-text row.cube in
      let width = lawful.width in
      let long : length (output_characters o row) ≡ o = length-map-range_with_len (λ b. byte_of (character row.care row.value b)) 0 o in (
        record { some = omega arith; visible = characters_bytes (characters row.cube.width row.cube.care row.cube.value) },
        (
          state_field row.from lawful.from,
          (
            next_plain row.to lawful.to,
            (record { some = omega arith; visible = outputs_bytes row (range_with_len 0 o) }, tt),
          ),
        ),
      )

  rows_plain : (rows : List KissRow) → All (IsLawfulRow k o (length states)) rows → AllByRecursion ArePlainFields (map (fields_of_row states o) rows)
  rows_plain [] lawful = tt
  rows_plain (row ∷ rows) lawful = (row_plain row (All-head (IsLawfulRow k o (length states)) row rows lawful), rows_plain rows (All-tail (IsLawfulRow k o (length states)) row rows lawful))

all_append : (xs ys : List (List (List ℕ))) → AllByRecursion ArePlainFields xs → AllByRecursion ArePlainFields ys → AllByRecursion ArePlainFields (xs ++ ys)
all_append [] ys p q = q
all_append (x ∷ xs) ys (h, p) q = (h, all_append xs ys p q)

dot : IsFieldByte 46
dot = letter 46 (omega arith) (omega arith)

given_plain : (word : List ℕ) (names : Option (List (List ℕ))) (k : ℕ) → IsPlainField word → AreGiven k names → AllByRecursion ArePlainFields (given_line word names)
given_plain word None k plain given = tt
given_plain word (Some names) k plain given = ((plain, given_fields names given.1), tt)

head_plain : (k o : ℕ) (ilb ob : Option (List (List ℕ))) (p s : ℕ) (r : List ℕ) → k < 10 ^ 9 → o < 10 ^ 9 → p < 10 ^ 9 → s < 10 ^ 9 → IsPlainField r → AreGiven k ilb → AreGiven o ob → AllByRecursion ArePlainFields (head k o ilb ob p s r)
head_plain k o ilb ob p s r sk so sp ss rp ga gb =
    let i = letter 105 (omega arith) (omega arith) in
    let l = letter 108 (omega arith) (omega arith) in
    let b = letter 98 (omega arith) (omega arith) in
    let oo = letter 111 (omega arith) (omega arith) in
    let ilb_plain : IsPlainField (codes ".ilb") = record { some = omega arith; visible = (dot, (i, (l, (b, tt)))) } in
    let ob_plain : IsPlainField (codes ".ob") = record { some = omega arith; visible = (dot, (oo, (b, tt))) } in (
      (word_plain 46 105 dot i, (decimal_plain k sk, tt)),
      (
        (word_plain 46 111 dot oo, (decimal_plain o so, tt)),
        all_append (given_line (codes ".ilb") ilb) _ (given_plain (codes ".ilb") ilb k ilb_plain ga)
            (all_append (given_line (codes ".ob") ob) _ (given_plain (codes ".ob") ob o ob_plain gb) (
              (word_plain 46 112 dot (letter 112 (omega arith) (omega arith)), (decimal_plain p sp, tt)),
              (
                (word_plain 46 115 dot (letter 115 (omega arith) (omega arith)), (decimal_plain s ss, tt)),
                ((word_plain 46 114 dot (letter 114 (omega arith) (omega arith)), (rp, tt)), tt),
              ),
            )),
      ),
    )

-- lines that do not end the text, and the ending word behind them
last_ends : (n : ℕ) → before_end (numbered n ((codes ".e" ∷ []) ∷ [])) ≡ []
unfolding kind_of_field
last_ends n = refl

to_the_end : (n : ℕ) (lines : List (List (List ℕ))) → AllByRecursion (λ fields. (m : ℕ) → is_ending (record { number = m; fields = fields; bad = false }) ≡ false) lines
    → before_end (numbered n (lines ++ (codes ".e" ∷ []) ∷ [])) ≡ numbered n lines
to_the_end n [] going = last_ends n
to_the_end n (fields ∷ lines) (here, going) =
    before_end-cons (record { number = n; fields = fields; bad = false }) (numbered (n + 1) (lines ++ (codes ".e" ∷ []) ∷ [])) (here n)
    ∙ ap (λ ls. record { number = n; fields = fields; bad = false } ∷ ls) (to_the_end (n + 1) lines going)

going_append : (xs ys : List (List (List ℕ))) → AllByRecursion (λ fields. (m : ℕ) → is_ending (record { number = m; fields = fields; bad = false }) ≡ false) xs
    → AllByRecursion (λ fields. (m : ℕ) → is_ending (record { number = m; fields = fields; bad = false }) ≡ false) ys → AllByRecursion (λ fields. (m : ℕ) → is_ending (record { number = m; fields = fields; bad = false }) ≡ false) (xs ++ ys)
going_append [] ys p q = q
going_append (x ∷ xs) ys (h, p) q = (h, going_append xs ys p q)

-- the lines of a record: those above the rows, the rows, and the ending word
regroup : (ilb ob : Option (List (List ℕ))) (i o p s r : List (List ℕ)) (rows : List (List (List ℕ))) (e : List (List ℕ))
    → i ∷ o ∷ ((given_line (codes ".ilb") ilb ++ given_line (codes ".ob") ob) ++ (p ∷ s ∷ r ∷ (rows ++ e ∷ [])))
    ≡ ((i ∷ o ∷ (given_line (codes ".ilb") ilb ++ (given_line (codes ".ob") ob ++ (p ∷ s ∷ r ∷ [])))) ++ rows) ++ e ∷ []
regroup None None i o p s r rows e = refl
regroup None (Some b) i o p s r rows e = refl
regroup (Some a) None i o p s r rows e = refl
regroup (Some a) (Some b) i o p s r rows e = refl

-- how many states stand is at most how many there are
standing_few : (F : KissFile) → states_standing F ≤ length F.states
standing_few F = omega (arith, count_by-le-length (λ s. list_any (λ t. eqb t s) (appearances F)) (range_with_len 0 (length F.states)), length-range_with_len 0 (length F.states))

kept_within : (states : ℕ) (k o : ℕ) (rows : List KissRow) → All (IsLawfulRow k o states) rows → All (λ n. n < states) (filter_map (λ row. row.to) rows)
kept_within states k o [] lawful = All-nil (λ n. n < states)
kept_within states k o (row ∷ rows) lawful = at row.to (All-head (IsLawfulRow k o states) row rows lawful).to (kept_within states k o rows (All-tail (IsLawfulRow k o states) row rows lawful)) where
  at : (to : Option ℕ) → IfSome to (λ t. t < states) → All (λ n. n < states) (filter_map (λ r. r.to) rows) → All (λ n. n < states) (cons_option to (filter_map (λ r. r.to) rows))
  at None lt rest = rest
  at (Some t) lt rest = All-cons (λ n. n < states) t (filter_map (λ r. r.to) rows) lt rest

states_said : (lines : List Line) → state_names lines ≡ each_once (names_in_column 1 (row_lines lines) ++ names_in_column 2 (row_lines lines))
unfolding state_names
states_said lines = refl

module _ (F : KissFile) (lawful : IsLawful F) where
  above : List (List (List ℕ))
  above = head F.inputs F.outputs F.input_names F.output_names (length F.rows) (states_standing F) (name_of F.states F.reset)

  texts : List (List (List ℕ))
  texts = row_texts F.states F.inputs F.outputs lawful.some_input lawful.state_names lawful.state_count F.rows

  begin : ℕ
  begin = 1 + length above

  -- the lines that are read
  lines : List Line
  lines = numbered 1 above ++ numbered begin texts

  reset_plain : IsPlainName (name_of F.states F.reset)
  reset_plain = lawful.state_names F.reset [] lawful.reset

  read_again : lines_read (kiss_text F) ≡ lines
  unfolding lines_read above texts begin lines
  read_again =
      let e : List (List ℕ) = codes ".e" ∷ [] in
      let few_rows = lawful.row_count in
      let few_states = lawful.state_count in
      let few_inputs = lawful.inputs in
      let few_outputs = lawful.outputs in
      let standing = standing_few F in
      let rows = rows_plain F.states F.inputs F.outputs lawful.some_input lawful.some_output lawful.state_names F.rows lawful.rows in
      let heads = head_plain F.inputs F.outputs F.input_names F.output_names (length F.rows) (states_standing F) (name_of F.states F.reset) (omega arith) (omega arith) (omega arith) (omega arith)
      (name_field (name_of F.states F.reset) reset_plain.some reset_plain.visible) lawful.input_names lawful.output_names in
      let last : AllByRecursion ArePlainFields (e ∷ []) = ((word_plain 46 101 dot (letter 101 (omega arith) (omega arith)), tt), tt) in
      let plain = all_append (above ++ texts) (e ∷ []) (all_append above texts heads rows) last in
      let whole : kiss_lines F ≡ (above ++ texts) ++ e ∷ [] =
      regroup F.input_names F.output_names (codes ".i" ∷ decimal F.inputs ∷ []) (codes ".o" ∷ decimal F.outputs ∷ []) (codes ".p" ∷ decimal (length F.rows) ∷ []) (codes ".s" ∷ decimal (states_standing F) ∷ []) (codes ".r" ∷ name_of F.states F.reset ∷ []) texts e in
      let goes = going_append above texts
      (head_goes F.inputs F.outputs lawful.some_input lawful.inputs lawful.some_output lawful.outputs (length F.rows) (states_standing F) (name_of F.states F.reset) F.input_names F.output_names)
      (rows_go F.states F.inputs F.outputs lawful.some_input lawful.state_names lawful.state_count F.rows lawful.rows) in
      ap (λ ls. before_end (lines_of (spelled ls))) whole
      ∙ (ap before_end (lines_of-spelled ((above ++ texts) ++ e ∷ []) plain)
      ∙ (to_the_end 1 (above ++ texts) goes ∙ numbered-append 1 above texts))

  ready : Ready F.states F.inputs F.outputs lawful.some_input lawful.state_names lawful.state_count lines (length F.rows)
  unfolding above texts begin lines
  ready =
      let few_states = lawful.state_count in
      let few_rows = lawful.row_count in
      let standing = standing_few F in
      let p = length F.rows in
      let s = states_standing F in
      let r = name_of F.states F.reset in
      let begun : Ready F.states F.inputs F.outputs lawful.some_input lawful.state_names lawful.state_count (numbered 1 above) 0 = record {
        inputs = head_inputs F.inputs F.outputs lawful.some_input lawful.inputs lawful.some_output lawful.outputs p s r F.input_names F.output_names;
        outputs = head_outputs F.inputs F.outputs lawful.some_input lawful.inputs lawful.some_output lawful.outputs p s r F.input_names F.output_names;
        rows = ap length (head_rows F.inputs F.outputs lawful.some_input lawful.inputs lawful.some_output lawful.outputs p s r F.input_names F.output_names);
        known = λ name there. absurd (false≢true (sym (ap (among name) (head_states F.inputs F.outputs lawful.some_input lawful.inputs lawful.some_output lawful.outputs p s r F.input_names F.output_names)) ∙ there));
        faultless = head_fine F.inputs F.outputs lawful.some_input lawful.inputs lawful.some_output lawful.outputs p s r (omega arith) (omega arith) reset_plain.short F.input_names F.output_names lawful.input_names lawful.output_names
            (once_from_distinct (given_names F) lawful.given_distinct);
      } in
      let same : 0 + length F.rows ≡ length F.rows = omega arith in
      subst (λ n. Ready F.states F.inputs F.outputs lawful.some_input lawful.state_names lawful.state_count lines n) same
      (all_pushed F.states F.inputs F.outputs lawful.some_input lawful.state_names lawful.state_count F.rows begin 0 (numbered 1 above) lawful.rows begun (omega arith))

  rows_read : row_lines lines ≡ numbered begin texts
  unfolding above texts begin lines
  rows_read =
      filter-append (is_of_kind Row) (numbered 1 above) (numbered begin texts)
      ∙ (ap (λ front. front ++ row_lines (numbered begin texts)) (head_rows F.inputs F.outputs lawful.some_input lawful.inputs lawful.some_output lawful.outputs (length F.rows) (states_standing F) (name_of F.states F.reset) F.input_names F.output_names)
      ∙ rows_are F.states F.inputs F.outputs lawful.some_input lawful.state_names lawful.state_count F.rows begin lawful.rows)

  states_read : F.states ≡ state_names lines
  unfolding texts
  states_read =
      let froms = map (λ row. row.from) F.rows in
      let tos = filter_map (λ row. row.to) F.rows in
      let within : All (λ n. n < length F.states) (appearances F) =
      All-append (λ n. n < length F.states) froms tos
      (All-map (λ n. n < length F.states) (λ row. row.from) F.rows (λ i d lt. (lawful.rows i d lt).from)) (kept_within (length F.states) F.inputs F.outputs F.rows lawful.rows) in
      sym (states_said lines
      ∙ (ap (λ ls. each_once (names_in_column 1 ls ++ names_in_column 2 ls)) rows_read
      ∙ (ap (λ names. each_once (names ++ names_in_column 2 (numbered begin texts))) (column_from F.states F.inputs F.outputs lawful.some_input lawful.state_names lawful.state_count F.rows begin lawful.rows)
      ∙ (ap (λ names. each_once (map (name_of F.states) froms ++ names)) (column_to F.states F.inputs F.outputs lawful.some_input lawful.state_names lawful.state_count F.rows begin lawful.rows)
      ∙ (ap each_once (sym (map-append (name_of F.states) froms tos))
      ∙ renumbered F.states (appearances F) lawful.distinct lawful.numbered.each lawful.numbered.in_order within)))))

  -- a line of the words is found above the rows
  found_above : (kind : LineKind) → same_kind kind Row ≡ false → line_with kind lines ≡ line_with kind (numbered 1 above)
  unfolding texts begin lines
  found_above kind apart =
      find-append (is_of_kind kind) (numbered 1 above) (numbered begin texts)
      ∙ (ap (option_or (line_with kind (numbered 1 above))) (rows_without F.states F.inputs F.outputs lawful.some_input lawful.state_names lawful.state_count kind apart F.rows begin lawful.rows)
      ∙ or_none (line_with kind (numbered 1 above)))

  reset_read : (n : ℕ) × (line_with Reset lines ≡ Some (line n (codes ".r" ∷ name_of F.states F.reset ∷ [])))
  unfolding above
  reset_read =
      let there = head_reset F.inputs F.outputs lawful.some_input lawful.inputs lawful.some_output lawful.outputs (length F.rows) (states_standing F) (name_of F.states F.reset) F.input_names F.output_names in
      (there.0, found_above Reset refl ∙ there.1)

  closed : closing_fault lines ≡ None
  closed =
      let some = lawful.some_row in
      let count = ready.rows in
      let test : eqb (length (row_lines lines)) 0 ≡ false = ne_eqb (length (row_lines lines)) 0 (λ e. absurd (omega arith)) in
      let there : among (name_of F.states F.reset) (state_names lines) ≡ true = ap (among (name_of F.states F.reset)) (sym states_read) ∙ contained_test F.states (name_of F.states F.reset) (Contains-get_or F.states F.reset [] lawful.reset) in
      ap (λ t. cond t (Some (record { line = 0; kind = NoRows })) (reset_unknown (state_names lines) (line_with Reset lines))) test
      ∙ (ap (reset_unknown (state_names lines)) reset_read.1
      ∙ ap (λ t. cond {A = Option KissFault} t None (Some (record { line = reset_read.0; kind = ResetUnknown }))) there)

  read_as : IsReadAs lines F
  unfolding above texts
  read_as = record {
    faultless = ready.faultless;
    closed = closed;
    whole = record {
      inputs = ready.inputs;
      outputs = ready.outputs;
      states = states_read;
      reset = slice_get-get_or F.states F.reset [] lawful.reset ∙ sym (ap (λ o. option_or (option_map (field_at 1) o) (option_map (field_at 1) (slice_get (row_lines lines) 0))) reset_read.1);
      rows = subst (λ ls. AllZip (IsRowOf F.states) ls F.rows) (sym rows_read) (rows_zip F.states F.inputs F.outputs lawful.some_input lawful.state_names lawful.state_count F.rows begin lawful.rows);
      input_names = sym (ap (option_map operands) (found_above InputNames refl) ∙ head_ilb F.inputs F.outputs lawful.some_input lawful.inputs lawful.some_output lawful.outputs (length F.rows) (states_standing F) (name_of F.states F.reset) F.input_names F.output_names);
      output_names = sym (ap (option_map operands) (found_above OutputNames refl) ∙ head_ob F.inputs F.outputs lawful.some_input lawful.inputs lawful.some_output lawful.outputs (length F.rows) (states_standing F) (name_of F.states F.reset) F.input_names F.output_names);
    };
  }

  -- the text says the record
  pub says_again : Kiss (kiss_text F) F
  says_again = subst (λ ls. IsReadAs ls F) (sym read_again) read_as
