-- Rows of a state that are filled up with rows for what they leave open.
use Rattle.std.proofs.Common.{◌≡◌, ℕ, ◌+◌, ◌-◌, ◌%◌, ◌^◌, ◌<◌, ◌↔◌, ◌⊎◌, min, Bool, true, false, List, [], ◌∷◌, ◌++◌, length, get_or, All, Contains, Option, Some, None, IfSome, IsNone, IsSome, inl, inr, sym, take, ◌∙◌, subst, refl, arith, ap, bit_and}
use Rattle.std.proofs.lemmas.Bool.{cases_Bool, cases_lt, false≢true}
use Rattle.std.proofs.lemmas.List.{append-nil, take_more}
use Rattle.std.proofs.lemmas.List.Elements.{All-append, All-contains, All-push, All-weaker, Contains-append_cases, Contains-append_left, Contains-append_right, Contains-get_or}
use Rattle.std.proofs.lemmas.Nat.Bits.{bit_at_and, bit_at_ones_above, bit_at_xor, bit_at-lt}
use Rattle.std.specs.Int.{bit_at}
use Rattle.std.specs.Int.RustNames.{bit_xor}
use Rattle.list_facts.specs.Laws.Members.{Contains-here, Contains-none, Contains-one}
use Rattle.cubes.specs.declared.cube.Cube.{Cube}
use Rattle.cubes.specs.Cube.{HoldsNumber, IsHalf, Meets}
use Rattle.cubes.specs.Symbol.{bit, symbol_of}
use Rattle.cubes.specs.Laws.Bits.{bit-zero, bit_from_one, one_from_bit}
use Rattle.cubes.specs.Laws.Ends.{least_held}
use Rattle.cubes.specs.Laws.Numbers.{length-symbol_of}
use Rattle.cubes.specs.Laws.Parts.{half_from_whole, whole_from_half}
use Rattle.kiss_file.specs.declared.file.KissFile.{KissFile}
use Rattle.kiss_file.specs.declared.file.KissRow.{KissRow}
use Rattle.kiss_file.specs.Machine.{Conflicting, IsRowAt, given_bit}
use Rattle.kiss_file.specs.Laws.Machine.{next_not_said, next_said, output_bit_not_said, output_bit_said}
use Rattle.machine_table.specs.declared.open_part.Missing.{Missing}
use Rattle.machine_table.specs.declared.open_part.Missing.TheVariants.{Next, Output}
use Rattle.machine_table.specs.Pieces.{IsRightRow, IsSaidBy}
use Rattle.state_pairs.specs.RowLabels.{IsOfState}
use Rattle.dependence.specs.FilledRows.{IsSpecifiedState}
use Rattle.dependence.specs.Inner.FilledRows.{AreNear, AreRowsOf, AreThoseMet, Fills, FillsPart, IsFilling, SayNothing, alone_of}
use Rattle.machine_table.specs.OpenEntries.{Says, place_of}
use Rattle.machine_table.specs.Table.{IsTable}
use Rattle.state_pairs.specs.Laws.Asking.{lawful_row, number_of_row}
use Rattle.machine_table.specs.Laws.Parts.{one_part}
use Rattle.state_rows.specs.Laws.Outputs.{gives_where_cares, given_in_all, value_of_given}
use Rattle.cubes.specs.Laws.SharedCubes.{meets_from_held}
use Rattle.state_pairs.specs.Laws.Sought.{at_from_held, held_from_at, row_from_at}

-- ---- a row without the parts that another says
alone_names : (first other : Option ℕ) (t : ℕ) → alone_of first other ≡ Some t → first ≡ Some t
alone_names first None t is = is
alone_names first (Some u) t is = absurd (cc)

alone_some : (first other : Option ℕ) → IsSome (alone_of first other) → IsSome first × ¬ IsSome other
alone_some first None some = (some, λ other. false≢true other)
alone_some first (Some u) some = absurd (false≢true some)

some_alone : (first other : Option ℕ) → IsSome first → ¬ IsSome other → IsSome (alone_of first other)
some_alone first None some none = some
some_alone first (Some u) some none = absurd (none refl)

left_digit : (a b : ℕ) → a < 2 → b < 2 → min a ((a + b) % 2) ≡ 1 → (a ≡ 1) × (b ≡ 0)
left_digit a b la lb one = grind arith

digit_left : (a b : ℕ) → a < 2 → b < 2 → a ≡ 1 → (b ≡ 1 → ⊥) → min a ((a + b) % 2) ≡ 1
digit_left a b la lb one none = let zero_there : b ≡ 0 = omega (arith, none) in grind arith

module _ (a b k : ℕ) where
  digit_of : bit_at (bit_and a (bit_xor a b)) k ≡ min (bit_at a k) ((bit_at a k + bit_at b k) % 2)
  digit_of = bit_at_and a (bit_xor a b) k ∙ ap (λ n. min (bit_at a k) n) (bit_at_xor a b k)

  left_bit : bit (bit_and a (bit_xor a b)) k ≡ true → (bit a k ≡ true) × ¬ (bit b k ≡ true)
  left_bit is =
      let digits = left_digit (bit_at a k) (bit_at b k) (bit_at-lt a k) (bit_at-lt b k) (sym digit_of ∙ one_from_bit (bit_and a (bit_xor a b)) k is) in
      (bit_from_one a k digits.0, λ other. absurd (omega (arith, digits.1, one_from_bit b k other)))

  bit_left : bit a k ≡ true → ¬ (bit b k ≡ true) → bit (bit_and a (bit_xor a b)) k ≡ true
  bit_left is none =
      bit_from_one (bit_and a (bit_xor a b)) k
      (digit_of ∙ digit_left (bit_at a k) (bit_at b k) (bit_at-lt a k) (bit_at-lt b k) (one_from_bit a k is) (λ one. none (bit_from_one b k one)))

module _ (added row result : KissRow) (next_is : result.to ≡ alone_of added.to row.to) (care_is : result.care ≡ bit_and added.care (bit_xor added.care row.care)) where
  pub names_alone : (t : ℕ) → result.to ≡ Some t → added.to ≡ Some t
  names_alone t is = alone_names added.to row.to t (sym next_is ∙ is)

  pub says_alone : (part : Missing) → Says part result ↔ (Says part added × ¬ Says part row)
  says_alone Next = (
    λ says. alone_some added.to row.to (subst (λ (o : Option ℕ). IsSome o) next_is says),
    λ both. subst (λ (o : Option ℕ). IsSome o) (sym next_is) (some_alone added.to row.to both.0 both.1),
  )
  says_alone (Output b) = (
    λ gives.
        let left = left_bit added.care row.care b (subst (λ (n : ℕ). bit n b ≡ true) care_is ((gives_where_cares result b).0 gives)) in
        ((gives_where_cares added b).1 left.0, λ other. left.1 ((gives_where_cares row b).0 other)),
    λ both.
        (gives_where_cares result b).1
        (subst (λ (n : ℕ). bit n b ≡ true) (sym care_is)
        (bit_left added.care row.care b ((gives_where_cares added b).0 both.0) (λ other. both.1 ((gives_where_cares row b).1 other)))),
  )

-- ---- lists with one row more
among_cases : (rows : List KissRow) (row : KissRow) (P : KissRow → Type 0) → ((r : KissRow) → Contains rows r → P r) → P row → (r : KissRow) → Contains (rows ++ row ∷ []) r → P r
among_cases rows row P before here r among =
    elim (Contains-append_cases rows (row ∷ []) r among) [
      | inl earlier ↦ before r earlier
      | inr last ↦ subst P (Contains-one row r last) here
    ]

pub next_row : (rows : List KissRow) (k : ℕ) (row : KissRow) → k < length rows → row ≡ get_or rows k row → take k rows ++ row ∷ [] ≡ take (k + 1) rows
next_row rows k row within is = sym (take_more rows k row within ∙ ap (λ (r : KissRow). take k rows ++ r ∷ []) (sym is))

pub among_more : (rows : List KissRow) (k : ℕ) (row : KissRow) (P : KissRow → Type 0) → k < length rows → row ≡ get_or rows k row
    → ((r : KissRow) → Contains (take k rows) r → P r) → P row → (r : KissRow) → Contains (take (k + 1) rows) r → P r
among_more rows k row P within is before here r among = among_cases (take k rows) row P before here r (subst (λ (list : List KissRow). Contains list r) (sym (next_row rows k row within is)) among)

-- ---- the row that fills up a cube
pub filling_alone : (s : ℕ) (cube : Cube) (outputs : ℕ) (added : KissRow) → added.cube ≡ cube → added.from ≡ s → added.to ≡ Some s → added.care ≡ 2 ^ outputs - 1 → added.value ≡ 0
    → IsFilling [] s cube outputs added
filling_alone s cube outputs added is_cube from names cares value = record {
  same_cube = is_cube;
  from = from;
  next_state = λ t is. let both : Some t ≡ Some s = sym is ∙ names in cc;
  value = value;
  counted = counted;
  nothing_else = λ part says row among. absurd (Contains-none row among);
  says = says;
}
  where
    counted : (part : Missing) → Says part added → place_of part < outputs + 1
    counted Next is = omega arith
    counted (Output b) is =
        let one : bit_at (2 ^ outputs - 1) b ≡ 1 = ap (λ (n : ℕ). bit_at n b) (sym cares) ∙ one_from_bit added.care b ((gives_where_cares added b).0 is) in
        elim (cases_lt b outputs) [
          | inl below ↦ omega (arith, below)
          | inr above ↦ absurd (omega (arith, one, bit_at_ones_above outputs b above))
        ]

    says : (part : Missing) → place_of part < outputs + 1 → SayNothing [] cube part → Says part added
    says Next counted silent = subst (λ (o : Option ℕ). IsSome o) (sym names) refl
    says (Output b) counted silent = given_in_all added outputs b cares (omega arith)

module _ (rows : List KissRow) (row : KissRow) (s : ℕ) (cube : Cube) (outputs : ℕ) (added : KissRow) (known : IsFilling rows s cube outputs added) where
  fewer : (part : Missing) → SayNothing (rows ++ row ∷ []) cube part → SayNothing rows cube part
  fewer part silent r among = silent r (Contains-append_left rows (row ∷ []) r among)

  -- a row that shares no symbol with the cube says nothing there
  pub filling_apart : ¬ Meets cube row.cube → IsFilling (rows ++ row ∷ []) s cube outputs added
  filling_apart apart = record {
    same_cube = known.same_cube;
    from = known.from;
    next_state = known.next_state;
    value = known.value;
    counted = known.counted;
    nothing_else = λ part says. among_cases rows row (λ r. Meets cube r.cube → ¬ Says part r) (known.nothing_else part says) (λ meets _. apart meets);
    says = λ part counted silent. known.says part counted (fewer part silent);
  }

  -- what a row says that shares a symbol with it is left to that row
  pub filling_without : Meets cube row.cube → (result : KissRow) → result.cube ≡ added.cube → result.from ≡ added.from → result.value ≡ added.value
      → ((t : ℕ) → result.to ≡ Some t → added.to ≡ Some t) → ((part : Missing) → Says part result ↔ (Says part added × ¬ Says part row)) → IsFilling (rows ++ row ∷ []) s cube outputs result
  filling_without meets result cube_is from_is value_is names says_is = record {
    same_cube = cube_is ∙ known.same_cube;
    from = from_is ∙ known.from;
    next_state = λ t is. known.next_state t (names t is);
    value = value_is ∙ known.value;
    counted = λ part says. known.counted part ((says_is part).0 says).0;
    nothing_else = λ part says. among_cases rows row (λ r. Meets cube r.cube → ¬ Says part r) (known.nothing_else part ((says_is part).0 says).0) (λ _. ((says_is part).0 says).1);
    says = λ part counted silent. (says_is part).1
        (known.says part counted (fewer part silent), silent row (Contains-append_right rows (row ∷ []) row (Contains-here row [])) meets);
  }

-- ---- rows of a state
module _ (F : KissFile) (table : IsTable F) (no_conflict : Conflicting F → ⊥) (s : ℕ) where
  pub own_is_right : (row : KissRow) → IsOfState F s row → IsRightRow F s row
  own_is_right row of_state = record {
    lawful = lawful_row F table of_state.0.0 row (number_of_row F row of_state.0);
    state = of_state.1;
    next_state = λ x t within held says. next_said F s (symbol_of F.inputs x) no_conflict row t (at_from_held F table s x row of_state held) says;
    output = λ x b value within held gives. output_bit_said F s (symbol_of F.inputs x) no_conflict row b value (at_from_held F table s x row of_state held) gives;
  }

  -- where nothing is open, they say each part at each symbol
  pub own_say : IsSpecifiedState F s → (rows : List KissRow) → AreRowsOf F s rows → (x : ℕ) (part : Missing) → place_of part < F.outputs + 1 → IsSaidBy rows x part
  own_say specified rows known x part counted = says part counted where
    at_row : (part : Missing) (row : KissRow) → IsRowAt F s (symbol_of F.inputs x) row → Says part row → IsSaidBy rows x part
    at_row part row at told = (row, known.own row (row_from_at F table s x row at), held_from_at F table s x row at, told)

    says : (part : Missing) → place_of part < F.outputs + 1 → IsSaidBy rows x part
    says Next counted = let there = (specified (symbol_of F.inputs x) (length-symbol_of F.inputs x)).next in at_row Next there.0 there.1 there.2
    says (Output b) counted =
        let there = (specified (symbol_of F.inputs x) (length-symbol_of F.inputs x)).outputs b (omega arith) in at_row (Output b) there.0 there.1 there.2

  module _ (rows : List KissRow) (cube : Cube) (near : AreNear F s cube rows) (width : cube.width ≡ F.inputs) (state : s < length F.states) (added : KissRow) (filling : IsFilling rows s cube F.outputs added) where
    -- no row of the state says there what the added row says
    silent_there : (x : ℕ) (part : Missing) → HoldsNumber added.cube x → Says part added → (row : KissRow) → IsRowAt F s (symbol_of F.inputs x) row → ¬ Says part row
    silent_there x part held says row at =
        let in_cube : HoldsNumber cube x = subst (λ (c : Cube). HoldsNumber c x) filling.same_cube held in
        let of_state = row_from_at F table s x row at in
        let lawful = lawful_row F table of_state.0.0 row (number_of_row F row of_state.0) in
        let in_row : HoldsNumber row.cube x = held_from_at F table s x row at in
        filling.nothing_else part says row (near.own row x of_state in_cube in_row) (meets_from_held cube row.cube x (width ∙ sym lawful.width) in_cube in_row)

    is_none : {X : Type 0} (o : Option X) → ¬ IsSome o → IsNone o
    is_none None none = refl
    is_none (Some v) none = absurd (none refl)

    added_is_right : IsRightRow F s added
    added_is_right = record {
      lawful = record {
        width = ap (λ (c : Cube). c.width) filling.same_cube ∙ width;
        from = subst (λ (t : ℕ). t < length F.states) (sym filling.from) state;
        to = to_within added.to filling.next_state;
        care = λ b cares. omega (arith, filling.counted (Output b) ((gives_where_cares added b).1 cares));
        value = λ b one. absurd (false≢true (sym (bit-zero b) ∙ subst (λ (n : ℕ). bit n b ≡ true) filling.value one));
      };
      state = filling.from;
      next_state = λ x t within held is.
          next_not_said F s (symbol_of F.inputs x) (λ row at. is_none row.to (silent_there x Next held (subst (λ (o : Option ℕ). IsSome o) (sym is) refl) row at))
          ∙ sym (filling.next_state t is);
      output = λ x b value within held gives.
          output_bit_not_said F s (symbol_of F.inputs x) b
          (λ row at. is_none (given_bit b row) (silent_there x (Output b) held (subst (λ (o : Option Bool). IsSome o) (sym gives) refl) row at))
          ∙ sym (bit-zero b) ∙ sym (ap (λ (n : ℕ). bit n b) filling.value) ∙ value_of_given added b value gives;
    }
      where
        to_within : (o : Option ℕ) → ((t : ℕ) → o ≡ Some t → t ≡ s) → IfSome o (λ t. t < length F.states)
        to_within None each = tt
        to_within (Some t) each = subst (λ (u : ℕ). u < length F.states) (sym (each t refl)) state

    -- the state leaves it open
    left_open : (part : Missing) → place_of part < F.outputs + 1 → Says part added → ¬ IsSpecifiedState F s
    left_open Next counted says specified =
        let there = (specified (symbol_of F.inputs added.cube.value) (length-symbol_of F.inputs added.cube.value)).next in
        silent_there added.cube.value Next (least_held added.cube) says there.0 there.1 there.2
    left_open (Output b) counted says specified =
        let there = (specified (symbol_of F.inputs added.cube.value) (length-symbol_of F.inputs added.cube.value)).outputs b (omega (arith, counted)) in
        silent_there added.cube.value (Output b) (least_held added.cube) says there.0 there.1 there.2

    -- with it, the part is said at each symbol of the cube
    pub filled : (part : Missing) → place_of part < F.outputs + 1 → SayNothing rows cube part → (all old : List KissRow) → All (IsRightRow F s) old → Fills F s part cube all old (old ++ added ∷ [])
    filled part counted silent all old right = record {
      right = All-push (IsRightRow F s) old added right added_is_right;
      kept = λ row among. Contains-append_left old (added ∷ []) row among;
      each = λ x held. inr (
        added,
        Contains-append_right old (added ∷ []) added (Contains-here added []),
        subst (λ (c : Cube). HoldsNumber c x) (sym filling.same_cube) held,
        filling.says part counted silent,
      );
      own = λ specified. absurd (left_open part counted (filling.says part counted silent) specified);
    }

-- a cube whose symbols are said
pub filled_before : (F : KissFile) (s : ℕ) (part : Missing) (cube : Cube) (rows met old : List KissRow) → AreThoseMet rows cube met → All (IsRightRow F s) old
    → ((x : ℕ) → HoldsNumber cube x → IsSaidBy met x part) → Fills F s part cube rows old old
filled_before F s part cube rows met old those right each = record {
  right = right;
  kept = λ row among. among;
  each = λ x held. let there = each x held in inl (there.0, those.among there.0 there.1, there.2, there.3);
  own = λ specified. refl;
}

-- ---- the rows that a cube meets
pub met_none : (cube : Cube) → AreThoseMet [] cube []
met_none cube = record { among = λ row among. among; each = λ row among meets. among }

module _ (front : List KissRow) (cube : Cube) (met : List KissRow) (row : KissRow) (before : AreThoseMet front cube met) where
  pub met_more : AreThoseMet (front ++ row ∷ []) cube (met ++ row ∷ [])
  met_more = record {
    among = among_cases met row (Contains (front ++ row ∷ [])) (λ r among. Contains-append_left front (row ∷ []) r (before.among r among)) (Contains-append_right front (row ∷ []) row (Contains-here row []));
    each = among_cases front row (λ r. Meets cube r.cube → Contains (met ++ row ∷ []) r) (λ r among meets. Contains-append_left met (row ∷ []) r (before.each r among meets)) (λ meets. Contains-append_right met (row ∷ []) row (Contains-here row []));
  }

  pub met_skip : ¬ Meets cube row.cube → AreThoseMet (front ++ row ∷ []) cube met
  met_skip apart = record {
    among = λ r among. Contains-append_left front (row ∷ []) r (before.among r among);
    each = among_cases front row (λ r. Meets cube r.cube → Contains met r) before.each (λ meets. absurd (apart meets));
  }

-- what holds of rows holds of those that the cube meets
pub all_met : (P : KissRow → Type 0) (rows : List KissRow) (cube : Cube) (met : List KissRow) → AreThoseMet rows cube met → All P rows → All P met
all_met P rows cube met those all k d within = All-contains P rows (get_or met k d) all (those.among (get_or met k d) (Contains-get_or met k d within))

module _ (F : KissFile) (s : ℕ) (cube : Cube) (rows met : List KissRow) (near : AreNear F s cube rows) (those : AreThoseMet rows cube met) where
  pub widths_met : All (λ row. row.cube.width ≡ cube.width) met
  widths_met = all_met (λ row. row.cube.width ≡ cube.width) rows cube met those near.widths

  own_met : (row : KissRow) (x : ℕ) → IsOfState F s row → HoldsNumber cube x → HoldsNumber row.cube x → Contains met row
  own_met row x of_state held in_row =
      let among : Contains rows row = near.own row x of_state held in_row in
      those.each row among (meets_from_held cube row.cube x (sym (All-contains (λ (r : KissRow). r.cube.width ≡ cube.width) rows row near.widths among)) held in_row)

  pub near_met : AreNear F s cube met
  near_met = record { widths = widths_met; own = own_met }

  pub near_half : (half : Cube) (place : ℕ) (b : Bool) → IsHalf cube half place b → AreNear F s half met
  near_half half place b is = record {
    widths = All-weaker (λ row. row.cube.width ≡ cube.width) (λ row. row.cube.width ≡ half.width) (λ row same. same ∙ sym is.width) met widths_met;
    own = λ row x of_state held in_row. own_met row x of_state (whole_from_half cube half place b is x held).0 in_row;
  }

  -- a cube whose halves were filled up
  pub filled_by_halves : (part : Missing) (low high : Cube) (place : ℕ) → IsHalf cube low place false → IsHalf cube high place true
      → (old some more : List KissRow) → Fills F s part low met old some → Fills F s part high met some more → Fills F s part cube rows old more
  filled_by_halves part low high place is_low is_high old some more first second = record {
    right = second.right;
    kept = λ row among. second.kept row (first.kept row among);
    each = λ x held.
        elim (cases_Bool (bit x place)) [
          | inl one ↦ widened x (second.each x (half_from_whole cube high place true is_high x (held, one)))
          | inr none ↦ elim (first.each x (half_from_whole cube low place false is_low x (held, none))) [
            | inl in_met ↦ inl (from_met x in_met)
            | inr there ↦ inr (there.0, second.kept there.0 there.1, there.2, there.3)
          ]
        ];
    own = λ specified. second.own specified ∙ first.own specified;
  } where
    from_met : (x : ℕ) → IsSaidBy met x part → IsSaidBy rows x part
    from_met x there = (there.0, those.among there.0 there.1, there.2, there.3)

    widened : (x : ℕ) → IsSaidBy met x part ⊎ IsSaidBy more x part → IsSaidBy rows x part ⊎ IsSaidBy more x part
    widened x said = elim said [ inl in_met ↦ inl (from_met x in_met) | inr there ↦ inr there ]

-- ---- the rows of a state, filled up for one part
-- the cubes of such rows have a bit for each input
pub widths_of_rows : (F : KissFile) (s : ℕ) (rows : List KissRow) (width : ℕ) → width ≡ F.inputs → AreRowsOf F s rows → All (λ row. row.cube.width ≡ width) rows
widths_of_rows F s rows width same known = All-weaker (IsRightRow F s) (λ row. row.cube.width ≡ width) (λ row is. is.lawful.width ∙ sym same) rows known.right

pub near_whole : (F : KissFile) (s : ℕ) (cube : Cube) (rows : List KissRow) → cube.width ≡ F.inputs → AreRowsOf F s rows → AreNear F s cube rows
near_whole F s cube rows width known = record { widths = widths_of_rows F s rows cube.width width known; own = λ row x of_state held in_row. known.own row of_state }

pub part_filled : (F : KissFile) (s : ℕ) (part : Missing) (cube : Cube) (old added more : List KissRow) → ((x : ℕ) → HoldsNumber cube x) → AreRowsOf F s old → Fills F s part cube old [] added → more ≡ old ++ added → FillsPart F s part old more
part_filled F s part cube old added more all known fills is = record {
  rows = subst (AreRowsOf F s) (sym is) (record {
    own = λ row of_state. Contains-append_left old added row (known.own row of_state);
    right = All-append (IsRightRow F s) old added known.right fills.right;
  });
  kept = λ row among. subst (λ (list : List KissRow). Contains list row) (sym is) (Contains-append_left old added row among);
  each = λ x. subst (λ (list : List KissRow). IsSaidBy list x part) (sym is) (either x (fills.each x (all x)));
  own = λ specified. is ∙ ap (λ (list : List KissRow). old ++ list) (fills.own specified) ∙ append-nil old;
} where
  either : (x : ℕ) → IsSaidBy old x part ⊎ IsSaidBy added x part → IsSaidBy (old ++ added) x part
  either x said = elim said [
    | inl there ↦ (there.0, Contains-append_left old added there.0 there.1, there.2, there.3)
    | inr there ↦ (there.0, Contains-append_right old added there.0 there.1, there.2, there.3)
  ]

-- ---- part by part
module _ (F : KissFile) (s : ℕ) (old more : List KissRow) where
  pub first_part : FillsPart F s Next old more → (x : ℕ) (part : Missing) → place_of part < 0 + 1 → IsSaidBy more x part
  first_part fills x Next counted = fills.each x
  first_part fills x (Output b) counted = absurd (omega arith)

  pub next_part : (b : ℕ) → ((x : ℕ) (part : Missing) → place_of part < b + 1 → IsSaidBy old x part) → FillsPart F s (Output b) old more
      → (x : ℕ) (part : Missing) → place_of part < b + 1 + 1 → IsSaidBy more x part
  next_part b before fills x part counted =
      elim (cases_lt (place_of part) (b + 1)) [
        | inl below ↦ let there = before x part below in (there.0, fills.kept there.0 there.1, there.2, there.3)
        | inr above ↦ subst (IsSaidBy more x) (one_part (Output b) part (omega arith)) (fills.each x)
      ]
