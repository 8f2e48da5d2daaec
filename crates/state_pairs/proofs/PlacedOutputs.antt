-- The outputs of two states whose rows stand place by place, with the same cubes and the same outputs given.
use Rattle.std.proofs.Common.{◌≡◌, ◌≢◌, ℕ, zero, suc, ◌<◌, ◌≤◌, ◌^◌, ◌⊎◌, Bool, true, false, cond, List, length, get_or, Option, Some, None, IsNone, IfSome, inl, inr, sym, ◌∙◌, subst, refl, arith, ap}
use Rattle.std.proofs.lemmas.Bool.{cases_Bool, cases_eq, cases_lt, true≢false}
use Rattle.std.proofs.lemmas.List.Elements.{Contains-get_or}
use Rattle.std.proofs.lemmas.Nat.Bits.{same_from_bits}
use Rattle.cubes.specs.Cube.{HoldsNumber}
use Rattle.cubes.specs.Symbol.{bit, symbol_of}
use Rattle.cubes.specs.Laws.Bits.{same_digits}
use Rattle.cubes.specs.Laws.Ends.{least_held}
use Rattle.kiss_file.specs.declared.file.KissFile.{KissFile}
use Rattle.kiss_file.specs.declared.file.KissRow.{KissRow}
use Rattle.kiss_file.specs.LawfulFile.{IsLawfulRow}
use Rattle.kiss_file.specs.Machine.{Conflicting, IsRowAt, given_bit, output_bit}
use Rattle.kiss_file.specs.Laws.Machine.{output_bit_not_said, output_bit_said}
use Rattle.state_rows.specs.Columns.{IsAtPlace}
use Rattle.state_rows.specs.Least.{IsMetBy}
use Rattle.state_rows.specs.Laws.OneCube.{held_by_like}
use Rattle.state_rows.specs.Laws.Outputs.{gives_where_cares, given_value}
use Rattle.state_pairs.specs.AlignedRows.{HoldAllRows}
use Rattle.state_pairs.specs.RowLabels.{ApartBelow, IsOfState, MeetsApart}
use Rattle.state_pairs.specs.Pairs.{AgreeInBit, DifferInBit, IsFoundInBits}
use Rattle.state_pairs.specs.Table.{IsTable}
use Rattle.state_pairs.specs.Laws.Asking.{lawful_row}
use Rattle.state_pairs.specs.Laws.Labels.{label_or_open}
use Rattle.state_pairs.specs.Laws.Sought.{at_from_held, held_from_at, row_from_at, row_of}

-- at one of the lowest places the bits of two numbers differ, or at none
some_differ : (v w count : ℕ) → ((b : ℕ) × (b < count) × (bit v b ≡ bit w b → ⊥)) ⊎ ((b : ℕ) → b < count → bit v b ≡ bit w b)
some_differ v w zero = inr (λ b below. absurd (omega arith))
some_differ v w (suc count) =
    elim (some_differ v w count) [
      | inl found ↦ inl (found.0, omega (arith, found.1), found.2)
      | inr none ↦
          elim (one_or_two (bit v count) (bit w count)) [
            | inl same ↦
                inr (λ b below.
                elim (cases_lt b count) [
                  | inl lower ↦ none b lower
                  | inr here ↦ let at : count ≡ b = omega arith in subst (λ (k : ℕ). bit v k ≡ bit w k) at same
                ])
            | inr two ↦ inl (count, omega arith, two)
          ]
    ]
  where
    one_or_two : (a b : Bool) → (a ≡ b) ⊎ (a ≡ b → ⊥)
    one_or_two false false = inl refl
    one_or_two true true = inl refl
    one_or_two false true = inr (λ same. true≢false (sym same))
    one_or_two true false = inr true≢false

-- a label of rows that give the output
abbrev gives : ℕ → KissRow → Option ℕ
gives b row = cond (bit row.care b) (Some 0) None

cares_of_label : (b v : ℕ) (row : KissRow) → gives b row ≡ Some v → bit row.care b ≡ true
cares_of_label b v row is =
    elim (cases_Bool (bit row.care b)) [
      | inl cares ↦ cares
      | inr free ↦ let none : None ≡ Some v = rw free at is in absurd (cc)
    ]

free_of_label : (b : ℕ) (row : KissRow) → IsNone (gives b row) → bit row.care b ≡ false
free_of_label b row none =
    elim (cases_Bool (bit row.care b)) [
      | inl cares ↦ absurd (true≢false (rw cares at none))
      | inr free ↦ free
    ]

not_given : (b : ℕ) (row : KissRow) → bit row.care b ≡ false → IsNone (given_bit b row)
not_given b row free = rw free refl

given_there : (b : ℕ) (row : KissRow) → bit row.care b ≡ true → given_bit b row ≡ Some (bit row.value b)
given_there b row cares = given_value row b ((gives_where_cares row b).1 cares)

-- a lawful row has no value where it gives nothing
no_value : (inputs outputs states b : ℕ) (row : KissRow) → IsLawfulRow inputs outputs states row → bit row.care b ≡ false → bit row.value b ≡ false
no_value inputs outputs states b row lawful free =
    elim (cases_Bool (bit row.value b)) [
      | inl one ↦ absurd (true≢false (sym (lawful.value b one) ∙ free))
      | inr none ↦ none
    ]

module _ (F : KissFile) (table : IsTable F) (no_conflict : Conflicting F → ⊥) (s t : ℕ) (first second : List ℕ) (all : HoldAllRows F s t first second)
    (cares : (k : ℕ) (row other : KissRow) → IsAtPlace F.rows first k row → IsAtPlace F.rows second k other → row.care ≡ other.care) where
  -- the row at a place of either list
  first_at : (k : ℕ) → k < length first → (row : KissRow) × IsOfState F s row × IsAtPlace F.rows first k row
  first_at k below =
      let own = all.own_first (get_or first k 0) (Contains-get_or first k 0 below) in
      (own.0, row_of F s (get_or first k 0) own.0 own own.1, (below, own.1))

  second_at : (k : ℕ) → k < length second → (row : KissRow) × IsOfState F t row × IsAtPlace F.rows second k row
  second_at k below =
      let own = all.own_second (get_or second k 0) (Contains-get_or second k 0 below) in
      (own.0, row_of F t (get_or second k 0) own.0 own own.1, (below, own.1))

  lawful_at : (numbers : List ℕ) (k : ℕ) (row : KissRow) → IsAtPlace F.rows numbers k row → IsLawfulRow F.inputs F.outputs (length F.states) row
  lawful_at numbers k row at = lawful_row F table (get_or numbers k 0) row at.1

  -- ---- rows at one place
  module _ (k : ℕ) (row other : KissRow) (of_s : IsOfState F s row) (of_t : IsOfState F t other) (at : IsAtPlace F.rows first k row) (also : IsAtPlace F.rows second k other) (y : ℕ) (held : HoldsNumber row.cube y) where
    other_held : HoldsNumber other.cube y
    other_held = held_by_like row other y (all.cubes.cubes k row other at also) held

    -- an output that they give is the bit of their values
    first_bit : (b : ℕ) → bit row.care b ≡ true → output_bit F s (symbol_of F.inputs y) b ≡ bit row.value b
    first_bit b gives_it = output_bit_said F s (symbol_of F.inputs y) no_conflict row b (bit row.value b) (at_from_held F table s y row of_s held) (given_there b row gives_it)

    second_bit : (b : ℕ) → bit row.care b ≡ true → output_bit F t (symbol_of F.inputs y) b ≡ bit other.value b
    second_bit b gives_it =
        output_bit_said F t (symbol_of F.inputs y) no_conflict other b (bit other.value b) (at_from_held F table t y other of_t other_held)
        (given_there b other (ap (λ n. bit n b) (sym (cares k row other at also)) ∙ gives_it))

    pub agree_there : (b : ℕ) → bit row.care b ≡ true → row.value ≡ other.value → AgreeInBit b F s t y
    agree_there b gives_it same = first_bit b gives_it ∙ ap (λ n. bit n b) same ∙ sym (second_bit b gives_it)

    -- values that differ do so at an output
    pub differ_there : row.value ≢ other.value → (b : ℕ) × (b < F.outputs) × (AgreeInBit b F s t y → ⊥)
    differ_there apart =
        elim (some_differ row.value other.value F.outputs) [
          | inr none ↦ absurd (apart (same_from_bits row.value other.value (λ i. same_digits row.value other.value i i (everywhere none i))))
          | inl found ↦
              elim (cases_Bool (bit row.care found.0)) [
                | inl gives_it ↦ (found.0, found.1, λ agree. found.2 (sym (first_bit found.0 gives_it) ∙ agree ∙ second_bit found.0 gives_it))
                | inr free ↦ absurd (found.2 (first_free found.0 free ∙ sym (second_free found.0 free)))
              ]
        ]
      where
        first_free : (b : ℕ) → bit row.care b ≡ false → bit row.value b ≡ false
        first_free b free = no_value F.inputs F.outputs (length F.states) b row (lawful_at first k row at) free

        second_free : (b : ℕ) → bit row.care b ≡ false → bit other.value b ≡ false
        second_free b free =
            no_value F.inputs F.outputs (length F.states) b other (lawful_at second k other also) (ap (λ n. bit n b) (sym (cares k row other at also)) ∙ free)

        everywhere : ((b : ℕ) → b < F.outputs → bit row.value b ≡ bit other.value b) → (i : ℕ) → bit row.value i ≡ bit other.value i
        everywhere none i =
            elim (cases_lt i F.outputs) [
              | inl under ↦ none i under
              | inr above ↦
                  elim (cases_Bool (bit row.care i)) [
                    | inl one ↦ let under : i < F.outputs = (lawful_at first k row at).care i one in absurd (omega arith)
                    | inr free ↦ first_free i free ∙ sym (second_free i free)
                  ]
            ]

  -- ---- all rows that hold a symbol
  -- what the first state leaves open the second does
  open_too : (y b : ℕ) → ((row : KissRow) → IsRowAt F s (symbol_of F.inputs y) row → bit row.care b ≡ false) → (other : KissRow) → IsRowAt F t (symbol_of F.inputs y) other → bit other.care b ≡ false
  open_too y b none other there =
      let place = all.each_second other (row_from_at F table t y other there) in
      let k = place.0 in
      let own = first_at k (omega (arith, place.1.0, all.cubes.count)) in
      let cubes = all.cubes.cubes k own.0 other own.2 place.1 in
      let held = held_by_like other own.0 y (record { care = sym cubes.care; value = sym cubes.value }) (held_from_at F table t y other there) in
      ap (λ n. bit n b) (sym (cares k own.0 other own.2 place.1)) ∙ none own.0 (at_from_held F table s y own.0 own.1 held)

  -- where no two values differ, each output agrees
  pub agree_all : (y b : ℕ) → ((k : ℕ) (row other : KissRow) → IsAtPlace F.rows first k row → IsAtPlace F.rows second k other → HoldsNumber row.cube y → row.value ≡ other.value)
      → AgreeInBit b F s t y
  agree_all y b same =
      elim (label_or_open F table (gives b) s y) [
        | inl (v, (row, there, is)) ↦
            let of_s = row_from_at F table s y row there in
            let place = all.each_first row of_s in
            let k = place.0 in
            let own = second_at k (omega (arith, place.1.0, all.cubes.count)) in
            let held = held_from_at F table s y row there in
            agree_there k row own.0 of_s own.1 place.1 own.2 y held b (cares_of_label b v row is) (same k row own.0 place.1 own.2 held)
        | inr silent ↦
            let none : (row : KissRow) → IsRowAt F s (symbol_of F.inputs y) row → bit row.care b ≡ false = λ row there. free_of_label b row (silent row there) in
            output_bit_not_said F s (symbol_of F.inputs y) b (λ row there. not_given b row (none row there))
            ∙ sym (output_bit_not_said F t (symbol_of F.inputs y) b (λ other there. not_given b other (open_too y b none other there)))
      ]

  -- ---- the search for values that differ
  abbrev said_value : KissRow → Option ℕ
  said_value row = Some row.value

  found_differs : (found : Option ℕ) → IfSome found (ApartBelow said_value F.rows first second (length first)) → IfSome found (λ x. x < 2 ^ F.inputs)
      → IfSome found (DifferInBit F s t)
  found_differs None some within = tt
  found_differs (Some x) (k, row, other, below, at_row, at_other, apart) within =
      let own = first_at k below in
      let also : k < length second = omega (arith, below, all.cubes.count) in
      let with_it = second_at k also in
      let is_row : own.0 ≡ row = (let both : Some own.0 ≡ Some row = sym own.2.1 ∙ at_row in cc) in
      let is_other : with_it.0 ≡ other = (let both : Some with_it.0 ≡ Some other = sym with_it.2.1 ∙ at_other in cc) in
      let differ = apart.differ in
      let values : row.value ≢ other.value = λ same. differ.4 (let v : row.value ≡ differ.0 = (let is : Some row.value ≡ Some differ.0 = differ.2 in cc) in let w : other.value ≡ differ.1 = (let is : Some other.value ≡ Some differ.1 = differ.3 in cc) in sym v ∙ same ∙ w) in
      (within, differ_there k row other (subst (IsOfState F s) is_row own.1) (subst (IsOfState F t) is_other with_it.1) (below, at_row) (also, at_other) x apart.first values)

  met_by_found : (least : Bool) (found : Option ℕ) → MeetsApart said_value F.rows first second (length first) found least
      → (b y : ℕ) → (AgreeInBit b F s t y → ⊥) → IsMetBy found least y
  met_by_found least found met b y differ = decided found met where
    values_same : (o : Option ℕ) → (IsMetBy o least y → ⊥) → MeetsApart said_value F.rows first second (length first) o least
        → (k : ℕ) (row other : KissRow) → IsAtPlace F.rows first k row → IsAtPlace F.rows second k other → HoldsNumber row.cube y → row.value ≡ other.value
    values_same o not_met meets k row other at also held =
        elim (cases_eq row.value other.value) [
          | inl same ↦ same
          | inr two ↦
              absurd (not_met (meets k 0 0 row other at.0 at.1 also.1 y
              (record { first = held; second = held_by_like row other y (all.cubes.cubes k row other at also) held; differ = (row.value, other.value, refl, refl, two) })))
        ]

    decided : (o : Option ℕ) → MeetsApart said_value F.rows first second (length first) o least → IsMetBy o least y
    decided None meets = differ (agree_all y b (values_same None (λ no. no) meets))
    decided (Some x) meets =
        elim (cases_lt y x) [
          | inr no_less ↦ λ asked. no_less
          | inl less ↦ λ asked. absurd (differ (agree_all y b (values_same (Some x) (λ later. let le : x ≤ y = later asked in omega (arith, le, less)) meets)))
        ]

  pub first_in_bits : (least : Bool) (found : Option ℕ) → IfSome found (ApartBelow said_value F.rows first second (length first)) → IfSome found (λ x. x < 2 ^ F.inputs)
      → MeetsApart said_value F.rows first second (length first) found least → IsFoundInBits F s t F.outputs least found
  first_in_bits least found some within met = record {
    some = found_differs found some within;
    met = λ b y below inside differ. met_by_found least found met b y differ;
  }

-- a search for other outputs given found none
pub cares_of_none : (F : KissFile) (s t : ℕ) (first second : List ℕ) → HoldAllRows F s t first second → (found : Option ℕ) → IsNone found
    → MeetsApart (λ (row : KissRow). Some row.care) F.rows first second (length first) found false
    → (k : ℕ) (row other : KissRow) → IsAtPlace F.rows first k row → IsAtPlace F.rows second k other → row.care ≡ other.care
cares_of_none F s t first second all (Some x) none meets k row other at also = absurd (true≢false none)
cares_of_none F s t first second all None none meets k row other at also =
    elim (cases_eq row.care other.care) [
      | inl same ↦ same
      | inr two ↦
          let y = row.cube.value in
          let held : HoldsNumber row.cube y = least_held row.cube in
          absurd (meets k 0 0 row other at.0 at.1 also.1 y
          (record { first = held; second = held_by_like row other y (all.cubes.cubes k row other at also) held; differ = (row.care, other.care, refl, refl, two) }))
    ]
