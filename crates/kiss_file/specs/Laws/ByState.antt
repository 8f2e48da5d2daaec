-- Rows that come state by state, of a file with numbered states.
use Rattle.std.proofs.Common.{◌≡◌, ℕ, ◌<◌, ◌≤◌, Option, None, IfSome, List, [], ◌++◌, All, AllPairs, Contains, length, get_or, map, take, unwrap_or, sym, ap, ◌∙◌, subst, inl, inr, arith}
use Rattle.std.specs.List.{filter_map}
use Rattle.std.proofs.lemmas.Bool.{cases_lt}
use Rattle.std.proofs.lemmas.List.{get_or-map, get_or-take, get_or_append_left, length-append, length-map, length-take-le}
use Rattle.std.proofs.lemmas.List.Elements.{All-append, All-get_or, All-map, All-weaker}
use Rattle.list_facts.specs.Laws.Everywhere.{all_given}
use Rattle.kiss_file.specs.declared.file.KissFile.{KissFile}
use Rattle.kiss_file.specs.declared.file.KissRow.{KissRow}
use Rattle.kiss_file.specs.LawfulFile.{AreGiven, AreNumbered, IsLawful, IsLawfulRow, appearances, given_names}
use Rattle.kiss_file.specs.Names.{AreDistinct, IsPlainName}
use Rattle.kiss_file.specs.NumberedNames.{numbered_names}
use Rattle.kiss_file.specs.Laws.NumberedNames.{length-numbered_names, numbered_names-distinct, numbered_names-plain}

-- a file with n numbered states and no other names, whose rows come state by state; it may have too many rows
pub record IsByState (F : KissFile) (n : ℕ) : Type 0 where
  pub some_input : 1 ≤ F.inputs
  pub inputs : F.inputs ≤ 32
  pub some_output : 1 ≤ F.outputs
  pub outputs : F.outputs ≤ 64
  pub states : F.states ≡ numbered_names n
  pub few : n ≤ 256
  pub reset : F.reset < length F.states
  pub rows : All (IsLawfulRow F.inputs F.outputs (length F.states)) F.rows
  pub each : (s : ℕ) → s < n → (row : KissRow) × Contains F.rows row × (row.from ≡ s)
  pub in_order : AllPairs (λ row other. row.from ≤ other.from) F.rows
  pub input_names : F.input_names ≡ None
  pub output_names : F.output_names ≡ None

module _ (F : KissFile) (n : ℕ) (is : IsByState F n) where
  state_count : length F.states ≡ n
  state_count = ap length is.states ∙ length-numbered_names n

  abbrev froms : List ℕ
  froms = map (λ (row : KissRow). row.from) F.rows

  abbrev nexts : List ℕ
  nexts = filter_map (λ (row : KissRow). row.to) F.rows

  froms_length : length froms ≡ length F.rows
  froms_length = length-map F.rows (λ (row : KissRow). row.from)

  from_at : (place d : ℕ) (e : KissRow) → place < length F.rows → get_or (appearances F) place d ≡ (get_or F.rows place e).from
  from_at place d e inside =
      get_or_append_left froms nexts d place (omega (arith, inside, froms_length)) ∙ get_or-map (λ (row : KissRow). row.from) F.rows place e d inside

  rows_inside : length F.rows ≤ length (appearances F)
  rows_inside = omega (arith, froms_length, length-append froms nexts)

  -- only states appear
  appear_low : All (λ t. t < length F.states) (appearances F)
  appear_low =
      let Low : ℕ → Type 0 = λ t. t < length F.states in
      let Row : KissRow → Type 0 = IsLawfulRow F.inputs F.outputs (length F.states) in
      All-append Low froms nexts
      (All-map Low (λ (row : KissRow). row.from) F.rows (All-weaker Row (λ (row : KissRow). Low row.from) (λ row it. it.from) F.rows is.rows))
      (all_given Low (λ (row : KissRow). row.to) F.rows (All-weaker Row (λ (row : KissRow). IfSome row.to Low) (λ row it. it.to) F.rows is.rows))

  -- a state whose row comes before a place has appeared before it
  appeared : (s place : ℕ) → (has : (row : KissRow) × Contains F.rows row × (row.from ≡ s)) → has.1.0 < place → place ≤ length (appearances F) → Contains (take place (appearances F)) s
  appeared s place (row, (k, inside, there), from) before within = (
    k,
    omega (arith, before, length-take-le place (appearances F) within),
    get_or-take place (appearances F) k s before ∙ from_at k s row inside ∙ ap (λ (r : KissRow). r.from) there ∙ from,
  )

  in_order : (place s : ℕ) → place < length (appearances F) → s < get_or (appearances F) place 0 → Contains (take place (appearances F)) s
  in_order place s inside before =
      let low : get_or (appearances F) place 0 < length F.states = All-get_or (λ t. t < length F.states) (appearances F) place 0 inside appear_low in
      let has = is.each s (omega (arith, before, low, state_count)) in
      elim (cases_lt place (length F.rows)) [
        | inl row ↦
            let e = has.0 in
            let here : get_or (appearances F) place 0 ≡ (get_or F.rows place e).from = from_at place 0 e row in
            elim (cases_lt has.1.0 place) [
              | inl left ↦ appeared s place has left (omega (arith, inside))
              | inr right ↦
                  let level : (get_or F.rows has.1.0 e).from ≡ s = ap (λ (r : KissRow). r.from) has.1.2 ∙ has.2 in
                  elim (cases_lt place has.1.0) [
                    | inl earlier ↦ absurd (omega (arith, before, is.in_order place has.1.0 e earlier has.1.1, here, level))
                    | inr same ↦
                        let at : place ≡ has.1.0 = omega (arith, right, same) in
                        absurd (omega (arith, before, here, level, ap (λ (k : ℕ). (get_or F.rows k e).from) at))
                  ]
            ]
        | inr past ↦ appeared s place has (omega (arith, past, has.1.1)) (omega (arith, inside))
      ]

  pub numbered_by_state : AreNumbered F
  numbered_by_state = record {
    each = λ s within.
        let has = is.each s (omega (arith, within, state_count)) in
        let k = has.1.0 in
        (k, omega (arith, rows_inside, has.1.1), from_at k s has.0 has.1.1 ∙ ap (λ (r : KissRow). r.from) has.1.2 ∙ has.2);
    in_order = in_order;
  }

  some_rows : 1 ≤ length F.rows
  some_rows = let has = is.each F.reset (omega (arith, is.reset, state_count)) in omega (arith, has.1.1)

  none_given : given_names F ≡ []
  none_given =
      ap (λ (names : Option (List (List ℕ))). unwrap_or names [] ++ unwrap_or F.output_names []) is.input_names
      ∙ ap (λ (names : Option (List (List ℕ))). unwrap_or names []) is.output_names

  none_twice : AreDistinct []
  none_twice i j d before within same = omega (arith, within)

  -- it is lawful, if it has few rows
  pub lawful_by_state : length F.rows ≤ 65536 → IsLawful F
  lawful_by_state rows = record {
    some_input = is.some_input;
    inputs = is.inputs;
    some_output = is.some_output;
    outputs = is.outputs;
    some_row = some_rows;
    row_count = rows;
    state_count = omega (arith, state_count, is.few);
    distinct = subst AreDistinct (sym is.states) (numbered_names-distinct n (omega (arith, is.few)));
    state_names = subst (All IsPlainName) (sym is.states) (numbered_names-plain n (omega (arith, is.few)));
    input_names = subst (AreGiven F.inputs) (sym is.input_names) tt;
    output_names = subst (AreGiven F.outputs) (sym is.output_names) tt;
    given_distinct = subst AreDistinct (sym none_given) none_twice;
    rows = is.rows;
    reset = is.reset;
    numbered = numbered_by_state;
  }
