-- The file of a machine of words is lawful: its rows come state by state.
use Rattle.std.proofs.Common.{◌≡◌, ℕ, ◌+◌, ◌*◌, ◌/◌, ◌%◌, ◌^◌, ◌<◌, ◌≤◌, Option, All, AllPairs, Contains, IfSome, length, get_or, sym, subst, ap, ◌∙◌, arith}
use Rattle.std.specs.Prelude.{◌==◌}
use Rattle.std.proofs.Math.Nat.{div-mul-le_self}
use Rattle.std.proofs.Math.Pow.{pow_pos}
use Rattle.std.proofs.lemmas.List.Elements.{Contains-get_or}
use Rattle.std.proofs.lemmas.Nat.{div-mul-add, le-div, mul-le}
use Rattle.std.proofs.lemmas.Option.{get_or_from_slice_get}
use Rattle.cubes.specs.Symbol.{bit}
use Rattle.kiss_file.specs.declared.file.KissFile.{KissFile}
use Rattle.kiss_file.specs.declared.file.KissRow.{KissRow}
use Rattle.kiss_file.specs.LawfulFile.{IsLawful, IsLawfulRow}
use Rattle.kiss_file.specs.Laws.ByState.{IsByState, lawful_by_state}
use Rattle.machine_gen.specs.Inner.Draws.{next_of, place_of}
use Rattle.machine_gen.specs.WordMachine.{AreSizes, IsMachineOf}
use Rattle.machine_gen.proofs.Accepting.{state_count}
use Rattle.machine_gen.proofs.Cubes.{few_symbols}
use Rattle.machine_gen.proofs.Numbered.{first_within, next_within, second_within, two_digits}
use Rattle.machine_gen.proofs.Standing.{from_number, no_other, row_among, row_at_number, row_known, value_in_care, width_is}

module _ (word : ℕ → ℕ) (a b k : ℕ) (F : KissFile) (sizes : AreSizes a b k) (is : IsMachineOf word a b k F) where
  states : length F.states ≡ a * b
  states = state_count word a b k F sizes is

  row_total : length F.rows ≡ a * b * 2 ^ k
  row_total = is.rows.count

  -- ---- one row
  lawful_row : (row : KissRow) → Contains F.rows row → IsLawfulRow F.inputs F.outputs (length F.states) row
  lawful_row row among =
      let known = row_known word a b k F.rows sizes is.rows row among in
      let n = known.0 in
      let first = first_within a b k n sizes known.1 in
      let second = second_within a b k n sizes known.1 in
      let here = known.3 in
      record {
        width = width_is b k _ _ _ _ row here ∙ sym is.inputs;
        from = subst (λ s. s < length F.states) (sym here.from) (subst (λ m. n / 2 ^ k / b * b + n / 2 ^ k % b < m) (sym states) (two_digits _ _ a b first second));
        to = subst (λ (o : Option ℕ). IfSome o (λ s. s < length F.states)) (sym here.to)
            (subst (λ m. next_of word a b k (place_of b k n) < m) (sym states) (next_within word a b k (place_of b k n) sizes));
        care = λ output given. subst (λ o. output < o) (sym is.outputs) (no_other output (ap (λ c. bit c output) (sym here.care) ∙ given));
        value = λ output given. ap (λ c. bit c output) here.care ∙ value_in_care (n / 2 ^ k / b == 0) (n / 2 ^ k % b == 0) output (ap (λ v. bit v output) (sym here.value) ∙ given);
      }

  lawful_rows : All (IsLawfulRow F.inputs F.outputs (length F.states)) F.rows
  lawful_rows i d within = lawful_row (get_or F.rows i d) (Contains-get_or F.rows i d within)

  -- ---- the rows come state by state
  from_at : (n : ℕ) (d : KissRow) → n < a * b * 2 ^ k → (get_or F.rows n d).from ≡ n / 2 ^ k
  from_at n d within =
      let row = row_at_number word a b k F.rows sizes is.rows n within in
      ap (λ (r : KissRow). r.from) (get_or_from_slice_get F.rows n row.0 d row.1) ∙ from_number word a b k F.rows sizes is.rows n within

  in_order : AllPairs (λ row other. row.from ≤ other.from) F.rows
  in_order i j d before within =
      let last : j < a * b * 2 ^ k = omega (arith, within, row_total) in
      let le : i / 2 ^ k ≤ j / 2 ^ k = le-div (i / 2 ^ k) j (2 ^ k) (pow_pos k) (omega (arith, before, div-mul-le_self i (2 ^ k))) in
      omega (arith, from_at i d (omega (arith, before, last)), from_at j d last, le)

  -- the first row of a state
  first_row : (s : ℕ) → s < a * b → s * 2 ^ k < a * b * 2 ^ k
  first_row s low = let some : 0 < 2 ^ k = pow_pos k in omega (arith, two_digits s 0 (a * b) (2 ^ k) low some)

  each : (s : ℕ) → s < a * b → (row : KissRow) × Contains F.rows row × (row.from ≡ s)
  each s low =
      let n = s * 2 ^ k in
      let within : n < a * b * 2 ^ k = first_row s low in
      let row = row_at_number word a b k F.rows sizes is.rows n within in
      let none : n + 0 ≡ n = omega arith in (
        row.0,
        row_among word a b k F.rows sizes is.rows n row.0 row.1,
        from_number word a b k F.rows sizes is.rows n within ∙ ap (λ m. m / 2 ^ k) (sym none) ∙ div-mul-add s (2 ^ k) 0 (pow_pos k),
      )

  -- ---- the counts
  some_states : 4 ≤ a * b
  some_states = mul-le 2 2 a b sizes.a_low sizes.b_low

  few_rows : a * b * 2 ^ k ≤ 65536
  few_rows = mul-le (a * b) (2 ^ k) 256 256 sizes.states (few_symbols k sizes.k_high)

  by_state : IsByState F (a * b)
  by_state = record {
    some_input = subst (λ n. 1 ≤ n) (sym is.inputs) sizes.k_low;
    inputs = subst (λ n. n ≤ 32) (sym is.inputs) (omega (arith, sizes.k_high));
    some_output = subst (λ n. 1 ≤ n) (sym is.outputs) (omega arith);
    outputs = subst (λ n. n ≤ 64) (sym is.outputs) (omega arith);
    states = is.states;
    few = sizes.states;
    reset = subst (λ n. n < length F.states) (sym is.reset) (subst (λ n. 0 < n) (sym states) (omega (arith, some_states)));
    rows = lawful_rows;
    each = each;
    in_order = in_order;
    input_names = is.input_names;
    output_names = is.output_names;
  }

  pub lawful : IsLawful F
  lawful = lawful_by_state F (a * b) by_state (subst (λ n. n ≤ 65536) (sym row_total) few_rows)
