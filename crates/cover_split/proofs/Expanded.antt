-- The machine of the pairs, from its rows.
use Rattle.std.proofs.Common.{◌≡◌, ℕ, ◌-◌, ◌<◌, ◌≤◌, ◌^◌, Bool, true, false, Option, Some, None, is_some, IfSome, List, [], ◌∷◌, ◌++◌, All, Contains, length, get_or, map, take, unwrap_or, refl, sym, ap, ◌∙◌, subst, inl, inr, arith}
use Rattle.std.proofs.Math.Pow.{pow_pos}
use Rattle.std.specs.List.{cons_option, filter_map}
use Rattle.std.proofs.lemmas.Bool.{cases_Bool, cases_lt, true≢false}
use Rattle.std.proofs.lemmas.List.{get_or-map, get_or-take, get_or_append_left, length-append, length-map, length-take-le}
use Rattle.std.proofs.lemmas.List.Elements.{All-append, All-cons, All-contains, All-get_or, All-head, All-map, All-nil, All-tail, All-weaker, Contains-get_or}
use Rattle.std.proofs.lemmas.Nat.Bits.{bit_at_above, bit_at_ones, bit_at_ones_above}
use Rattle.std.proofs.lemmas.Option.{same_Some, slice_get_within}
use Rattle.cubes.specs.Cube.{Holds}
use Rattle.cubes.specs.Symbol.{bit, number_of, symbol_of, lowest_bits}
use Rattle.cubes.specs.Laws.Bits.{bit_from_one, one_from_bit}
use Rattle.cubes.specs.Laws.Meeting.{length_of_held, number_of_held}
use Rattle.cubes.specs.Laws.Numbers.{number_below, symbol_of-number_of}
use Rattle.kiss_file.specs.declared.file.KissFile.{KissFile}
use Rattle.kiss_file.specs.declared.file.KissRow.{KissRow}
use Rattle.kiss_file.specs.LawfulFile.{AreGiven, AreNumbered, IsLawful, IsLawfulRow, appearances, given_names}
use Rattle.kiss_file.specs.Machine.{Conflicting, IsRowAt, Specified, answers, given_bit, next, out, output_bit}
use Rattle.kiss_file.specs.Names.{AreDistinct, IsPlainName}
use Rattle.kiss_file.specs.Laws.Machine.{next_said, output_bit_said}
use Rattle.machine_table.specs.NextStates.{NeverLeaves}
use Rattle.machine_table.specs.Table.{IsTable}
use Rattle.machine_table.specs.Laws.OutputWords.{same_map, same_values}
use Rattle.kiss_file.specs.Laws.ByState.{IsByState, lawful_by_state, numbered_by_state}
use Rattle.kiss_file.specs.Laws.NumberedNames.{length-numbered_names}
use Rattle.cover_split.specs.StateCover.{IsStateCover}
use Rattle.cover_split.specs.Expansion.{AnswersAlike, AnswersAsStates, IsExpansion, IsNextPair, IsPair, IsTarget, pairs_of}
use Rattle.cover_split.specs.Inner.Rows.{IsBuilt, IsPairRow}
use Rattle.cover_split.specs.Laws.Pairs.{length-pairs_of, one_pair, some_pair}
use Rattle.cover_split.proofs.PartLemmas.{one_target}

-- ---- all ones
ones_low : (o b : ℕ) → b < o → bit (2 ^ o - 1) b ≡ true
ones_low o b low = bit_from_one (2 ^ o - 1) b (bit_at_ones o b low)

ones_high : (o b : ℕ) → bit (2 ^ o - 1) b ≡ true → b < o
ones_high o b one =
    elim (cases_lt b o) [
      | inl low ↦ low
      | inr high ↦ absurd (omega (arith, one_from_bit (2 ^ o - 1) b one, bit_at_ones_above o b high))
    ]

low_bit : (n o b : ℕ) → n < 2 ^ o → bit n b ≡ true → b < o
low_bit n o b small one =
    elim (cases_lt b o) [
      | inl low ↦ low
      | inr high ↦ absurd (omega (arith, one_from_bit n b one, bit_at_above n o b small high))
    ]

-- a row with all ones for its care gives each bit of its value
gives_bit : (row : KissRow) (o b : ℕ) → row.care ≡ 2 ^ o - 1 → b < o → given_bit b row ≡ Some (bit row.value b)
gives_bit row o b care low = let cares : bit row.care b ≡ true = ap (λ (n : ℕ). bit n b) care ∙ ones_low o b low in rw cares refl

module _ (F : KissFile) (table : IsTable F) (stays : NeverLeaves F) (blocks : List (List ℕ)) (cover : IsStateCover (length F.states) blocks) (E : KissFile) (is : IsBuilt F blocks E) where
  pub state_count : length E.states ≡ length (pairs_of blocks)
  state_count = ap length is.states ∙ length-numbered_names (length (pairs_of blocks))

  few : length (pairs_of blocks) ≤ 256
  few = omega (arith, length-pairs_of blocks, cover.few)

  known : (row : KissRow) → Contains E.rows row → (row.from < length (pairs_of blocks)) × IsPairRow F blocks row.from row
  known row among = All-contains (λ row. (row.from < length (pairs_of blocks)) × IsPairRow F blocks row.from row) E.rows row is.rows.right among

  -- where a pair goes is one pair
  one_next : (i k l : ℕ) (x : List Bool) → i < length (pairs_of blocks) → IsNextPair F blocks i x k → IsNextPair F blocks i x l → k ≡ l
  one_next i k l x within first second =
      let pair = some_pair blocks i within in
      let a = first pair.0 pair.1 pair.2 in
      let b = second pair.0 pair.1 pair.2 in
      let same : a.0 ≡ b.0 = one_target F blocks pair.0 x a.0 b.0 a.1 b.1 in
      one_pair (length F.states) blocks cover.lawful k l b.0 (next F pair.1 x) (subst (λ (t : ℕ). IsPair blocks k t (next F pair.1 x)) same a.2) b.2

  -- ---- a symbol by its number
  module _ (row : KissRow) (among : Contains E.rows row) (x : List Bool) (held : Holds row.cube x) where
    width : length x ≡ F.inputs
    width = length_of_held row.cube x held ∙ (known row among).1.width

    number_low : number_of x < 2 ^ F.inputs
    number_low = subst (λ (w : ℕ). number_of x < 2 ^ w) width (number_below x)

    symbol_is : symbol_of F.inputs (number_of x) ≡ x
    symbol_is = ap (λ (w : ℕ). symbol_of w (number_of x)) (sym width) ∙ symbol_of-number_of x

    row_leads : IsNextPair F blocks row.from x (known row among).1.target
    row_leads =
        subst (λ (y : List Bool). IsNextPair F blocks row.from y (known row among).1.target) symbol_is
        ((known row among).1.leads (number_of x) number_low (number_of_held row.cube x held))

    row_gives : (j s : ℕ) → IsPair blocks row.from j s → out F s x ≡ lowest_bits F.outputs row.value
    row_gives j s pair =
        subst (λ (y : List Bool). out F s y ≡ lowest_bits F.outputs row.value) symbol_is ((known row among).1.gives j s (number_of x) pair number_low (number_of_held row.cube x held))

  -- ---- no two rows contradict one another
  pub no_conflict : Conflicting E → ⊥
  no_conflict (row, other, among, also, from, (x, held, too), inl (t, u, one, two, apart)) =
      let first = known row among in
      let second = known other also in
      let a : first.1.target ≡ t = same_Some first.1.target t (sym first.1.to ∙ one) in
      let b : second.1.target ≡ u = same_Some second.1.target u (sym second.1.to ∙ two) in
      apart (sym a ∙ one_next row.from first.1.target second.1.target x first.0 (row_leads row among x held)
      (subst (λ (i : ℕ). IsNextPair F blocks i x second.1.target) (sym from) (row_leads other also x too)) ∙ b)
  no_conflict (row, other, among, also, from, (x, held, too), inr (b, none, one)) =
      let first = known row among in
      let second = known other also in
      let pair = some_pair blocks row.from first.0 in
      let low : b < F.outputs = ones_high F.outputs b (ap (λ (n : ℕ). bit n b) (sym second.1.care) ∙ cared other b true one) in
      let words : lowest_bits F.outputs row.value ≡ lowest_bits F.outputs other.value =
      sym (row_gives row among x held pair.0 pair.1 pair.2) ∙ row_gives other also x too pair.0 pair.1 (subst (λ (i : ℕ). IsPair blocks i pair.0 pair.1) from pair.2) in
      let same : bit row.value b ≡ bit other.value b = same_values (bit row.value) (bit other.value) F.outputs words b low in
      let zero : bit row.value b ≡ false = same_Some (bit row.value b) false (sym (gives_bit row F.outputs b first.1.care low) ∙ none) in
      let ones : bit other.value b ≡ true = same_Some (bit other.value b) true (sym (gives_bit other F.outputs b second.1.care low) ∙ one) in
      true≢false (sym ones ∙ sym same ∙ zero)
    where
      cared : (r : KissRow) (b : ℕ) (v : Bool) → given_bit b r ≡ Some v → bit r.care b ≡ true
      cared r b v given =
          elim (cases_Bool (bit r.care b)) [
            | inl yes' ↦ yes'
            | inr no' ↦ let gone : given_bit b r ≡ None = rw no' refl in let none : None ≡ Some v = sym gone ∙ given in absurd (cc)
          ]

  -- ---- each pair has a row at each symbol
  pub row_there : (i : ℕ) (x : List Bool) → i < length (pairs_of blocks) → length x ≡ F.inputs → (row : KissRow) × IsRowAt E i x row
  row_there i x within long =
      let low : number_of x < 2 ^ F.inputs = subst (λ (w : ℕ). number_of x < 2 ^ w) long (number_below x) in
      let there = is.rows.each i (number_of x) within low in
      let row = there.0 in
      let symbol : symbol_of row.cube.width (number_of x) ≡ x = ap (λ (w : ℕ). symbol_of w (number_of x)) ((known row there.1).1.width ∙ sym long) ∙ symbol_of-number_of x in
      (row, record { among = there.1; from = there.2; held = subst (Holds row.cube) symbol there.3 })

  pub specified : Specified E
  specified i x within long =
      let inside : i < length (pairs_of blocks) = omega (arith, state_count) in
      let there = row_there i x inside (long ∙ is.inputs) in
      let it = (known there.0 there.1.among).1 in
      record {
        next = (there.0, there.1, ap is_some it.to);
        outputs = λ b low. (there.0, there.1, ap is_some (gives_bit there.0 F.outputs b it.care (omega (arith, is.outputs))));
      }

  -- ---- what it does
  pub next_pairs : (i : ℕ) (x : List Bool) → length x ≡ F.inputs → IsNextPair F blocks i x (next E i x)
  next_pairs i x long j s pair =
      let within : i < length (pairs_of blocks) = slice_get_within (pairs_of blocks) i (j, s) pair in
      let there = row_there i x within long in
      let row = there.0 in
      let it = (known row there.1.among).1 in
      let goes : next E i x ≡ it.target = next_said E i x no_conflict row it.target there.1 it.to in
      let leads : IsNextPair F blocks i x it.target = subst (λ (k : ℕ). IsNextPair F blocks k x it.target) there.1.from (row_leads row there.1.among x there.1.held) in
      subst (λ (k : ℕ). (t : ℕ) × IsTarget F blocks j x t × IsPair blocks k t (next F s x)) (sym goes) (leads j s pair)

  pub outs : (i j s : ℕ) (x : List Bool) → IsPair blocks i j s → length x ≡ F.inputs → out E i x ≡ out F s x
  outs i j s x pair long =
      let within : i < length (pairs_of blocks) = slice_get_within (pairs_of blocks) i (j, s) pair in
      let there = row_there i x within long in
      let row = there.0 in
      let it = (known row there.1.among).1 in
      let word : out F s x ≡ lowest_bits F.outputs row.value = row_gives row there.1.among x there.1.held j s (subst (λ (k : ℕ). IsPair blocks k j s) (sym there.1.from) pair) in
      same_map (output_bit E i x) (bit row.value) E.outputs
      (λ b low. output_bit_said E i x no_conflict row b (bit row.value b) there.1 (gives_bit row F.outputs b it.care (omega (arith, is.outputs))))
      ∙ ap (λ (o : ℕ). lowest_bits o row.value) is.outputs ∙ sym word

  pub expansion : IsExpansion F blocks E
  expansion = record {
    inputs = is.inputs;
    outputs = is.outputs;
    states = is.states;
    next_pairs = next_pairs;
    outs = outs;
    reset = is.reset;
    input_names = is.input_names;
    output_names = is.output_names;
  }

  pub answers_as_states : AnswersAsStates F blocks E
  answers_as_states i j s [] pair long = refl
  answers_as_states i j s (x ∷ word) pair long =
      let here : length x ≡ F.inputs = All-head (λ y. length y ≡ F.inputs) x word long in
      let goes = next_pairs i x here j s pair in
      let rest = answers_as_states (next E i x) goes.0 (next F s x) word goes.2 (All-tail (λ y. length y ≡ F.inputs) x word long) in
      ap (λ (y : List Bool). y ∷ answers E (next E i x) word) (outs i j s x pair here) ∙ ap (λ (ys : List (List Bool)). out F s x ∷ ys) rest

  pub answers_alike : AnswersAlike F E
  answers_alike word long = answers_as_states E.reset is.reset.0 F.reset word is.reset.2 long

  -- ---- it is a table
  lawful_row : (row : KissRow) → Contains E.rows row → IsLawfulRow E.inputs E.outputs (length E.states) row
  lawful_row row among =
      let it = known row among in
      record {
        width = it.1.width ∙ sym is.inputs;
        from = omega (arith, it.0, state_count);
        to = subst (λ (o : Option ℕ). IfSome o (λ t. t < length E.states)) (sym it.1.to) (subst (λ (n : ℕ). it.1.target < n) (sym state_count) it.1.among);
        care = λ b one. subst (λ (o : ℕ). b < o) (sym is.outputs) (ones_high F.outputs b (ap (λ (n : ℕ). bit n b) (sym it.1.care) ∙ one));
        value = λ b one. ap (λ (n : ℕ). bit n b) it.1.care ∙ ones_low F.outputs b (low_bit row.value F.outputs b it.1.value one);
      }

  lawful_rows : All (IsLawfulRow E.inputs E.outputs (length E.states)) E.rows
  lawful_rows i d within = lawful_row (get_or E.rows i d) (Contains-get_or E.rows i d within)

  reset_low : E.reset < length E.states
  reset_low = omega (arith, state_count, slice_get_within (pairs_of blocks) E.reset (is.reset.0, F.reset) is.reset.2)

  pub table_of : IsTable E
  table_of = record {
    some_input = subst (λ (n : ℕ). 1 ≤ n) (sym is.inputs) table.some_input;
    inputs = subst (λ (n : ℕ). n ≤ 32) (sym is.inputs) table.inputs;
    some_output = subst (λ (n : ℕ). 1 ≤ n) (sym is.outputs) table.some_output;
    outputs = subst (λ (n : ℕ). n ≤ 64) (sym is.outputs) table.outputs;
    states = omega (arith, state_count, few);
    rows = lawful_rows;
    reset = reset_low;
  }

  -- ---- its rows come state by state
  by_state : IsByState E (length (pairs_of blocks))
  by_state = record {
    some_input = table_of.some_input;
    inputs = table_of.inputs;
    some_output = table_of.some_output;
    outputs = table_of.outputs;
    states = is.states;
    few = few;
    reset = reset_low;
    rows = lawful_rows;
    each = λ i within. let there = is.rows.each i 0 within (pow_pos F.inputs) in (there.0, there.1, there.2);
    in_order = is.rows.in_order;
    input_names = is.input_names;
    output_names = is.output_names;
  }

  pub numbered : AreNumbered E
  numbered = numbered_by_state E (length (pairs_of blocks)) by_state

  pub lawful : length E.rows ≤ 65536 → IsLawful E
  lawful = lawful_by_state E (length (pairs_of blocks)) by_state
