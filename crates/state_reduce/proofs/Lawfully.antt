-- The file of the blocks is lawful, and has a machine with each fill with which the file has one.
use Rattle.std.proofs.Common.{◌≡◌, ℕ, ◌<◌, ◌≤◌, inl, inr, Bool, Option, Some, None, IsSome, IfSome, unwrap_or, List, [], ◌∷◌, ◌++◌, All, Contains, filter, length, get_or, map, option_map, take, refl, sym, ap, ◌∙◌, subst, arith}
use Rattle.std.specs.Prelude.{◌==◌}
use Rattle.std.specs.List.{filter_map}
use Rattle.std.proofs.lemmas.Bool.{cases_Bool}
use Rattle.std.proofs.lemmas.List.{length-map, map-append}
use Rattle.std.proofs.lemmas.List.Elements.{All-append, All-contains, All-filter, All-from_get_or, All-map, All-weaker, Contains-get_or}
use Rattle.list_facts.specs.Laws.Members.{Contains-none}
use Rattle.kiss_file.specs.declared.file.KissFile.{KissFile}
use Rattle.kiss_file.specs.declared.file.KissRow.{KissRow}
use Rattle.kiss_file.specs.LawfulFile.{AreGiven, AreNumbered, IsLawful, IsLawfulRow, appearances}
use Rattle.kiss_file.specs.Names.{AreDistinct, IsPlainName}
use Rattle.machine_table.specs.Table.{IsTable}
use Rattle.partition.specs.NestedBlocks.{least_of}
use Rattle.state_reduce.specs.Inner.BlockNames.{AreAllNamed, currents_of, kept_of, nexts_of}
use Rattle.state_reduce.specs.Quotient.{IsQuotient, block_name, block_names, block_number, row_of_blocks}
use Rattle.state_reduce.proofs.Answered.{given_mapped}
use Rattle.state_reduce.proofs.Appearing.{distinct_once, each_place, in_order, place}
use Rattle.state_reduce.proofs.Names.{currents_known, few_blocks, has_once, nexts_known}
use Rattle.state_reduce.proofs.Numbers.{number_within}

map_twice : {X Y Z : Type 0} (f : X → Y) (g : Y → Z) (xs : List X) → map g (map f xs) ≡ map (λ x. g (f x)) xs
map_twice f g [] = refl
map_twice f g (x ∷ xs) = ap (λ ys. g (f x) ∷ ys) (map_twice f g xs)

filter_shorter : {X : Type 0} (test : X → Bool) (xs : List X) → length (filter test xs) ≤ length xs
filter_shorter test [] = omega arith
filter_shorter test (x ∷ xs) =
    let rest = filter_shorter test xs in
    elim (cases_Bool (test x)) [
      | inl kept ↦ rw kept (omega arith)
      | inr gone ↦ rw gone (omega arith)
    ]

if_mapped : (f : ℕ → ℕ) (o : Option ℕ) (n m : ℕ) → ((t : ℕ) → t < n → f t < m) → IfSome o (λ t. t < n) → IfSome (option_map f o) (λ t. t < m)
if_mapped f None n m below inside = inside
if_mapped f (Some t) n m below inside = below t inside

pub some_mapped : (f : ℕ → ℕ) (o : Option ℕ) → IsSome o → IsSome (option_map f o)
some_mapped f None says = says
some_mapped f (Some t) says = says

pub mapped : (f : ℕ → ℕ) (o : Option ℕ) (v : ℕ) → option_map f o ≡ Some v → (u : ℕ) × (o ≡ Some u) × (f u ≡ v)
mapped f None v is = absurd (cc)
mapped f (Some u) v is = (u, refl, (cc))

module _ (F : KissFile) (p : List ℕ) where
  abbrev pub all_names : List (List ℕ)
  all_names = currents_of F p F.rows ++ nexts_of F p F.rows

  abbrev of_blocks : List KissRow → List KissRow
  of_blocks rows = map (row_of_blocks F p) (kept_of p rows)

  -- the states as they appear in the rows of the blocks are the places of the names
  appear : map (λ (row : KissRow). row.from) (of_blocks F.rows) ++ filter_map (λ (row : KissRow). row.to) (of_blocks F.rows) ≡ map (place all_names) all_names
  appear =
      ap (λ (xs : List ℕ). xs ++ filter_map (λ (row : KissRow). row.to) (of_blocks F.rows))
      (map_twice (row_of_blocks F p) (λ (row : KissRow). row.from) (kept_of p F.rows) ∙ sym (map_twice (λ (row : KissRow). block_name F p row.from) (place all_names) (kept_of p F.rows)))
      ∙ ap (λ (xs : List ℕ). map (place all_names) (currents_of F p F.rows) ++ xs)
      (given_mapped (row_of_blocks F p) (λ (row : KissRow). row.to) (block_number F p) (λ row. refl) (kept_of p F.rows)
      ∙ sym (map_twice (block_name F p) (place all_names) (filter_map (λ (row : KissRow). row.to) (kept_of p F.rows))))
      ∙ sym (map-append (place all_names) (currents_of F p F.rows) (nexts_of F p F.rows))

  module _ (Q : KissFile) (made : IsQuotient F p Q) where
    appear_in : appearances Q ≡ map (place all_names) all_names
    appear_in = ap (λ (rows : List KissRow). map (λ (row : KissRow). row.from) rows ++ filter_map (λ (row : KissRow). row.to) rows) made.rows ∙ appear

    pub blocks_numbered : AreNumbered Q
    blocks_numbered = record {
      each = λ s within. subst (λ (xs : List ℕ). Contains xs s) (sym appear_in) (each_place all_names s (subst (λ (names : List (List ℕ)). s < length names) made.states within));
      in_order = λ k s within lt. subst (λ (xs : List ℕ). k < length xs → s < get_or xs k 0 → Contains (take k xs) s) (sym appear_in) (in_order all_names k s) within lt;
    }

    module _ (distinct : AreDistinct F.states) (size : length p ≡ length F.states) (table : IsTable F) (named : AreAllNamed F p) where
      names_known : All (Contains F.states) all_names
      names_known = All-append (Contains F.states) (currents_of F p F.rows) (nexts_of F p F.rows) (currents_known F p F.rows table.rows) (nexts_known F p F.rows table.rows)

      row_lawful : (row : KissRow) → IsLawfulRow F.inputs F.outputs (length F.states) row → IsLawfulRow Q.inputs Q.outputs (length Q.states) (row_of_blocks F p row)
      row_lawful row lawful =
          let below : (t : ℕ) → t < length F.states → block_number F p t < length Q.states =
          λ t inside. subst (λ (names : List (List ℕ)). block_number F p t < length names) (sym made.states) (number_within F p distinct named t inside) in
          record {
            width = lawful.width ∙ sym made.inputs;
            from = below row.from lawful.from;
            to = if_mapped (block_number F p) row.to (length F.states) (length Q.states) below lawful.to;
            care = λ b given. subst (λ (o : ℕ). b < o) (sym made.outputs) (lawful.care b given);
            value = lawful.value;
          }

      rows_lawful : All (IsLawfulRow Q.inputs Q.outputs (length Q.states)) Q.rows
      rows_lawful =
          subst (All (IsLawfulRow Q.inputs Q.outputs (length Q.states))) (sym made.rows)
          (All-map (IsLawfulRow Q.inputs Q.outputs (length Q.states)) (row_of_blocks F p) (kept_of p F.rows)
          (All-filter _ (λ (row : KissRow). IsLawfulRow Q.inputs Q.outputs (length Q.states) (row_of_blocks F p row)) F.rows
          (All-weaker (IsLawfulRow F.inputs F.outputs (length F.states)) (λ (row : KissRow). IsLawfulRow Q.inputs Q.outputs (length Q.states) (row_of_blocks F p row)) row_lawful F.rows table.rows)))

      names_plain : All IsPlainName F.states → All IsPlainName (block_names F p)
      names_plain plain =
          All-from_get_or IsPlainName (block_names F p) []
          (λ i within. All-contains IsPlainName F.states (get_or (block_names F p) i []) plain
          (All-contains (Contains F.states) all_names (get_or (block_names F p) i []) names_known (has_once all_names _ (Contains-get_or (block_names F p) i [] within))))

      reset_within : Q.reset < length Q.states
      reset_within = subst (λ (s : ℕ). s < length Q.states) (sym made.reset) (subst (λ (names : List (List ℕ)). block_number F p F.reset < length names) (sym made.states) (number_within F p distinct named F.reset table.reset))

      -- a state appears in some row
      some_row : 1 ≤ length Q.rows
      some_row = among Q.rows (blocks_numbered.each Q.reset reset_within)
        where
          among : (rows : List KissRow) → Contains (map (λ (row : KissRow). row.from) rows ++ filter_map (λ (row : KissRow). row.to) rows) Q.reset → 1 ≤ length rows
          among [] there = absurd (Contains-none Q.reset there)
          among (row ∷ rows) there = omega arith

      pub blocks_table : IsTable Q
      blocks_table = record {
        some_input = omega (arith, table.some_input, made.inputs);
        inputs = omega (arith, table.inputs, made.inputs);
        some_output = omega (arith, table.some_output, made.outputs);
        outputs = omega (arith, table.outputs, made.outputs);
        states = omega (arith, few_blocks F p table, ap length made.states);
        rows = rows_lawful;
        reset = reset_within;
      }

      pub blocks_lawful : IsLawful F → IsLawful Q
      blocks_lawful lawful = record {
        some_input = omega (arith, lawful.some_input, made.inputs);
        inputs = omega (arith, lawful.inputs, made.inputs);
        some_output = omega (arith, lawful.some_output, made.outputs);
        outputs = omega (arith, lawful.outputs, made.outputs);
        some_row = some_row;
        row_count = omega (arith, ap length made.rows, length-map (kept_of p F.rows) (row_of_blocks F p), filter_shorter (λ (row : KissRow). least_of p row.from == row.from) F.rows, lawful.row_count);
        state_count = omega (arith, few_blocks F p table, ap length made.states);
        distinct = subst AreDistinct (sym made.states) (distinct_once all_names);
        state_names = subst (All IsPlainName) (sym made.states) (names_plain lawful.state_names);
        input_names = subst (λ (k : ℕ). AreGiven k Q.input_names) (sym made.inputs) (subst (AreGiven F.inputs) (sym made.input_names) lawful.input_names);
        output_names = subst (λ (k : ℕ). AreGiven k Q.output_names) (sym made.outputs) (subst (AreGiven F.outputs) (sym made.output_names) lawful.output_names);
        given_distinct = subst (λ (given : Option (List (List ℕ))). AreDistinct (unwrap_or given [] ++ unwrap_or Q.output_names [])) (sym made.input_names)
            (subst (λ (given : Option (List (List ℕ))). AreDistinct (unwrap_or F.input_names [] ++ unwrap_or given [])) (sym made.output_names) lawful.given_distinct);
        rows = rows_lawful;
        reset = reset_within;
        numbered = blocks_numbered;
      }
