-- Each block of a closed partition stands in the rows that are kept.
use Rattle.std.proofs.Common.{◌≡◌, ℕ, ◌+◌, ◌<◌, ◌≤◌, ◌++◌, inl, inr, Bool, Some, List, [], ◌∷◌, Contains, length, length-append, get_or, map, take, refl, sym, ap, ◌∙◌, subst, arith}
use Rattle.std.specs.Prelude.{◌==◌}
use Rattle.std.specs.List.{filter_map}
use Rattle.std.proofs.lemmas.Bool.{and_parts, cases_eq, eq-eqb, eqb-true}
use Rattle.std.proofs.lemmas.List.{get_or-map, get_or_append_left, length-map, take-append-le}
use Rattle.std.proofs.lemmas.List.Elements.{All-contains, Contains-append_cases, Contains-append_left, Contains-append_right}
use Rattle.list_facts.specs.Laws.Members.{Contains-filter, Contains-filter_map, Contains-from_filter, Contains-from_filter_map, Contains-from_map, Contains-from_take, Contains-here, Contains-map}
use Rattle.cubes.specs.Cube.{Holds}
use Rattle.cubes.specs.Symbol.{symbol_of}
use Rattle.cubes.specs.Laws.Ends.{least_held}
use Rattle.cubes.specs.Laws.Numbers.{length-symbol_of}
use Rattle.kiss_file.specs.declared.file.KissFile.{KissFile}
use Rattle.kiss_file.specs.declared.file.KissRow.{KissRow}
use Rattle.kiss_file.specs.LawfulFile.{AreNumbered, IsLawfulRow}
use Rattle.kiss_file.specs.Machine.{Conflicting, IsRowAt, next, rows_at}
use Rattle.kiss_file.specs.Names.{name_of}
use Rattle.kiss_file.specs.Laws.Machine.{next_said}
use Rattle.machine_table.specs.Table.{IsTable}
use Rattle.pair_operators.specs.Pair.{Closed}
use Rattle.partition.specs.Laws.Least.{least_of-same}
use Rattle.partition.specs.NestedBlocks.{least_of}
use Rattle.partition.specs.Partition.{Together}
use Rattle.state_reduce.specs.Inner.BlockNames.{AreAllNamed, currents_of, kept_of, nexts_of}
use Rattle.state_reduce.specs.Quotient.{block_name}
use Rattle.state_reduce.proofs.Names.{once_has}
use Rattle.state_reduce.proofs.Numbers.{least_again, least_below, least_together}

module _ (F : KissFile) (p : List ℕ) (table : IsTable F) (size : length p ≡ length F.states) (numbered : AreNumbered F) where
  lawful_row : (row : KissRow) → Contains F.rows row → IsLawfulRow F.inputs F.outputs (length F.states) row
  lawful_row row among = All-contains (IsLawfulRow F.inputs F.outputs (length F.states)) F.rows row table.rows among

  -- a state before the current state of a row is the current state of a row
  earlier_row : (row : KissRow) → Contains F.rows row → (a : ℕ) → a < row.from → (other : KissRow) × Contains F.rows other × (other.from ≡ a)
  earlier_row row (k, within, here) a before =
      let froms : List ℕ = map (λ (r : KissRow). r.from) F.rows in
      let tos : List ℕ = filter_map (λ (r : KissRow). r.to) F.rows in
      let count : length froms ≡ length F.rows = length-map F.rows (λ (r : KissRow). r.from) in
      let all : length (froms ++ tos) ≡ length froms + length tos = length-append froms tos in
      let stands : get_or (froms ++ tos) k 0 ≡ row.from =
      get_or_append_left froms tos 0 k (omega arith) ∙ get_or-map (λ (r : KissRow). r.from) F.rows k row 0 within ∙ ap (λ (r : KissRow). r.from) here in
      let seen : Contains (take k (froms ++ tos)) a = numbered.in_order k a (omega arith) (omega arith) in
      Contains-from_map (λ (r : KissRow). r.from) F.rows a (Contains-from_take k froms a (subst (λ (xs : List ℕ). Contains xs a) (take-append-le k froms tos (omega arith)) seen))

  -- a row of a least state names its block
  named_by : (row : KissRow) → Contains F.rows row → least_of p row.from ≡ row.from → Contains (currents_of F p F.rows) (block_name F p row.from)
  named_by row among least =
      Contains-map (λ (r : KissRow). block_name F p r.from) (kept_of p F.rows) row
      (Contains-filter (λ (r : KissRow). least_of p r.from == r.from) F.rows row among (eq-eqb (least_of p row.from) row.from least))

  current_named : (row : KissRow) → Contains F.rows row → Contains (currents_of F p F.rows) (block_name F p row.from)
  current_named row among =
      let in_p : row.from < length p = omega (arith, (lawful_row row among).from, size) in
      let low : least_of p row.from ≤ row.from = least_below p row.from in_p in
      elim (cases_eq (least_of p row.from) row.from) [
        | inl least ↦ named_by row among least
        | inr other ↦
            let earlier = earlier_row row among (least_of p row.from) (omega arith) in
            let least : least_of p (earlier.0).from ≡ (earlier.0).from = ap (least_of p) earlier.2 ∙ least_again p row.from in_p ∙ sym earlier.2 in
            subst (Contains (currents_of F p F.rows)) (ap (name_of F.states) (least ∙ earlier.2)) (named_by earlier.0 earlier.1 least)
      ]

  module _ (no_conflict : Conflicting F → ⊥) (closed : Closed F p) where
    module _ (row : KissRow) (z : ℕ) (among : Contains F.rows row) (says : row.to ≡ Some z) where
      abbrev least_from : ℕ
      least_from = least_of p row.from

      abbrev symbol : List Bool
      symbol = symbol_of F.inputs row.cube.value

      in_p : row.from < length p
      in_p = omega (arith, (lawful_row row among).from, size)

      at_row : IsRowAt F row.from symbol row
      at_row = record {
        among = among;
        from = refl;
        held = subst (λ (w : ℕ). Holds row.cube (symbol_of w row.cube.value)) (lawful_row row among).width (least_held row.cube);
      }

      -- the least state goes into the block of the next state
      goes : Together p (next F least_from symbol) z
      goes =
          subst (Together p (next F least_from symbol)) (next_said F row.from symbol no_conflict row z at_row says)
          (closed least_from row.from symbol (least_together p row.from in_p) (length-symbol_of F.inputs row.cube.value))

      by_first : (given : List ℕ) → filter_map (λ (r : KissRow). r.to) (rows_at F least_from symbol) ≡ given → Contains (currents_of F p F.rows ++ nexts_of F p F.rows) (block_name F p z)
      by_first [] none =
          let holds_state : next F least_from symbol ≡ least_from = ap (λ (ts : List ℕ). get_or ts 0 least_from) none in
          let same : least_of p row.from ≡ least_of p z = sym (least_again p row.from in_p) ∙ ap (least_of p) (sym holds_state) ∙ least_of-same p (next F least_from symbol) z goes.2 in
          Contains-append_left (currents_of F p F.rows) (nexts_of F p F.rows) _
          (subst (Contains (currents_of F p F.rows)) (ap (name_of F.states) same) (current_named row among))
      by_first (t ∷ ts) given =
          let goes_to : next F least_from symbol ≡ t = ap (λ (us : List ℕ). get_or us 0 least_from) given in
          let found = Contains-from_filter_map (λ (r : KissRow). r.to) (rows_at F least_from symbol) t (subst (λ (us : List ℕ). Contains us t) (sym given) (Contains-here t ts)) in
          let of_state = Contains-from_filter _ F.rows found.0 found.1 in
          let from_least : (found.0).from ≡ least_from = eqb-true (found.0).from least_from (and_parts _ _ of_state.1).0 in
          let least : least_of p (found.0).from ≡ (found.0).from = ap (least_of p) from_least ∙ least_again p row.from in_p ∙ sym from_least in
          let kept = Contains-filter (λ (r : KissRow). least_of p r.from == r.from) F.rows found.0 of_state.0 (eq-eqb (least_of p (found.0).from) (found.0).from least) in
          let same : least_of p t ≡ least_of p z = ap (least_of p) (sym goes_to) ∙ least_of-same p (next F least_from symbol) z goes.2 in
          Contains-append_right (currents_of F p F.rows) (nexts_of F p F.rows) _
          (subst (Contains (nexts_of F p F.rows)) (ap (name_of F.states) same)
          (Contains-map (block_name F p) (filter_map (λ (r : KissRow). r.to) (kept_of p F.rows)) t (Contains-filter_map (λ (r : KissRow). r.to) (kept_of p F.rows) found.0 t kept found.2)))

      -- the block of a next state is named
      next_named : Contains (currents_of F p F.rows ++ nexts_of F p F.rows) (block_name F p z)
      next_named = by_first (filter_map (λ (r : KissRow). r.to) (rows_at F least_from symbol)) refl

    -- so each block is
    pub all_named : AreAllNamed F p
    all_named s inside =
        once_has (currents_of F p F.rows ++ nexts_of F p F.rows) (block_name F p s)
        (elim (Contains-append_cases (map (λ (r : KissRow). r.from) F.rows) (filter_map (λ (r : KissRow). r.to) F.rows) s (numbered.each s inside)) [
          | inl current ↦
              let found = Contains-from_map (λ (r : KissRow). r.from) F.rows s current in
              Contains-append_left (currents_of F p F.rows) (nexts_of F p F.rows) _
              (subst (λ (u : ℕ). Contains (currents_of F p F.rows) (block_name F p u)) found.2 (current_named found.0 found.1))
          | inr next_one ↦
              let found = Contains-from_filter_map (λ (r : KissRow). r.to) F.rows s next_one in
              next_named found.0 s found.1 found.2
        ])
