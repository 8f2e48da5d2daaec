-- The blocks come in the order of their labels: the first cell of a block is that of its least state.
use Rattle.std.proofs.Common.{◌≡◌, inl, inr, ℕ, zero, suc, ◌<◌, ◌≤◌, Bool, false, All, Contains, IfSome, List, [], ◌∷◌, ◌++◌, Option, Some, filter, get_or, length, map, replicate, slice_get, take, refl, sym, ◌∙◌, ap, subst, arith}
use Rattle.std.proofs.lemmas.Bool.{cases_lt}
use Rattle.std.proofs.lemmas.List.{length-replicate, take_all, take-append-le, take-map}
use Rattle.std.proofs.Math.Seq.{take-append-add}
use Rattle.std.proofs.lemmas.List.Elements.{All-contains, All-head, All-tail, Contains-get_or, Contains-append_left, Contains-append_right}
use Rattle.std.proofs.lemmas.Option.{get_or_from_slice_get, slice_get_within}
use Rattle.std.specs.List.{AllZip, filter_map, flat_map}
use Rattle.std.specs.List.Sorted.{IsStrictlyIncreasing}
use Rattle.dependence.specs.declared.sets.ReadSet.{ReadSet}
use Rattle.kiss_file.specs.declared.file.KissFile.{KissFile}
use Rattle.kiss_file.specs.declared.file.KissRow.{KissRow}
use Rattle.kiss_file.specs.LawfulFile.{AreNumbered, IsLawfulRow, appearances}
use Rattle.list_facts.specs.Laws.Members.{Contains-cons, Contains-from_filter_map, Contains-map, Contains-there}
use Rattle.list_facts.specs.Laws.Places.{from_map, get_cases, item_at}
use Rattle.partition.specs.Partition.{IsNumbered, blocks_of}
use Rattle.partition.specs.Laws.Labels.{block_stands}
use Rattle.state_codes.specs.declared.Codes.{Codes}
use Rattle.state_codes.specs.declared.which.Which.{Which}
use Rattle.part_machines.specs.Cells.{values_of}
use Rattle.part_machines.specs.Laws.Cells.{cell_has_least}
use Rattle.part_machines.specs.PartRows.{AreCellRows, ArePartRows, IsPartRow, is_taken, output_count}
use Rattle.part_machines.proofs.Found.{found_in_cell}
use Rattle.part_machines.proofs.Kept.{joined_among}
use Rattle.part_machines.proofs.MadeRows.{once_among, zip_left, zip_right}
use Rattle.part_machines.proofs.Narrowed.{above_first, ascending_tail}
use Rattle.part_machines.proofs.Reached.{own_held}
use Rattle.part_machines.proofs.Specified.{decides_inside, decides_taken, deciding}

-- a row of the list comes from this block
pub record HasRowFrom (rows : List KissRow) (block : ℕ) : Type 0 where
  pub row : KissRow
  pub among : Contains rows row
  pub from : row.from ≡ block

among_tail : (a : ℕ) (leasts : List ℕ) → IsStrictlyIncreasing (a ∷ leasts) → (u : ℕ) → Contains leasts u → a < u
among_tail a leasts ascend u among =
    let above : a < get_or leasts among.0 0 = above_first a leasts ascend among.0 among.1 in
    let same : get_or leasts among.0 0 ≡ u = get_or_of leasts among.0 u among.1 among.2 in
    omega (arith, above, same)
  where
    get_or_of : (list : List ℕ) (k x : ℕ) → k < length list → get_or list k x ≡ x → get_or list k 0 ≡ x
    get_or_of [] k x within is = absurd (omega (arith, within))
    get_or_of (b ∷ list) zero x within is = is
    get_or_of (b ∷ list) (suc k) x within is = get_or_of list k x (omega (arith, within)) is

module _ (W : KissFile) (code : Codes) (p : List ℕ) (set : ReadSet) (which : Which) (inputs : All (λ a. a < W.inputs) set.inputs) (some : 0 < output_count W code which) where
  -- each cell has a row
  cell_has_row : (s : ℕ) → s < length p → (list : List KissRow) → AreCellRows W code p set which s list → HasRowFrom list (get_or p s 0)
  cell_has_row s within list own =
      let found =
      found_in_cell W code p set which inputs s (replicate W.inputs false) (own_values s) (length-replicate {A = Bool} W.inputs false) (own_held p code.words set.latches s within)
      (deciding which 0) (decides_inside W code which 0 some) (decides_taken W code which 0 some) list own in
      record { row = found.0; among = found.1.among; from = found.1.made.from }
    where
      own_values : ℕ → List Bool
      own_values t = values_of code.words set.latches t

  cell_from : (s : ℕ) (list : List KissRow) → AreCellRows W code p set which s list → (row : KissRow) → Contains list row → row.from ≡ get_or p s 0
  cell_from s list own row among =
      let in_all : Contains own.all row = once_among own.all row (subst (λ (rows : List KissRow). Contains rows row) own.once among) in
      (zip_right (IsPartRow W code p set which s own.field) (filter (is_taken W.outputs which) own.filled) own.all own.each row in_all).2.from

  -- the row at a place is of some cell, and cells of lesser states have rows before it
  pub record IsAfter (leasts : List ℕ) (rows : List KissRow) (k : ℕ) (row : KissRow) : Type 0 where
    pub s : ℕ
    pub among : Contains leasts s
    pub from : row.from ≡ get_or p s 0
    pub before : (u : ℕ) → Contains leasts u → u < s → HasRowFrom (take k rows) (get_or p u 0)

  after : (leasts : List ℕ) (lists : List (List KissRow)) → AllZip (AreCellRows W code p set which) leasts lists → IsStrictlyIncreasing leasts → All (λ s. s < length p) leasts
      → (k : ℕ) (row : KissRow) → slice_get (flat_map (λ l. l) lists) k ≡ Some row → IsAfter leasts (flat_map (λ l. l) lists) k row
  after [] [] each ascend low k row at = absurd (cc)
  after [] (list ∷ lists) each ascend low k row at = absurd each
  after (a ∷ leasts) [] each ascend low k row at = absurd each
  after (a ∷ leasts) (list ∷ lists) each ascend low k row at =
      let rest : List KissRow = flat_map (λ l. l) lists in
      elim (get_cases list rest k row at) [
        | inl here ↦ record {
          s = a;
          among = (0, omega arith, refl);
          from = cell_from a list each.0 row (k, slice_get_within list k row here, get_or_from_slice_get list k row row here);
          before = λ u among below.
              elim (Contains-cons a u leasts among) [
                | inl same ↦ absurd (omega (arith, same, below))
                | inr later ↦ absurd (omega (arith, among_tail a leasts ascend u later, below))
              ];
        }
        | inr behind ↦
            let tail : IsAfter leasts rest behind.0 row = after leasts lists each.1 (ascending_tail a leasts ascend) (low_tail a leasts low) behind.0 row behind.2 in
            let front : take k (list ++ rest) ≡ list ++ take behind.0 rest =
            ap (λ (n : ℕ). take n (list ++ rest)) behind.1 ∙ take-append-add list rest behind.0 in
            record {
              s = tail.s;
              among = Contains-there a tail.s leasts tail.among;
              from = tail.from;
              before = λ u among below.
                  subst (λ (rows : List KissRow). HasRowFrom rows (get_or p u 0)) (sym front)
                  (elim (Contains-cons a u leasts among) [
                    | inl same ↦
                        let own = cell_has_row a (low_head a leasts low) list each.0 in
                        record { row = own.row; among = Contains-append_left list (take behind.0 rest) own.row own.among; from = own.from ∙ ap (λ (n : ℕ). get_or p n 0) same }
                    | inr later ↦
                        let found = tail.before u later below in
                        record { row = found.row; among = Contains-append_right list (take behind.0 rest) found.row found.among; from = found.from }
                  ]);
            }
      ]
    where
      low_head : (b : ℕ) (list : List ℕ) → All (λ s. s < length p) (b ∷ list) → b < length p
      low_head b list = All-head (λ s. s < length p) b list

      low_tail : (b : ℕ) (list : List ℕ) → All (λ s. s < length p) (b ∷ list) → All (λ s. s < length p) list
      low_tail b list = All-tail (λ s. s < length p) b list

  module _ (P : KissFile) (are : ArePartRows W code p set which P.rows) (numbered : IsNumbered p) (count : length P.states ≡ blocks_of p) where
    cells_low : All (λ s. s < length p) are.leasts
    cells_low k d within = ((are.cells.each (get_or are.leasts k d)).0 (Contains-get_or are.leasts k d within)).state

    abbrev froms : List ℕ
    froms = map (λ row. row.from) P.rows

    abbrev goes : List ℕ
    goes = filter_map (λ row. row.to) P.rows

    -- before a row of a block come rows of all lesser blocks
    from_before : (k : ℕ) (row : KissRow) → slice_get P.rows k ≡ Some row → (s : ℕ) → s < row.from → HasRowFrom (take k P.rows) s
    from_before k row at s below =
        let here : IsAfter are.leasts (flat_map (λ l. l) are.lists) k row =
        after are.leasts are.lists are.each are.cells.ascend cells_low k row (subst (λ (rows : List KissRow). slice_get rows k ≡ Some row) are.joined at) in
        let in_p : here.s < length p = ((are.cells.each here.s).0 here.among).state in
        let low : s < blocks_of (take here.s p) = omega (arith, below, here.from, numbered here.s in_p) in
        let state = block_stands p numbered here.s (omega (arith, in_p)) s low in
        let cell = cell_has_least p code.words set.latches state.0 (omega (arith, state.1, in_p)) in
        let first : cell.0 < here.s =
        elim (cases_lt state.0 cell.0) [
          | inr not_over ↦ omega (arith, not_over, state.1)
          | inl over ↦ absurd (cell.1.least state.0 over ((cell.2.0.1, cell.2.0.0, sym cell.2.0.2), sym cell.2.1))
        ] in
        let found = here.before cell.0 ((are.cells.each cell.0).1 cell.1) first in
        record {
          row = found.row;
          among = subst (λ (rows : List KissRow). Contains (take k rows) found.row) (sym are.joined) found.among;
          from = found.from ∙ (cell.2.0.2 ∙ state.2);
        }

    -- each block has a row
    pub block_has_row : (s : ℕ) → s < blocks_of p → HasRowFrom P.rows s
    block_has_row s low =
        let whole : s < blocks_of (take (length p) p) = subst (λ (list : List ℕ). s < blocks_of list) (sym (take_all (length p) p (omega arith))) low in
        let state = block_stands p numbered (length p) (omega arith) s whole in
        let cell = cell_has_least p code.words set.latches state.0 state.1 in
        let list = zip_left (AreCellRows W code p set which) are.leasts are.lists are.each cell.0 ((are.cells.each cell.0).1 cell.1) in
        let found = cell_has_row cell.0 cell.1.state list.0 list.2 in
        record {
          row = found.row;
          among =
              subst (λ (rows : List KissRow). Contains rows found.row) (sym are.joined)
              (joined_among are.lists list.0 found.row list.1 found.among);
          from = found.from ∙ (cell.2.0.2 ∙ state.2);
        }

    block_among : (s : ℕ) → s < blocks_of p → Contains froms s
    block_among s low =
        let found = block_has_row s low in
        subst (Contains froms) found.from (Contains-map (λ (row : KissRow). row.from) P.rows found.row found.among)

    in_order : (lawful : All (IsLawfulRow P.inputs P.outputs (length P.states)) P.rows) (place s : ℕ) → place < length (appearances P) → s < get_or (appearances P) place 0 → Contains (take place (appearances P)) s
    in_order lawful place s within below =
        let there = item_at (appearances P) place within in
        let is : get_or (appearances P) place 0 ≡ there.0 = get_or_from_slice_get (appearances P) place there.0 0 there.1 in
        elim (get_cases froms goes place there.0 there.1) [
          | inl here ↦
              let row = from_map (λ (row : KissRow). row.from) P.rows place there.0 here in
              let found = from_before place row.0 row.1 s (omega (arith, below, is, row.2)) in
              let short : place ≤ length froms = omega (arith, slice_get_within froms place there.0 here) in
              let front : take place (appearances P) ≡ map (λ (row : KissRow). row.from) (take place P.rows) =
              take-append-le place froms goes short ∙ take-map (λ (row : KissRow). row.from) place P.rows in
              subst (λ (list : List ℕ). Contains list s) (sym front)
              (subst (Contains (map (λ (row : KissRow). row.from) (take place P.rows))) found.from (Contains-map (λ (row : KissRow). row.from) (take place P.rows) found.row found.among))
          | inr behind ↦
              let among : Contains goes there.0 = (behind.0, slice_get_within goes behind.0 there.0 behind.2, get_or_from_slice_get goes behind.0 there.0 there.0 behind.2) in
              let row = Contains-from_filter_map (λ (row : KissRow). row.to) P.rows there.0 among in
              let own : IsLawfulRow P.inputs P.outputs (length P.states) row.0 = All-contains (IsLawfulRow P.inputs P.outputs (length P.states)) P.rows row.0 lawful row.1 in
              let state : there.0 < length P.states = subst (λ (o : Option ℕ). IfSome o (λ t. t < length P.states)) row.2 own.to in
              let front : take place (appearances P) ≡ froms ++ take behind.0 goes =
              ap (λ (n : ℕ). take n (appearances P)) behind.1 ∙ take-append-add froms goes behind.0 in
              subst (λ (list : List ℕ). Contains list s) (sym front)
              (Contains-append_left froms (take behind.0 goes) s (block_among s (omega (arith, below, is, state, count))))
        ]

    pub are_numbered : All (IsLawfulRow P.inputs P.outputs (length P.states)) P.rows → AreNumbered P
    are_numbered lawful =
        record {
          each = λ s low. Contains-append_left froms goes s (block_among s (omega (arith, low, count)));
          in_order = in_order lawful;
        }
