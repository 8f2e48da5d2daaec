-- Names of blocks, and their numbers.
use Rattle.std.proofs.Common.{◌≡◌, ℕ, ◌+◌, ◌<◌, ◌≤◌, inl, inr, true, false, cond, Option, Some, None, List, [], ◌∷◌, ◌++◌, Contains, All, IfSome, length, get_or, slice_get, map, take, refl, sym, ap, ◌∙◌, subst, arith, append-nil}
use Rattle.std.specs.Prelude.{◌==◌}
use Rattle.std.specs.List.{cons_option, filter_map, position_or_len}
use Rattle.std.specs.Str.{bytes_eq}
use Rattle.std.proofs.lemmas.Bool.{cases_Bool, false_from_ne_true, false≢true}
use Rattle.std.proofs.lemmas.List.Elements.{All-append, All-contains, All-filter, All-map, All-take, All-weaker, Contains-get_or, filter_map-append, filter_more}
use Rattle.std.proofs.lemmas.List.{map-append}
use Rattle.std.proofs.lemmas.List.Sums.{position_or_len_is}
use Rattle.std.proofs.lemmas.Option.{get_or_from_slice_get, slice_get_within}
use Rattle.std.proofs.lemmas.Slice.Eq.{bytes_eq-Decides}
use Rattle.list_facts.specs.Laws.Everywhere.{all_given}
use Rattle.kiss_file.specs.declared.file.KissFile.{KissFile}
use Rattle.kiss_file.specs.declared.file.KissRow.{KissRow}
use Rattle.kiss_file.specs.LawfulFile.{IsLawfulRow}
use Rattle.kiss_file.specs.Names.{AreDistinct}
use Rattle.kiss2.specs.Standing.{each_once}
use Rattle.kiss2.specs.Laws.Finding.{contained_from_test, contained_test}
use Rattle.kiss2.specs.Laws.Once.{among, among-each_once, each_once-append, no_more, once-each_once}
use Rattle.machine_table.specs.Table.{IsTable}
use Rattle.partition.specs.Laws.Least.{least_of-le}
use Rattle.partition.specs.NestedBlocks.{least_of}
use Rattle.state_reduce.specs.Inner.BlockNames.{currents_of, kept_of, nexts_of}
use Rattle.state_reduce.specs.Quotient.{block_name, block_names}

-- a name, each once, is one of the names
pub once_has : (names : List (List ℕ)) (name : List ℕ) → Contains names name → Contains (each_once names) name
once_has names name there = contained_from_test (each_once names) name (among-each_once name names ∙ contained_test names name there)

pub has_once : (names : List (List ℕ)) (name : List ℕ) → Contains (each_once names) name → Contains names name
has_once names name there = contained_from_test names name (sym (among-each_once name names) ∙ contained_test (each_once names) name there)

-- one name more
pub put_once : (names : List (List ℕ)) (name : List ℕ) (new : List (List ℕ)) → (Contains (each_once names) name → new ≡ each_once names)
    → ((Contains (each_once names) name → ⊥) → new ≡ each_once names ++ name ∷ []) → new ≡ each_once (names ++ name ∷ [])
put_once names name new known last =
    elim (cases_Bool (among name (each_once names))) [
      | inl there ↦ known (contained_from_test (each_once names) name there) ∙ sym (ap (λ t. cond t (each_once names) (each_once names ++ name ∷ [])) there) ∙ sym (each_once-append names (name ∷ []))
      | inr absent ↦ last (λ there. absurd (false≢true (sym absent ∙ contained_test (each_once names) name there)))
          ∙ sym (ap (λ t. cond t (each_once names) (each_once names ++ name ∷ [])) absent) ∙ sym (each_once-append names (name ∷ []))
    ]

-- names of a list, each once, are no more than it has
pub no_more_than : (names others : List (List ℕ)) → All (Contains others) names → length (each_once names) ≤ length others
no_more_than names others known =
    no_more (each_once names) others (once-each_once names)
    (λ name there. contained_test others name (All-contains (Contains others) names name known (has_once names name (contained_from_test (each_once names) name there))))

module _ (F : KissFile) (p : List ℕ) where
  -- a block has the name of a state
  pub block_known : (s : ℕ) → s < length F.states → Contains F.states (block_name F p s)
  block_known s within = Contains-get_or F.states (least_of p s) [] (omega (arith, least_of-le p s s refl))

  pub currents_known : (rows : List KissRow) → All (IsLawfulRow F.inputs F.outputs (length F.states)) rows → All (Contains F.states) (currents_of F p rows)
  currents_known rows lawful =
      All-map (Contains F.states) (λ (row : KissRow). block_name F p row.from) (kept_of p rows)
      (All-filter _ (λ (row : KissRow). Contains F.states (block_name F p row.from)) rows
      (All-weaker (IsLawfulRow F.inputs F.outputs (length F.states)) (λ (row : KissRow). Contains F.states (block_name F p row.from)) (λ row it. block_known row.from it.from) rows lawful))

  pub nexts_known : (rows : List KissRow) → All (IsLawfulRow F.inputs F.outputs (length F.states)) rows → All (Contains F.states) (nexts_of F p rows)
  nexts_known rows lawful =
      All-map (Contains F.states) (block_name F p) _
      (All-weaker (λ t. t < length F.states) (λ t. Contains F.states (block_name F p t)) block_known _
      (all_given (λ t. t < length F.states) (λ (row : KissRow). row.to) (kept_of p rows)
      (All-filter _ (λ (row : KissRow). IfSome row.to (λ t. t < length F.states)) rows
      (All-weaker (IsLawfulRow F.inputs F.outputs (length F.states)) (λ (row : KissRow). IfSome row.to (λ t. t < length F.states)) (λ row it. it.to) rows lawful))))

  -- the names of the blocks on the first rows are few
  pub few_currents : IsTable F → (rows : List KissRow) (i : ℕ) (states : List (List ℕ)) → rows ≡ F.rows → states ≡ each_once (currents_of F p (take i rows)) → length states < 65535
  few_currents table rows i states all are =
      let lawful : All (IsLawfulRow F.inputs F.outputs (length F.states)) rows = subst (All (IsLawfulRow F.inputs F.outputs (length F.states))) (sym all) table.rows in
      let few : length (each_once (currents_of F p (take i rows))) ≤ length F.states =
      no_more_than (currents_of F p (take i rows)) F.states (currents_known (take i rows) (All-take (IsLawfulRow F.inputs F.outputs (length F.states)) i rows lawful)) in
      omega (arith, few, ap length are, table.states)

  pub few_nexts : IsTable F → (rows : List KissRow) (i : ℕ) (states : List (List ℕ)) → rows ≡ F.rows → states ≡ each_once (currents_of F p F.rows ++ nexts_of F p (take i rows)) → length states < 65535
  few_nexts table rows i states all are =
      let lawful : All (IsLawfulRow F.inputs F.outputs (length F.states)) rows = subst (All (IsLawfulRow F.inputs F.outputs (length F.states))) (sym all) table.rows in
      let few : length (each_once (currents_of F p F.rows ++ nexts_of F p (take i rows))) ≤ length F.states =
      no_more_than (currents_of F p F.rows ++ nexts_of F p (take i rows)) F.states
      (All-append (Contains F.states) (currents_of F p F.rows) (nexts_of F p (take i rows)) (currents_known F.rows table.rows)
      (nexts_known (take i rows) (All-take (IsLawfulRow F.inputs F.outputs (length F.states)) i rows lawful))) in
      omega (arith, few, ap length are, table.states)

  pub few_blocks : IsTable F → length (block_names F p) ≤ 256
  few_blocks table =
      let few : length (block_names F p) ≤ length F.states =
      no_more_than (currents_of F p F.rows ++ nexts_of F p F.rows) F.states
      (All-append (Contains F.states) (currents_of F p F.rows) (nexts_of F p F.rows) (currents_known F.rows table.rows) (nexts_known F.rows table.rows)) in
      omega (arith, few, table.states)

  -- a row more
  kept_more : (rows : List KissRow) (i : ℕ) (row : KissRow) → i < length rows → row ≡ get_or rows i row
      → kept_of p (take (i + 1) rows) ≡ kept_of p (take i rows) ++ cond (least_of p row.from == row.from) (row ∷ []) []
  kept_more rows i row within here =
      filter_more (λ (r : KissRow). least_of p r.from == r.from) rows i row within
      ∙ ap (λ (r : KissRow). kept_of p (take i rows) ++ cond (least_of p r.from == r.from) (r ∷ []) []) (sym here)

  pub kept_one : (rows : List KissRow) (i : ℕ) (row : KissRow) → i < length rows → row ≡ get_or rows i row → (least_of p row.from == row.from) ≡ true
      → kept_of p (take (i + 1) rows) ≡ kept_of p (take i rows) ++ row ∷ []
  kept_one rows i row within here kept = kept_more rows i row within here ∙ ap (λ b. kept_of p (take i rows) ++ cond b (row ∷ []) []) kept

  pub kept_none : (rows : List KissRow) (i : ℕ) (row : KissRow) → i < length rows → row ≡ get_or rows i row → (least_of p row.from == row.from) ≡ false
      → kept_of p (take (i + 1) rows) ≡ kept_of p (take i rows)
  kept_none rows i row within here gone =
      kept_more rows i row within here ∙ ap (λ b. kept_of p (take i rows) ++ cond b (row ∷ []) []) gone ∙ append-nil (kept_of p (take i rows))

  pub currents_one : (rows : List KissRow) (i : ℕ) (row : KissRow) → i < length rows → row ≡ get_or rows i row → (least_of p row.from == row.from) ≡ true
      → currents_of F p (take (i + 1) rows) ≡ currents_of F p (take i rows) ++ block_name F p row.from ∷ []
  currents_one rows i row within here kept =
      ap (map (λ (r : KissRow). block_name F p r.from)) (kept_one rows i row within here kept)
      ∙ map-append (λ (r : KissRow). block_name F p r.from) (kept_of p (take i rows)) (row ∷ [])

  pub currents_none : (rows : List KissRow) (i : ℕ) (row : KissRow) → i < length rows → row ≡ get_or rows i row → (least_of p row.from == row.from) ≡ false
      → currents_of F p (take (i + 1) rows) ≡ currents_of F p (take i rows)
  currents_none rows i row within here gone = ap (map (λ (r : KissRow). block_name F p r.from)) (kept_none rows i row within here gone)

  -- what a row more names
  nexts_more : (rows : List KissRow) (i : ℕ) (row : KissRow) → i < length rows → row ≡ get_or rows i row → (least_of p row.from == row.from) ≡ true
      → nexts_of F p (take (i + 1) rows) ≡ nexts_of F p (take i rows) ++ map (block_name F p) (cons_option row.to [])
  nexts_more rows i row within here kept =
      ap (λ rs. map (block_name F p) (filter_map (λ (r : KissRow). r.to) rs)) (kept_one rows i row within here kept)
      ∙ ap (map (block_name F p)) (filter_map-append (λ (r : KissRow). r.to) (kept_of p (take i rows)) (row ∷ []))
      ∙ map-append (block_name F p) (filter_map (λ (r : KissRow). r.to) (kept_of p (take i rows))) (cons_option row.to [])

  pub nexts_one : (rows : List KissRow) (i : ℕ) (row : KissRow) (t : ℕ) → i < length rows → row ≡ get_or rows i row → (least_of p row.from == row.from) ≡ true → row.to ≡ Some t
      → nexts_of F p (take (i + 1) rows) ≡ nexts_of F p (take i rows) ++ block_name F p t ∷ []
  nexts_one rows i row t within here kept says =
      nexts_more rows i row within here kept ∙ ap (λ o. nexts_of F p (take i rows) ++ map (block_name F p) (cons_option o [])) says

  pub nexts_open : (rows : List KissRow) (i : ℕ) (row : KissRow) → i < length rows → row ≡ get_or rows i row → (least_of p row.from == row.from) ≡ true → row.to ≡ None
      → nexts_of F p (take (i + 1) rows) ≡ nexts_of F p (take i rows)
  nexts_open rows i row within here kept says =
      nexts_more rows i row within here kept ∙ ap (λ o. nexts_of F p (take i rows) ++ map (block_name F p) (cons_option o [])) says ∙ append-nil (nexts_of F p (take i rows))

  pub nexts_none : (rows : List KissRow) (i : ℕ) (row : KissRow) → i < length rows → row ≡ get_or rows i row → (least_of p row.from == row.from) ≡ false
      → nexts_of F p (take (i + 1) rows) ≡ nexts_of F p (take i rows)
  nexts_none rows i row within here gone = ap (λ rs. map (block_name F p) (filter_map (λ (r : KissRow). r.to) rs)) (kept_none rows i row within here gone)

-- the place of a name among names of which none stands twice
pub place_is : (names : List (List ℕ)) (name : List ℕ) (k : ℕ) → AreDistinct names → slice_get names k ≡ Some name → position_or_len (bytes_eq name) names ≡ k
place_is names name k distinct here =
    let within = slice_get_within names k name here in
    let at : get_or names k [] ≡ name = get_or_from_slice_get names k name [] here in
    position_or_len_is (bytes_eq name) names k [] (omega arith)
    (λ i before. false_from_ne_true (bytes_eq name (get_or names i [])) (λ is. distinct i k [] before within (sym ((bytes_eq-Decides name (get_or names i [])).0 is) ∙ sym at)))
    (λ inside. (bytes_eq-Decides name (get_or names k [])).1 (sym at))

-- a row with other states
pub row_made : (row : KissRow) (from from' : ℕ) (to to' : Option ℕ) → from ≡ from' → to ≡ to'
    → ◌≡◌ {A = KissRow} (record { cube = row.cube; from = from; to = to; care = row.care; value = row.value }) (record row { from = from'; to = to' })
row_made row from from' to to' one two =
    ap (λ (f : ℕ). let made : KissRow = record { cube = row.cube; from = f; to = to; care = row.care; value = row.value } in made) one
    ∙ ap (λ (t : Option ℕ). let made : KissRow = record { cube = row.cube; from = from'; to = t; care = row.care; value = row.value } in made) two

-- one name more, beside names that are there
pub put_more : (names : List (List ℕ)) (name : List ℕ) (old new : List (List ℕ)) → old ≡ each_once names → (Contains old name → new ≡ old)
    → ((Contains old name → ⊥) → new ≡ old ++ name ∷ []) → new ≡ each_once (names ++ name ∷ [])
put_more names name old new are known last =
    put_once names name new (λ there. known (subst (λ ns. Contains ns name) (sym are) there) ∙ are)
    (λ absent. last (λ there. absent (subst (λ ns. Contains ns name) are there)) ∙ ap (λ ns. ns ++ name ∷ []) are)

-- the name at the least state of a block is that of the block
pub name_read : (F : KissFile) (p : List ℕ) (s from least : ℕ) (name : List ℕ) → slice_get F.states least ≡ Some name → least ≡ least_of p from → from ≡ s → name ≡ block_name F p s
name_read F p s from least name here is same =
    sym (get_or_from_slice_get F.states least name [] here) ∙ ap (λ (k : ℕ). get_or F.states k []) (is ∙ ap (least_of p) same)
