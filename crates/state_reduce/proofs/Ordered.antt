-- Blocks whose least state has a row stand in order, and all blocks of alike states do.
use Rattle.std.proofs.Common.{◌≡◌, ◌≢◌, ℕ, zero, suc, ◌+◌, ◌<◌, ◌≤◌, ◌⊎◌, ◌++◌, ◌&&◌, inl, inr, Bool, true, false, cond, Some, List, [], ◌∷◌, Contains, filter, length, length-append, get_or, map, slice_get, take, refl, sym, ap, ◌∙◌, subst, add-one, arith}
use Rattle.std.specs.Prelude.{◌==◌}
use Rattle.std.specs.List.{filter_map, range_with_len}
use Rattle.std.proofs.lemmas.Bool.{cases_Bool, cases_eq, cases_lt, eq-eqb, eqb-true, false≢true, ne_eqb}
use Rattle.std.proofs.lemmas.List.{get_or-map, get_or_append_left, length-map, length_push, take-append-le, take-map, take_all}
use Rattle.std.proofs.lemmas.List.Elements.{All-contains, All-tail, Contains-get_or}
use Rattle.std.proofs.lemmas.Option.{get_or_from_slice_get, same_Some}
use Rattle.list_facts.specs.Laws.Members.{Contains-cons, Contains-filter, Contains-from_filter, Contains-from_map, Contains-here, Contains-map, Contains-none, Contains-there}
use Rattle.kiss_file.specs.declared.file.KissFile.{KissFile}
use Rattle.kiss_file.specs.declared.file.KissRow.{KissRow}
use Rattle.kiss_file.specs.LawfulFile.{AreNumbered, IsLawfulRow}
use Rattle.kiss_file.specs.Machine.{answers, given_bit, next, out, rows_at}
use Rattle.kiss_file.specs.Names.{AreDistinct, name_of}
use Rattle.kiss2.specs.Standing.{each_once}
use Rattle.kiss2.specs.Laws.Finding.{contained_test}
use Rattle.kiss2.specs.Laws.Once.{among, each_once-append}
use Rattle.machine_table.specs.Table.{IsTable}
use Rattle.partition.specs.Laws.Least.{least_of-same}
use Rattle.partition.specs.NestedBlocks.{least_of}
use Rattle.partition.specs.Partition.{IsPartition, blocks_of}
use Rattle.partition.specs.Laws.Labels.{block_stands, label-lt-blocks_of}
use Rattle.state_reduce.specs.AlikeStates.{Alike, IsEquivalence, IsWord}
use Rattle.state_reduce.specs.Inner.BlockNames.{AreAllNamed, currents_of, kept_of, nexts_of}
use Rattle.state_reduce.specs.Quotient.{AreBlocksInOrder, HasRow, IsQuotient, block_name, block_names, block_number}
use Rattle.state_reduce.proofs.Accepting.{block_at}
use Rattle.state_reduce.proofs.Appearing.{at_some_place, get_left, get_middle, once_front, place_at}
use Rattle.state_reduce.proofs.Lawfully.{all_names}
use Rattle.state_reduce.proofs.Names.{currents_none, currents_one, has_once, once_has}
use Rattle.state_reduce.proofs.Numbers.{block_one, least_again, least_below, least_label, number_has, number_same, number_within}

-- an item of a list
item_at : {X : Type 0} (xs : List X) (i : ℕ) → i < length xs → (x : X) × (x ≡ get_or xs i x)
item_at [] i within = absurd (omega arith)
item_at (x ∷ xs) zero within = (x, refl)
item_at (x ∷ xs) (suc i) within = item_at xs i (omega arith)

filter_none : {X : Type 0} (test : X → Bool) (xs : List X) → ((x : X) → Contains xs x → test x ≡ false) → filter test xs ≡ []
filter_none test [] fails = refl
filter_none test (x ∷ xs) fails =
    ap (λ b. cond b (x ∷ filter test xs) (filter test xs)) (fails x (Contains-here x xs)) ∙ filter_none test xs (λ y among. fails y (Contains-there x y xs among))

and_off : (a b : Bool) → a ≡ false → (a && b) ≡ false
and_off true b off = absurd (false≢true (sym off))
and_off false b off = refl

-- a state has a row, or none
row_or_none : (rows : List KissRow) (s : ℕ) → ((row : KissRow) × Contains rows row × (row.from ≡ s)) ⊎ ((row : KissRow) → Contains rows row → row.from ≢ s)
row_or_none [] s = inr (λ row among. absurd (Contains-none row among))
row_or_none (first ∷ rows) s =
    elim (cases_eq (first).from s) [
      | inl same ↦ inl (first, Contains-here first rows, same)
      | inr other ↦ elim (row_or_none rows s) [
        | inl found ↦ inl (found.0, Contains-there first found.0 rows found.1, found.2)
        | inr none ↦ inr (λ row among same. elim (Contains-cons first row rows among) [
          | inl here ↦ other (ap (λ (r : KissRow). r.from) here ∙ same)
          | inr later ↦ none row later same
        ])
      ]
    ]

-- ---- states without a row are alike
module _ (F : KissFile) where
  abbrev pub IsRowless : ℕ → Type 0
  IsRowless s = (row : KissRow) → Contains F.rows row → row.from ≢ s

  no_rows : (s : ℕ) (x : List Bool) → IsRowless s → rows_at F s x ≡ []
  no_rows s x none = filter_none _ F.rows (λ row among. and_off _ _ (ne_eqb row.from s (none row among)))

  stays : (s : ℕ) (x : List Bool) → IsRowless s → next F s x ≡ s
  stays s x none = ap (λ (rows : List KissRow). get_or (filter_map (λ (row : KissRow). row.to) rows) 0 s) (no_rows s x none)

  same_outputs : (s t : ℕ) (x : List Bool) → IsRowless s → IsRowless t → out F s x ≡ out F t x
  same_outputs s t x none_s none_t =
      ap (λ (rows : List KissRow). map (λ (b : ℕ). get_or (filter_map (given_bit b) rows) 0 false) (range_with_len 0 F.outputs)) (no_rows s x none_s ∙ sym (no_rows t x none_t))

  pub rowless_alike : (s t : ℕ) → IsRowless s → IsRowless t → Alike F s t
  rowless_alike s t none_s none_t [] is = refl
  rowless_alike s t none_s none_t (x ∷ word) is =
      let rest : IsWord F.inputs word = All-tail (λ y. length y ≡ F.inputs) x word is in
      ap (λ o. o ∷ answers F (next F s x) word) (same_outputs s t x none_s none_t)
      ∙ ap (λ u. out F t x ∷ answers F u word) (stays s x none_s)
      ∙ ap (λ later. out F t x ∷ later) (rowless_alike s t none_s none_t word rest)
      ∙ sym (ap (λ u. out F t x ∷ answers F u word) (stays t x none_t))

module _ (F : KissFile) (p : List ℕ) (table : IsTable F) (distinct : AreDistinct F.states) (numbered : AreNumbered F) (lawful : IsPartition (length F.states) p) where
  lawful_row : (row : KissRow) → Contains F.rows row → IsLawfulRow F.inputs F.outputs (length F.states) row
  lawful_row row among = All-contains (IsLawfulRow F.inputs F.outputs (length F.states)) F.rows row table.rows among

  in_p : (s : ℕ) → s < length F.states → s < length p
  in_p s inside = omega (arith, lawful.length)

  -- one least state has a name
  one_least : (a b : ℕ) → a < length F.states → b < length F.states → least_of p a ≡ a → least_of p b ≡ b → block_name F p a ≡ block_name F p b → a ≡ b
  one_least a b in_a in_b least_a least_b same = sym least_a ∙ block_one F p distinct a b in_a in_b same ∙ least_b

  -- the names on the first rows
  abbrev named_so_far : ℕ → List (List ℕ)
  named_so_far i = each_once (currents_of F p (take i F.rows))

  -- a least state of a block
  record IsLeast (a : ℕ) : Type 0 where
    inside : a < length F.states
    least : least_of p a ≡ a

  -- at the place of each label stands the name of its block
  abbrev AreLabelled : List (List ℕ) → Type 0
  AreLabelled names = (j : ℕ) → j < length names → (a : ℕ) × IsLeast a × (slice_get names j ≡ Some (block_name F p a)) × (get_or p a 0 ≡ j)

  -- the least state that has a label below that of another
  below_label : (a label : ℕ) → a < length F.states → label < get_or p a 0 → (v : ℕ) × IsLeast v × (v < a) × (get_or p v 0 ≡ label)
  below_label a label in_a lower =
      let at : a < length p = in_p a in_a in
      let low : get_or p a 0 ≤ blocks_of (take a p) = lawful.numbered a at in
      let stands = block_stands p lawful.numbered a (omega arith) label (omega arith) in
      let inside : stands.0 < length p = omega (arith, stands.1) in
      let least_low : least_of p stands.0 ≤ stands.0 = least_below p stands.0 inside in (
        least_of p stands.0,
        record { inside = omega (arith, least_low, stands.1); least = least_again p stands.0 inside },
        omega (arith, least_low, stands.1),
        least_label p stands.0 inside ∙ stands.2,
      )

  -- a least state has its place among labelled names, if its name is there
  label_of_name : (names : List (List ℕ)) → AreLabelled names → (a : ℕ) → IsLeast a → Contains names (block_name F p a)
      → (get_or p a 0 < length names) × (slice_get names (get_or p a 0) ≡ Some (block_name F p a))
  label_of_name names labelled a least there =
      let known = at_some_place names (block_name F p a) there in
      let at = labelled known.0 known.1 in
      let same : at.0 ≡ a = one_least at.0 a (at.1).inside least.inside (at.1).least least.least
      (same_Some (block_name F p at.0) (block_name F p a) (sym at.2 ∙ known.2)) in
      let label : get_or p a 0 ≡ known.0 = ap (λ (u : ℕ). get_or p u 0) (sym same) ∙ at.3 in
      (omega (arith, known.1, label), ap (slice_get names) label ∙ known.2)

  name_of_label : (names : List (List ℕ)) → AreLabelled names → (a : ℕ) → IsLeast a → get_or p a 0 < length names → Contains names (block_name F p a)
  name_of_label names labelled a least lower =
      let at = labelled (get_or p a 0) lower in
      let same : at.0 ≡ a = sym (at.1).least ∙ least_of-same p at.0 a at.3 ∙ least.least in (
        get_or p a 0,
        lower,
        get_or_from_slice_get names (get_or p a 0) (block_name F p a) (block_name F p a) (at.2 ∙ ap (λ (u : ℕ). Some (block_name F p u)) same),
      )

  -- the states of the first rows come before that of a row with a greater state
  row_before : (i : ℕ) (row : KissRow) → i < length F.rows → row ≡ get_or F.rows i row → (v : ℕ) → v < row.from → (other : KissRow) × Contains (take i F.rows) other × (other.from ≡ v)
  row_before i row within here v before =
      let froms : List ℕ = map (λ (r : KissRow). r.from) F.rows in
      let tos : List ℕ = filter_map (λ (r : KissRow). r.to) F.rows in
      let count : length froms ≡ length F.rows = length-map F.rows (λ (r : KissRow). r.from) in
      let all : length (froms ++ tos) ≡ length froms + length tos = length-append froms tos in
      let stands : get_or (froms ++ tos) i 0 ≡ row.from =
      get_or_append_left froms tos 0 i (omega arith) ∙ get_or-map (λ (r : KissRow). r.from) F.rows i row 0 within ∙ ap (λ (r : KissRow). r.from) (sym here) in
      let seen : Contains (take i (froms ++ tos)) v = numbered.in_order i v (omega arith) (omega arith) in
      Contains-from_map (λ (r : KissRow). r.from) (take i F.rows) v
      (subst (λ (xs : List ℕ). Contains xs v) (take-append-le i froms tos (omega arith) ∙ take-map (λ (r : KissRow). r.from) i F.rows) seen)

  -- rows of a least state name its block
  named_by : (rows : List KissRow) (row : KissRow) → Contains rows row → least_of p row.from ≡ row.from → Contains (currents_of F p rows) (block_name F p row.from)
  named_by rows row among least =
      Contains-map (λ (r : KissRow). block_name F p r.from) (kept_of p rows) row
      (Contains-filter (λ (r : KissRow). least_of p r.from == r.from) rows row among (eq-eqb (least_of p row.from) row.from least))

  -- the label of the next new least state is the number of names so far
  next_label : (i : ℕ) (row : KissRow) → i < length F.rows → row ≡ get_or F.rows i row → IsLeast row.from → AreLabelled (named_so_far i)
      → (Contains (named_so_far i) (block_name F p row.from) → ⊥) → get_or p row.from 0 ≡ length (named_so_far i)
  next_label i row within here least labelled absent =
      elim (cases_lt (get_or p row.from 0) (length (named_so_far i))) [
        | inl low ↦ absurd (absent (name_of_label (named_so_far i) labelled row.from least low))
        | inr high ↦ elim (cases_lt (length (named_so_far i)) (get_or p row.from 0)) [
          | inl lower ↦
              let v = below_label row.from (length (named_so_far i)) least.inside lower in
              let earlier = row_before i row within here v.0 v.2 in
              let least_earlier : least_of p (earlier.0).from ≡ (earlier.0).from = ap (least_of p) earlier.2 ∙ (v.1).least ∙ sym earlier.2 in
              let there : Contains (named_so_far i) (block_name F p v.0) =
              once_has (currents_of F p (take i F.rows)) (block_name F p v.0)
              (subst (λ (u : ℕ). Contains (currents_of F p (take i F.rows)) (block_name F p u)) earlier.2 (named_by (take i F.rows) earlier.0 earlier.1 least_earlier)) in
              let low = (label_of_name (named_so_far i) labelled v.0 v.1 there).0 in
              absurd (omega (arith, low, v.3))
          | inr not_above ↦ omega arith
        ]
      ]

  labelled_more : (i : ℕ) → i < length F.rows → AreLabelled (named_so_far i) → AreLabelled (named_so_far (i + 1))
  labelled_more i within labelled =
      let item = item_at F.rows i within in
      let row : KissRow = item.0 in
      let among_rows : Contains F.rows row = (i, within, sym item.1) in
      elim (cases_Bool (least_of p row.from == row.from)) [
        | inr gone ↦ subst AreLabelled (ap each_once (sym (currents_none F p F.rows i row within item.1 gone))) labelled
        | inl kept ↦
            let least : IsLeast row.from = record { inside = (lawful_row row among_rows).from; least = eqb-true (least_of p row.from) row.from kept } in
            let more : named_so_far (i + 1) ≡ cond (among (block_name F p row.from) (named_so_far i)) (named_so_far i) (named_so_far i ++ block_name F p row.from ∷ []) =
            ap each_once (currents_one F p F.rows i row within item.1 kept) ∙ each_once-append (currents_of F p (take i F.rows)) (block_name F p row.from ∷ []) in
            elim (cases_Bool (among (block_name F p row.from) (named_so_far i))) [
              | inl there ↦ subst AreLabelled (sym (more ∙ ap (λ t. cond t (named_so_far i) (named_so_far i ++ block_name F p row.from ∷ [])) there)) labelled
              | inr absent ↦
                  subst AreLabelled (sym (more ∙ ap (λ t. cond t (named_so_far i) (named_so_far i ++ block_name F p row.from ∷ [])) absent))
                  (added (named_so_far i) row.from least labelled
                  (next_label i row within item.1 least labelled (λ there. false≢true (sym absent ∙ contained_test (named_so_far i) (block_name F p row.from) there))))
            ]
      ]
    where
      added : (names : List (List ℕ)) (a : ℕ) → IsLeast a → AreLabelled names → get_or p a 0 ≡ length names → AreLabelled (names ++ block_name F p a ∷ [])
      added names a least labelled label j inside =
          elim (cases_eq j (length names)) [
            | inl last ↦ (a, least, ap (slice_get (names ++ block_name F p a ∷ [])) last ∙ get_middle names (block_name F p a) [], label ∙ sym last)
            | inr other ↦
                let low : j < length names = omega (arith, length_push names (block_name F p a)) in
                let old = labelled j low in
                (old.0, old.1, get_left names (block_name F p a ∷ []) j low ∙ old.2, old.3)
          ]

  labelled_upto : (i : ℕ) → i ≤ length F.rows → AreLabelled (named_so_far i)
  labelled_upto zero within = none
    where
      none : AreLabelled (each_once [])
      none j inside = absurd (has_nothing inside)
        where
          has_nothing : {k : ℕ} → k < length (each_once []) → ⊥
          has_nothing {k} below = Contains-none (get_or (each_once []) k []) (has_once [] _ (Contains-get_or (each_once []) k [] below))
  labelled_upto (suc i) within = subst (λ (k : ℕ). AreLabelled (named_so_far k)) (add-one i) (labelled_more i (omega arith) (labelled_upto i (omega arith)))

  -- the names of current states, all rows together
  abbrev current_names : List (List ℕ)
  current_names = each_once (currents_of F p F.rows)

  labelled : AreLabelled current_names
  labelled =
      subst (λ (rows : List KissRow). AreLabelled (each_once (currents_of F p rows))) (take_all (length F.rows) F.rows (omega arith))
      (labelled_upto (length F.rows) (omega arith))

  -- they stand first among all
  front : (rest : List (List ℕ)) × (block_names F p ≡ current_names ++ rest)
  front =
      let more = once_front current_names (nexts_of F p F.rows) in
      (more.0, each_once-append (currents_of F p F.rows) (nexts_of F p F.rows) ∙ more.1)

  number_in_front : (s : ℕ) → Contains current_names (block_name F p s) → s < length F.states → (block_number F p s ≡ get_or p s 0) × (block_number F p s < length current_names)
  number_in_front s there inside =
      let at : s < length p = in_p s inside in
      let low : least_of p s ≤ s = least_below p s at in
      let least : IsLeast (least_of p s) = record { inside = omega arith; least = least_again p s at } in
      let same_name : block_name F p (least_of p s) ≡ block_name F p s = ap (name_of F.states) (least_again p s at) in
      let found = label_of_name current_names labelled (least_of p s) least (subst (Contains current_names) (sym same_name) there) in
      let label : get_or p (least_of p s) 0 ≡ get_or p s 0 = least_label p s at in
      let here : slice_get (block_names F p) (get_or p s 0) ≡ Some (block_name F p s) =
      ap (λ (names : List (List ℕ)). slice_get names (get_or p s 0)) (front).1 ∙ get_left current_names (front).0 (get_or p s 0) (omega (arith, found.0, label))
      ∙ ap (slice_get current_names) (sym label) ∙ found.1 ∙ ap (λ (n : List ℕ). Some n) same_name in
      let number : block_number F p s ≡ get_or p s 0 = place_at (all_names F p) (block_name F p s) (get_or p s 0) here in
      (number, omega (arith, number, found.0, label))

  current_there : (a : ℕ) → IsLeast a → HasRow F a → Contains current_names (block_name F p a)
  current_there a least (row, among_rows, from) =
      once_has (currents_of F p F.rows) (block_name F p a)
      (subst (λ (u : ℕ). Contains (currents_of F p F.rows) (block_name F p u)) from
      (named_by F.rows row among_rows (ap (least_of p) from ∙ least.least ∙ sym from)))

  -- blocks whose least state has a row
  pub with_row_in_order : (s : ℕ) → s < length F.states → HasRow F (least_of p s) → block_number F p s ≡ get_or p s 0
  with_row_in_order s inside has =
      let at : s < length p = in_p s inside in
      let low : least_of p s ≤ s = least_below p s at in
      let least : IsLeast (least_of p s) = record { inside = omega arith; least = least_again p s at } in
      (number_in_front s (subst (Contains current_names) (ap (name_of F.states) (least_again p s at)) (current_there (least_of p s) least has)) inside).0

  module _ (Q : KissFile) (made : IsQuotient F p Q) (named : AreAllNamed F p) (alike_blocks : IsEquivalence F p) where
    -- there is one block at most whose least state has no row
    one_without : (a b : ℕ) → IsLeast a → IsLeast b → IsRowless F a → IsRowless F b → a ≡ b
    one_without a b least_a least_b none_a none_b =
        let held = (alike_blocks.together a b least_a.inside least_b.inside).1 (rowless_alike F a b none_a none_b) in
        sym least_a.least ∙ least_of-same p a b held.2 ∙ least_b.least

    not_current : (a : ℕ) → IsLeast a → IsRowless F a → Contains current_names (block_name F p a) → ⊥
    not_current a least none there =
        let found = Contains-from_map (λ (row : KissRow). block_name F p row.from) (kept_of p F.rows) (block_name F p a) (has_once (currents_of F p F.rows) (block_name F p a) there) in
        let kept = Contains-from_filter (λ (row : KissRow). least_of p row.from == row.from) F.rows found.0 found.1 in
        none found.0 kept.0
        (one_least (found.0).from a (lawful_row found.0 kept.0).from least.inside (eqb-true (least_of p (found.0).from) (found.0).from kept.1) least.least found.2)

    number_high : (a : ℕ) → IsLeast a → IsRowless F a → length current_names ≤ block_number F p a
    number_high a least none =
        elim (cases_lt (block_number F p a) (length current_names)) [
          | inl low ↦
              let here : slice_get current_names (block_number F p a) ≡ Some (block_name F p a) =
              sym (get_left current_names (front).0 (block_number F p a) low) ∙ ap (λ (names : List (List ℕ)). slice_get names (block_number F p a)) (sym (front).1)
              ∙ number_has F p distinct named a least.inside in
              absurd (not_current a least none (block_number F p a, low, get_or_from_slice_get current_names (block_number F p a) (block_name F p a) (block_name F p a) here))
          | inr high ↦ high
        ]

    number_low : (a : ℕ) → IsLeast a → IsRowless F a → block_number F p a ≤ length current_names
    number_low a least none =
        elim (cases_lt (length current_names) (block_number F p a)) [
          | inl above ↦
              let within : block_number F p a < length (block_names F p) = number_within F p distinct named a least.inside in
              let behind = block_at F p Q made distinct lawful.length table named (length current_names) (omega arith) in
              let least_behind : IsLeast behind.0 = record { inside = behind.1; least = behind.2 } in
              elim (row_or_none F.rows behind.0) [
                | inl has ↦ absurd (omega (arith, (number_in_front behind.0 (current_there behind.0 least_behind has) behind.1).1, behind.3))
                | inr none_behind ↦
                    let same : behind.0 ≡ a = one_without behind.0 a least_behind least none_behind none in
                    absurd (omega (arith, ap (block_number F p) same, behind.3))
              ]
          | inr low ↦ low
        ]

    label_high : (a : ℕ) → IsLeast a → IsRowless F a → length current_names ≤ get_or p a 0
    label_high a least none =
        elim (cases_lt (get_or p a 0) (length current_names)) [
          | inl low ↦ absurd (not_current a least none (name_of_label current_names labelled a least low))
          | inr high ↦ high
        ]

    label_low : (a : ℕ) → IsLeast a → IsRowless F a → get_or p a 0 ≤ length current_names
    label_low a least none =
        elim (cases_lt (length current_names) (get_or p a 0)) [
          | inl above ↦
              let v = below_label a (length current_names) least.inside above in
              elim (row_or_none F.rows v.0) [
                | inl has ↦ absurd (omega (arith, (label_of_name current_names labelled v.0 v.1 (current_there v.0 v.1 has)).0, v.3))
                | inr none_v ↦ absurd (omega (arith, one_without v.0 a v.1 least none_v none, v.2))
              ]
          | inr low ↦ low
        ]

    -- the blocks of alike states stand in order
    pub all_in_order : (s : ℕ) → s < length F.states → block_number F p s ≡ get_or p s 0
    all_in_order s inside =
        let at : s < length p = in_p s inside in
        let low : least_of p s ≤ s = least_below p s at in
        let least : IsLeast (least_of p s) = record { inside = omega arith; least = least_again p s at } in
        elim (row_or_none F.rows (least_of p s)) [
          | inl has ↦ with_row_in_order s inside has
          | inr none ↦
              let high : length current_names ≤ block_number F p (least_of p s) = number_high (least_of p s) least none in
              let not_more : block_number F p (least_of p s) ≤ length current_names = number_low (least_of p s) least none in
              let label : length current_names ≤ get_or p (least_of p s) 0 = label_high (least_of p s) least none in
              let label_too : get_or p (least_of p s) 0 ≤ length current_names = label_low (least_of p s) least none in
              let equal : block_number F p (least_of p s) ≡ get_or p (least_of p s) 0 = omega arith in
              number_same F p s (least_of p s) (sym (least_again p s at)) ∙ equal ∙ least_label p s at
        ]

    -- there are as many states as blocks
    pub blocks_in_order : AreBlocksInOrder F p Q
    blocks_in_order = record { count = ap length made.states ∙ count; numbers = all_in_order }
      where
        count : length (block_names F p) ≡ blocks_of p
        count =
            elim (cases_lt (length (block_names F p)) (blocks_of p)) [
              | inl fewer ↦
                  let stands = block_stands p lawful.numbered (length p) (omega arith) (length (block_names F p)) (omega (arith, ap blocks_of (take_all (length p) p (omega arith)))) in
                  let inside : stands.0 < length F.states = omega (arith, stands.1, lawful.length) in
                  absurd (omega (arith, number_within F p distinct named stands.0 inside, all_in_order stands.0 inside, stands.2))
              | inr enough ↦ elim (cases_lt (blocks_of p) (length (block_names F p))) [
                | inl more ↦
                    let behind = block_at F p Q made distinct lawful.length table named (blocks_of p) more in
                    absurd (omega (arith, label-lt-blocks_of p behind.0 (in_p behind.0 behind.1), all_in_order behind.0 behind.1, behind.3))
                | inr not_more ↦ omega arith
              ]
            ]
