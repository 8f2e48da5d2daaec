-- The rows of the cells, one cell more at a time.
use Rattle.std.proofs.Common.{◌≡◌, ◌∙◌, ℕ, ◌+◌, ◌<◌, Bool, false, true, List, [], ◌∷◌, ◌++◌, All, filter, get_or, length, map, take, refl, sym, ap, subst}
use Rattle.std.proofs.lemmas.List.{append-nil, map-append, take_more}
use Rattle.std.proofs.lemmas.List.Elements.{filter-append}
use Rattle.std.proofs.lemmas.Grind.{flat_map-append}
use Rattle.std.specs.List.{AllZip, flat_map}
use Rattle.indexmap.proofs.SetLemmas.{AllZip-push}
use Rattle.kiss_file.specs.declared.file.KissFile.{KissFile}
use Rattle.kiss_file.specs.declared.file.KissRow.{KissRow}
use Rattle.part_machines.specs.PartRows.{AreCellRows, ArePartRows}
use Rattle.part_rows.specs.Inner.Shown.{AreShown}
use Rattle.part_rows.specs.declared.shown.Shown.{Shown}
use Rattle.dependence.specs.declared.sets.ReadSet.{ReadSet}
use Rattle.state_codes.specs.declared.Codes.{Codes}
use Rattle.state_codes.specs.declared.which.Which.{Which}

-- what holds of all items holds of each that was lent
pub item_has : {X : Type 0} (P : X → Type 0) (xs lent : List X) (k : ℕ) (d : X) → All P xs → lent ≡ xs → k < length lent → P (get_or lent k d)
item_has {X = X} P xs lent k d all is within = subst (λ (list : List X). P (get_or list k d)) (sym is) (all k d (subst (λ (list : List X). k < length list) is within))

-- ---- the rows of one cell
-- a row that is taken adds the row that is made of it, and another adds none
module _ {X Y : Type 0} (R : X → Y → Type 0) (test : X → Bool) (rows : List X) (k : ℕ) (row : X) (made more : List Y) (within : k < length rows) (is : row ≡ get_or rows k row) (before : AllZip R (filter test (take k rows)) made) where
  next_taken : filter test (take (k + 1) rows) ≡ filter test (take k rows) ++ filter test (row ∷ [])
  next_taken = ap (filter test) (take_more rows k row within ∙ ap (λ (x : X). take k rows ++ x ∷ []) (sym is)) ∙ filter-append test (take k rows) (row ∷ [])

  pub made_more : test row ≡ true → (y : Y) → R row y → more ≡ made ++ y ∷ [] → AllZip R (filter test (take (k + 1) rows)) more
  made_more passes y one pushed =
      let taken : filter test (row ∷ []) ≡ row ∷ [] = rw passes refl in
      subst (λ (list : List Y). AllZip R (filter test (take (k + 1) rows)) list) (sym pushed)
      (subst (λ (list : List X). AllZip R list (made ++ y ∷ [])) (sym (next_taken ∙ ap (λ (list : List X). filter test (take k rows) ++ list) taken))
      (AllZip-push R (filter test (take k rows)) made row y before one))

  pub made_same : test row ≡ false → more ≡ made → AllZip R (filter test (take (k + 1) rows)) more
  made_same fails same =
      let passed : filter test (row ∷ []) ≡ [] = rw fails refl in
      subst (λ (list : List Y). AllZip R (filter test (take (k + 1) rows)) list) (sym same)
      (subst (λ (list : List X). AllZip R list made) (sym (next_taken ∙ ap (λ (list : List X). filter test (take k rows) ++ list) passed ∙ append-nil (filter test (take k rows)))) before)

-- ---- the rows of the first cells
abbrev states_of : List Shown → List ℕ
states_of cells = map (λ (cell : Shown). cell.state) cells

pub record AreFirstRows (W : KissFile) (code : Codes) (p : List ℕ) (set : ReadSet) (which : Which) (cells : List Shown) (rows : List KissRow) : Type 0 where
  pub lists : List (List KissRow)
  pub each : AllZip (AreCellRows W code p set which) (map (λ (cell : Shown). cell.state) cells) lists
  pub joined : rows ≡ flat_map (λ list. list) lists

module _ (W : KissFile) (code : Codes) (p : List ℕ) (set : ReadSet) (which : Which) where
  pub no_rows : (rows : List KissRow) → rows ≡ [] → AreFirstRows W code p set which [] rows
  no_rows rows none = record { lists = []; each = tt; joined = none }

  pub rows_joined : (cells : List Shown) (k : ℕ) (d : Shown) (rows own more : List KissRow) → k < length cells → AreFirstRows W code p set which (take k cells) rows
      → AreCellRows W code p set which (get_or cells k d).state own → more ≡ rows ++ own → AreFirstRows W code p set which (take (k + 1) cells) more
  rows_joined cells k d rows own more within before are appended =
      let front : List Shown = take k cells in
      let cell : Shown = get_or cells k d in
      let next : take (k + 1) cells ≡ front ++ cell ∷ [] = take_more cells k d within in
      subst (λ (list : List Shown). AreFirstRows W code p set which list more) (sym next)
      (record {
        lists = before.lists ++ own ∷ [];
        each = subst (λ (list : List ℕ). AllZip (AreCellRows W code p set which) list (before.lists ++ own ∷ [])) (sym (map-append (λ (c : Shown). c.state) front (cell ∷ [])))
            (AllZip-push (AreCellRows W code p set which) (states_of front) before.lists cell.state own before.each are);
        joined =
            appended ∙ ap (λ (list : List KissRow). list ++ own) before.joined
            ∙ ap (λ (list : List KissRow). flat_map (λ (l : List KissRow). l) before.lists ++ list) (sym (append-nil own))
            ∙ sym (flat_map-append (λ (l : List KissRow). l) before.lists (own ∷ []));
      })

  pub all_joined : (cells : List Shown) (rows : List KissRow) → AreShown code p set.latches which cells → AreFirstRows W code p set which cells rows → ArePartRows W code p set which rows
  all_joined cells rows shown are = record { leasts = states_of cells; cells = shown.cells_are; lists = are.lists; each = are.each; joined = are.joined }
