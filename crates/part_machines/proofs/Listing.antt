-- The list of cells, state by state.
use Rattle.std.proofs.Common.{◌≡◌, inl, inr, ℕ, ◌+◌, ◌^◌, ◌<◌, ◌≤◌, All, Bool, Contains, List, [], ◌∷◌, ◌++◌, get_or, length, map, take, refl, sym, ◌∙◌, ap, subst, arith}
use Rattle.std.specs.List.Sorted.{IsStrictlyIncreasing}
use Rattle.std.proofs.lemmas.Bool.{cases_eq, cases_lt}
use Rattle.std.proofs.lemmas.List.{get_or_append_left, get_or_push, length_push, map-append, take_all, take_more}
use Rattle.std.proofs.lemmas.List.Elements.{All-contains, All-map, All-nil, All-push, All-weaker, Contains-append_left, Contains-get_or, Contains-push, Contains-push_cases}
use Rattle.std.proofs.Math.Nat.{mod-eq_of_lt}
use Rattle.list_facts.specs.Laws.Members.{Contains-from_map, Contains-map, Contains-none}
use Rattle.cubes.specs.Field.{characters}
use Rattle.cubes.specs.Symbol.{number_of, symbol_of}
use Rattle.cubes.specs.Laws.Numbers.{number_of-symbol_of}
use Rattle.part_machines.specs.declared.cells.Cell.{Cell}
use Rattle.part_machines.specs.declared.fields.Field.{Field}
use Rattle.part_machines.specs.Cells.{AreCells, IsCellField, IsLeastOfCell, Shows, values_of}
use Rattle.part_machines.specs.Fields.{IsFieldOf}
use Rattle.part_machines.specs.CellLists.{AreCellsOf, AreValuesOf, IsAdded, IsCellAt, IsFieldAmong, IsFieldOfCell, IsListed, IsSymbolAmong, IsSymbolInBlock, IsValueAdded, ListedAreCells}
use Rattle.part_machines.specs.Laws.Cells.{cell_has_least}
use Rattle.part_machines.specs.Laws.Fields.{field_too}

-- numbers of one width with one symbol are equal
one_number : (width m n : ℕ) → m < 2 ^ width → n < 2 ^ width → symbol_of width m ≡ symbol_of width n → m ≡ n
one_number width m n low also same =
    sym (mod-eq_of_lt low) ∙ (sym (number_of-symbol_of width m) ∙ (ap number_of same ∙ (number_of-symbol_of width n ∙ mod-eq_of_lt also)))

-- a number above those of a list goes behind them
ascend_pushed : (list : List ℕ) (c : ℕ) → IsStrictlyIncreasing list → All (λ (a : ℕ). a < c) list → IsStrictlyIncreasing (list ++ c ∷ [])
ascend_pushed list c ascend below k within =
    let size : length (list ++ c ∷ []) ≡ length list + 1 = length_push list c in
    let here : k < length list = omega (arith, within, size) in
    let first : get_or (list ++ c ∷ []) k 0 ≡ get_or list k 0 = get_or_append_left list (c ∷ []) 0 k here in
    let low : get_or list k 0 < c = below k 0 here in
    elim (cases_lt (k + 1) (length list)) [
      | inl inside ↦
          let second : get_or (list ++ c ∷ []) (k + 1) 0 ≡ get_or list (k + 1) 0 = get_or_append_left list (c ∷ []) 0 (k + 1) inside in
          omega (arith, first, second, ascend k inside)
      | inr last ↦
          let second : get_or (list ++ c ∷ []) (k + 1) 0 ≡ c = get_or_push list c 0 (k + 1) (omega (arith, last, here)) in
          omega (arith, first, second, low)
    ]

abbrev states_of : List Cell → List ℕ
states_of cells = map (λ (cell : Cell). cell.state) cells

module _ (p words bits : List ℕ) where
  pub no_cells : AreCellsOf p words bits 0 []
  no_cells =
      record {
        right = All-nil (IsCellAt p words bits);
        each = λ s below least. absurd (omega arith);
        below = All-nil (λ (cell : Cell). cell.state < 0);
        ascend = none_ascend;
      }
    where
      none_ascend : IsStrictlyIncreasing []
      none_ascend k within = absurd (omega (arith, within))

  -- the cell of a least state among the cells
  cell_at : (count : ℕ) (cells : List Cell) → AreCellsOf p words bits count cells → (u : ℕ) → u < count → IsLeastOfCell p words bits u
      → (cell : Cell) × Contains cells cell × (cell.state ≡ u)
  cell_at count cells are u below least = Contains-from_map (λ (cell : Cell). cell.state) cells u (are.each u below least)

  -- a state whose block and value are listed is in the cell of a lesser state
  module _ (s : ℕ) (within : s < length p) (cells : List Cell) (are : AreCellsOf p words bits s cells) (block value : ℕ) (of_block : block ≡ get_or p s 0) (spelled : symbol_of (length bits) value ≡ values_of words bits s) (low : value < 2 ^ length bits) where
    listed_is_later : IsListed cells block value → IsLeastOfCell p words bits s → ⊥
    listed_is_later listed least =
        let right : IsCellAt p words bits listed.cell = All-contains (IsCellAt p words bits) cells listed.cell are.right listed.among in
        let before : listed.cell.state < s = All-contains (λ (cell : Cell). cell.state < s) cells listed.cell are.below listed.among in
        least.least listed.cell.state before (
          (right.least.state, within, sym right.block ∙ (listed.of_block ∙ of_block)),
          sym right.value ∙ (ap (symbol_of (length bits)) listed.has_value ∙ spelled),
        )

    pub kept : IsListed cells block value → AreCellsOf p words bits (s + 1) cells
    kept listed =
        record {
          right = are.right;
          each = λ t below least.
              elim (cases_eq t s) [
                | inl here ↦ absurd (listed_is_later listed (subst (IsLeastOfCell p words bits) here least))
                | inr other ↦ are.each t (omega (arith, below, other)) least
              ];
          below = All-weaker (λ (cell : Cell). cell.state < s) (λ (cell : Cell). cell.state < s + 1) (λ cell before. omega (arith, before)) cells are.below;
          ascend = are.ascend;
        }

    -- a state whose block and value are not listed is the least of its cell
    unlisted_is_least : (IsListed cells block value → ⊥) → IsLeastOfCell p words bits s
    unlisted_is_least unlisted =
        record {
          state = within;
          least = λ t before in_one.
              let found = cell_has_least p words bits t in_one.0.0 in
              let u : ℕ = found.0 in
              let u_before : u < s =
              elim (cases_lt t u) [
                | inr low_enough ↦ omega (arith, low_enough, before)
                | inl over ↦
                    absurd (found.1.least t over
                    ((found.2.0.1, found.2.0.0, sym found.2.0.2), sym found.2.1))
              ] in
              let cell = cell_at s cells are u u_before found.1 in
              let right : IsCellAt p words bits cell.0 = All-contains (IsCellAt p words bits) cells cell.0 are.right cell.1 in
              let same_block : get_or p cell.0.state 0 ≡ get_or p s 0 = ap (λ (n : ℕ). get_or p n 0) cell.2 ∙ (found.2.0.2 ∙ in_one.0.2) in
              let same_values : values_of words bits cell.0.state ≡ values_of words bits s = ap (λ (n : ℕ). values_of words bits n) cell.2 ∙ (found.2.1 ∙ in_one.1) in
              unlisted (record {
                cell = cell.0;
                among = cell.1;
                of_block = right.block ∙ (same_block ∙ sym of_block);
                has_value = one_number (length bits) cell.0.value value right.below low (right.value ∙ (same_values ∙ sym spelled));
              });
        }

    pub pushed : (cell : Cell) → cell.state ≡ s → cell.block ≡ block → cell.value ≡ value → (IsListed cells block value → ⊥)
        → AreCellsOf p words bits (s + 1) (cells ++ cell ∷ [])
    pushed cell at its_block its_value unlisted =
        let least : IsLeastOfCell p words bits s = unlisted_is_least unlisted in
        let right : IsCellAt p words bits cell =
        record {
          least = subst (IsLeastOfCell p words bits) (sym at) least;
          block = its_block ∙ (of_block ∙ ap (λ (n : ℕ). get_or p n 0) (sym at));
          value = ap (symbol_of (length bits)) its_value ∙ (spelled ∙ ap (λ (n : ℕ). values_of words bits n) (sym at));
          below = subst (λ (n : ℕ). n < 2 ^ length bits) (sym its_value) low;
        } in
        record {
          right = All-push (IsCellAt p words bits) cells cell are.right right;
          each = λ t below other.
              elim (cases_eq t s) [
                | inl here ↦
                    subst (Contains (states_of (cells ++ cell ∷ []))) (at ∙ sym here)
                    (Contains-map (λ (c : Cell). c.state) (cells ++ cell ∷ []) cell (Contains-push cells cell))
                | inr apart ↦
                    subst (λ (list : List ℕ). Contains list t) (sym (map-append (λ (c : Cell). c.state) cells (cell ∷ [])))
                    (Contains-append_left (states_of cells) (cell.state ∷ []) t (are.each t (omega (arith, below, apart)) other))
              ];
          below =
              All-push (λ (c : Cell). c.state < s + 1) cells cell
              (All-weaker (λ (c : Cell). c.state < s) (λ (c : Cell). c.state < s + 1) (λ c before. omega (arith, before)) cells are.below)
              (omega (arith, at));
          ascend =
              subst IsStrictlyIncreasing (sym (map-append (λ (c : Cell). c.state) cells (cell ∷ [])))
              (ascend_pushed (states_of cells) cell.state are.ascend
              (All-map (λ (a : ℕ). a < cell.state) (λ (c : Cell). c.state) cells
              (All-weaker (λ (c : Cell). c.state < s) (λ (c : Cell). c.state < cell.state) (λ c before. omega (arith, before, at)) cells are.below)));
        }

  -- the next state's cell is added, unless it is there
  pub added : (s : ℕ) → s < length p → (cells new : List Cell) → AreCellsOf p words bits s cells → (cell : Cell) → cell.state ≡ s → cell.block ≡ get_or p s 0
      → symbol_of (length bits) cell.value ≡ values_of words bits s → cell.value < 2 ^ length bits → IsAdded cells cell new → AreCellsOf p words bits (s + 1) new
  added s within cells new are cell at block spelled low is =
      elim is [
        | inl listed ↦ subst (AreCellsOf p words bits (s + 1)) (sym listed.1) (kept s within cells are cell.block cell.value block spelled low listed.0)
        | inr unlisted ↦
            subst (AreCellsOf p words bits (s + 1)) (sym unlisted.1)
            (pushed s within cells are cell.block cell.value block spelled low cell at refl refl unlisted.0)
      ]

  -- ---- the field of a cell
  module _ (cells : List Cell) (are : AreCellsOf p words bits (length p) cells) (cell : Cell) (among : Contains cells cell) where
    right_one : (other : Cell) → Contains cells other → IsCellAt p words bits other
    right_one other there = All-contains (IsCellAt p words bits) cells other are.right there

    shown_to_block : (v : List Bool) → Shows p words bits cell.state v → IsSymbolInBlock cells cell.block (length bits) v
    shown_to_block v shows =
        let found = cell_has_least p words bits shows.state shows.together.1 in
        let other = cell_at (length p) cells are found.0 found.1.state found.1 in
        let right : IsCellAt p words bits other.0 = right_one other.0 other.1 in
        let own : IsCellAt p words bits cell = right_one cell among in
        record {
          cell = other.0;
          among = other.1;
          of_block = right.block ∙ (ap (λ (n : ℕ). get_or p n 0) other.2 ∙ (found.2.0.2 ∙ (sym shows.together.2 ∙ sym own.block)));
          spelled = right.value ∙ (ap (λ (n : ℕ). values_of words bits n) other.2 ∙ (found.2.1 ∙ shows.has));
        }

    block_to_shown : (v : List Bool) → IsSymbolInBlock cells cell.block (length bits) v → Shows p words bits cell.state v
    block_to_shown v shown =
        let right : IsCellAt p words bits shown.cell = right_one shown.cell shown.among in
        let own : IsCellAt p words bits cell = right_one cell among in
        record {
          state = shown.cell.state;
          together = (own.least.state, right.least.state, sym own.block ∙ (sym shown.of_block ∙ right.block));
          has = sym right.value ∙ shown.spelled;
        }

    -- the field among the cells of a block is that of the cell of the least state
    pub field_of_least : (field : Field) → IsFieldOfCell cells cell (length bits) field → IsCellField p words bits cell.state (characters (length bits) field.care field.value)
    field_of_least field is =
        subst (λ (v : List Bool). IsFieldOf (Shows p words bits cell.state) v (characters (length bits) field.care field.value)) (right_one cell among).value
        (field_too (IsSymbolInBlock cells cell.block (length bits)) (Shows p words bits cell.state) block_to_shown shown_to_block
        (symbol_of (length bits) cell.value) (characters (length bits) field.care field.value) is.field_is)

  -- the least states of all cells
  pub are_cells : (cells : List Cell) → AreCellsOf p words bits (length p) cells → AreCells p words bits (states_of cells)
  are_cells cells are =
      record {
        each = λ s. (
          (λ there.
              let found = Contains-from_map (λ (cell : Cell). cell.state) cells s there in
              subst (IsLeastOfCell p words bits) found.2 (All-contains (IsCellAt p words bits) cells found.0 are.right found.1).least),
          (λ least. are.each s least.state least),
        );
        ascend = are.ascend;
      }

-- ---- the values of the cells of a block
pub no_values : (block : ℕ) → AreValuesOf [] block []
no_values block value = ((λ there. absurd (Contains-none value there)), (λ some. absurd (Contains-none some.0 some.1)))

pub value_added : (front : List Cell) (block : ℕ) (shown new : List ℕ) (cell : Cell) → AreValuesOf front block shown → IsValueAdded shown cell block new
    → AreValuesOf (front ++ cell ∷ []) block new
value_added front block shown new cell are is value =
    elim is [
      | inl own ↦ (
        (λ there.
            elim (Contains-push_cases shown cell.value value (subst (λ (list : List ℕ). Contains list value) own.1 there)) [
              | inl old ↦ let found = (are value).0 old in (found.0, Contains-append_left front (cell ∷ []) found.0 found.1, found.2, found.3)
              | inr last ↦ (cell, Contains-push front cell, own.0, last)
            ]),
        (λ some.
            subst (λ (list : List ℕ). Contains list value) (sym own.1)
            (elim (Contains-push_cases front cell some.0 some.1) [
              | inl old ↦ Contains-append_left shown (cell.value ∷ []) value ((are value).1 (some.0, old, some.2, some.3))
              | inr last ↦
                  let same : cell.value ≡ value = ap (λ (c : Cell). c.value) last ∙ some.3 in
                  subst (Contains (shown ++ cell.value ∷ [])) same (Contains-push shown cell.value)
            ])),
      )
      | inr other ↦ (
        (λ there.
            let found = (are value).0 (subst (λ (list : List ℕ). Contains list value) other.1 there) in
            (found.0, Contains-append_left front (cell ∷ []) found.0 found.1, found.2, found.3)),
        (λ some.
            subst (λ (list : List ℕ). Contains list value) (sym other.1)
            (elim (Contains-push_cases front cell some.0 some.1) [
              | inl old ↦ (are value).1 (some.0, old, some.2, some.3)
              | inr last ↦ absurd (other.0 (ap (λ (c : Cell). c.block) last ∙ some.2))
            ])),
      )
    ]

pub value_added_at : (cells : List Cell) (i : ℕ) (d : Cell) (block : ℕ) (shown new : List ℕ) → i < length cells → AreValuesOf (take i cells) block shown
    → IsValueAdded shown (get_or cells i d) block new → AreValuesOf (take (i + 1) cells) block new
value_added_at cells i d block shown new within are is =
    subst (λ (front : List Cell). AreValuesOf front block new) (sym (take_more cells i d within))
    (value_added (take i cells) block shown new (get_or cells i d) are is)

-- the values of all cells of a block
pub all_values : (cells : List Cell) (i block : ℕ) (shown : List ℕ) → length cells ≤ i → AreValuesOf (take i cells) block shown → AreValuesOf cells block shown
all_values cells i block shown past are = subst (λ (front : List Cell). AreValuesOf front block shown) (take_all i cells past) are

-- the values of a block's cells are below a bound, where those of all cells are
pub values_below : (cells : List Cell) (block limit : ℕ) (shown : List ℕ) → AreValuesOf cells block shown → All (λ (cell : Cell). cell.value < limit) cells
    → All (λ (value : ℕ). value < limit) shown
values_below cells block limit shown are low k d within =
    let found = (are (get_or shown k d)).0 (Contains-get_or shown k d within) in
    subst (λ (n : ℕ). n < limit) found.3 (All-contains (λ (cell : Cell). cell.value < limit) cells found.0 low found.1)

-- the field among these values is the field of the cell
pub field_in_block : (cells : List Cell) (cell : Cell) (width : ℕ) (shown : List ℕ) (field : Field) → AreValuesOf cells cell.block shown
    → IsFieldAmong shown cell.value width field → IsFieldOfCell cells cell width field
field_in_block cells cell width shown field are is =
    record {
      field_is =
          field_too (IsSymbolAmong shown width) (IsSymbolInBlock cells cell.block width)
          (λ w among.
          let found = (are among.number).0 among.among in
          record { cell = found.0; among = found.1; of_block = found.2; spelled = ap (symbol_of width) found.3 ∙ among.spelled })
          (λ w within. record { number = within.cell.value; among = (are within.cell.value).1 (within.cell, within.among, within.of_block, refl); spelled = within.spelled })
          (symbol_of width cell.value) (characters width field.care field.value) is.field_is;
      care_below = is.care_below;
      value_below = is.value_below;
      value_in_care = is.value_in_care;
    }

pub listed_are_cells : ListedAreCells
listed_are_cells p words bits cells are =
    record {
      cells_are = are_cells p words bits cells are;
      field_is = λ cell field among is. field_of_least p words bits cells are cell among field is;
    }
