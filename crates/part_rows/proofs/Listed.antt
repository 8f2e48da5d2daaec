-- The cells as they are listed, each with its field and the part's bits.
use Rattle.std.proofs.Common.{◌≡◌, ◌∙◌, ℕ, ◌+◌, ◌<◌, ◌≤◌, ◌^◌, true, All, Contains, List, [], ◌∷◌, ◌++◌, get_or, length, map, take, sym, ap, subst}
use Rattle.std.proofs.lemmas.List.{map-append, take_more}
use Rattle.std.proofs.lemmas.List.Elements.{All-contains}
use Rattle.cubes.specs.Field.{characters}
use Rattle.cubes.specs.Symbol.{bit}
use Rattle.part_machines.proofs.Listing.{listed_are_cells}
use Rattle.part_machines.specs.CellLists.{AreCellsOf, IsCellAt, IsFieldOfCell}
use Rattle.part_machines.specs.Cells.{AreCells, IsCellField}
use Rattle.part_machines.specs.Which.{own_bits}
use Rattle.part_machines.specs.declared.cells.Cell.{Cell}
use Rattle.part_machines.specs.declared.fields.Field.{Field}
use Rattle.part_rows.specs.Inner.Shown.{AreShown, HasBits, IsShown}
use Rattle.part_rows.specs.declared.shown.Shown.{Shown}
use Rattle.state_codes.specs.declared.Codes.{Codes}
use Rattle.state_codes.specs.declared.which.Which.{Which}

module _ (code : Codes) (p latches : List ℕ) (which : Which) (cells : List Cell) (are : AreCellsOf p code.words latches (length p) cells) where
  pub cell_shown : (cell : Cell) (field : Field) (new : Shown) → Contains cells cell → IsFieldOfCell cells cell (length latches) field → new.state ≡ cell.state → new.block ≡ cell.block → new.field ≡ field
      → HasBits (map (bit (get_or code.words cell.state 0)) (own_bits code which)) new.bits → new.bits.count ≤ 64 → IsShown code p latches which new
  cell_shown cell field new among is state block field_is bits few =
      let right : IsCellAt p code.words latches cell = All-contains (IsCellAt p code.words latches) cells cell are.right among in
      let of_cell : IsCellField p code.words latches cell.state (characters (length latches) field.care field.value) = (listed_are_cells p code.words latches cells are).field_is cell field among is in
      record {
        state = subst (λ (n : ℕ). n < length p) (sym state) right.least.state;
        block = block ∙ right.block ∙ ap (λ (n : ℕ). get_or p n 0) (sym state);
        field = record {
          care_below = subst (λ (f : Field). f.care < 2 ^ length latches) (sym field_is) is.care_below;
          value_in_care = subst (λ (f : Field). (k : ℕ) → bit f.value k ≡ true → bit f.care k ≡ true) (sym field_is) is.value_in_care;
        };
        of_cell =
            subst (λ (n : ℕ). IsCellField p code.words latches n (characters (length latches) new.field.care new.field.value)) (sym state)
            (subst (λ (f : Field). IsCellField p code.words latches cell.state (characters (length latches) f.care f.value)) (sym field_is) of_cell);
        bits = subst (λ (n : ℕ). HasBits (map (bit (get_or code.words n 0)) (own_bits code which)) new.bits) (sym state) bits;
        few = few;
      }

  pub all_shown : (shown : List Shown) → All (IsShown code p latches which) shown → map (λ (cell : Shown). cell.state) shown ≡ map (λ (cell : Cell). cell.state) cells
      → AreShown code p latches which shown
  all_shown shown each states = record {
    each = each;
    cells_are = subst (AreCells p code.words latches) (sym states) (listed_are_cells p code.words latches cells are).cells_are;
  }

-- one cell more
pub states_more : (cells : List Cell) (k : ℕ) (d : Cell) (shown more : List Shown) (new : Shown) → k < length cells → map (λ (cell : Shown). cell.state) shown ≡ map (λ (cell : Cell). cell.state) (take k cells)
    → new.state ≡ (get_or cells k d).state → more ≡ shown ++ new ∷ [] → map (λ (cell : Shown). cell.state) more ≡ map (λ (cell : Cell). cell.state) (take (k + 1) cells)
states_more cells k d shown more new within before state pushed =
    let front : List Cell = take k cells in
    ap (map (λ (cell : Shown). cell.state)) pushed ∙ map-append (λ (cell : Shown). cell.state) shown (new ∷ [])
    ∙ ap (λ (list : List ℕ). list ++ new.state ∷ []) before ∙ ap (λ (n : ℕ). map (λ (cell : Cell). cell.state) front ++ n ∷ []) state
    ∙ sym (map-append (λ (cell : Cell). cell.state) front (get_or cells k d ∷ [])) ∙ ap (map (λ (cell : Cell). cell.state)) (sym (take_more cells k d within))
