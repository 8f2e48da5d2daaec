-- The rows of the machine of a part: each is made of a right row of the least state of some cell.
use Rattle.std.proofs.Common.{inl, inr, ℕ, Bool, Contains, List, [], ◌∷◌, Option, filter, not, subst}
use Rattle.std.proofs.lemmas.List.Elements.{All-contains, Contains-append_cases}
use Rattle.std.specs.List.{AllZip, flat_map}
use Rattle.kiss_file.specs.declared.file.KissFile.{KissFile}
use Rattle.kiss_file.specs.declared.file.KissRow.{KissRow}
use Rattle.list_facts.specs.Laws.Members.{Contains-cons, Contains-from_filter, Contains-here, Contains-none, Contains-there}
use Rattle.machine_table.specs.Pieces.{IsRightRow}
use Rattle.dependence.specs.declared.sets.ReadSet.{ReadSet}
use Rattle.state_codes.specs.declared.Codes.{Codes}
use Rattle.state_codes.specs.declared.which.Which.{Which}
use Rattle.part_machines.specs.Cells.{IsCellField, IsLeastOfCell}
use Rattle.part_machines.specs.PartRows.{AreCellRows, ArePartRows, IsPartRow, is_same_row, is_taken, rows_once}

-- ---- lists side by side
pub zip_right : {X Y : Type 0} (P : X → Y → Type 0) (xs : List X) (ys : List Y) → AllZip P xs ys → (y : Y) → Contains ys y → (x : X) × Contains xs x × P x y
zip_right P [] [] held y among = absurd (Contains-none y among)
zip_right P [] (z ∷ ys) held y among = absurd held
zip_right P (x ∷ xs) [] held y among = absurd held
zip_right P (x ∷ xs) (z ∷ ys) held y among =
    elim (Contains-cons z y ys among) [
      | inl at ↦ (x, Contains-here x xs, subst (P x) at held.0)
      | inr later ↦ let found = zip_right P xs ys held.1 y later in (found.0, Contains-there x found.0 xs found.1, found.2)
    ]

pub zip_left : {X Y : Type 0} (P : X → Y → Type 0) (xs : List X) (ys : List Y) → AllZip P xs ys → (x : X) → Contains xs x → (y : Y) × Contains ys y × P x y
zip_left P [] [] held x among = absurd (Contains-none x among)
zip_left P [] (z ∷ ys) held x among = absurd held
zip_left P (z ∷ xs) [] held x among = absurd held
zip_left P (z ∷ xs) (y ∷ ys) held x among =
    elim (Contains-cons z x xs among) [
      | inl at ↦ (y, Contains-here y ys, subst (λ w. P w y) at held.0)
      | inr later ↦ let found = zip_left P xs ys held.1 x later in (found.0, Contains-there y found.0 ys found.1, found.2)
    ]

from_joined : (lists : List (List KissRow)) (row : KissRow) → Contains (flat_map (λ list. list) lists) row → (list : List KissRow) × Contains lists list × Contains list row
from_joined [] row among = absurd (Contains-none row among)
from_joined (list ∷ lists) row among =
    elim (Contains-append_cases list (flat_map (λ l. l) lists) row among) [
      | inl here ↦ (list, Contains-here list lists, here)
      | inr later ↦ let found = from_joined lists row later in (found.0, Contains-there list found.0 lists found.1, found.2)
    ]

-- ---- equal rows once
pub once_among : (rows : List KissRow) (row : KissRow) → Contains (rows_once rows) row → Contains rows row
unfolding rows_once
once_among [] row among = among
once_among (first ∷ rows) row among =
    elim (Contains-cons first row (filter (λ other. not (is_same_row first other)) (rows_once rows)) among) [
      | inl at ↦ subst (Contains (first ∷ rows)) at (Contains-here first rows)
      | inr later ↦ Contains-there first row rows (once_among rows row (Contains-from_filter (λ other. not (is_same_row first other)) (rows_once rows) row later).0)
    ]

-- ---- where a row comes from
pub record IsMade (W : KissFile) (code : Codes) (p : List ℕ) (set : ReadSet) (which : Which) (row : KissRow) : Type 0 where
  pub s : ℕ
  pub least : IsLeastOfCell p code.words set.latches s
  pub field : List (Option Bool)
  pub of_cell : IsCellField p code.words set.latches s field
  pub source : KissRow
  pub right : IsRightRow W s source
  pub made : IsPartRow W code p set which s field source row

pub row_is_made : (W : KissFile) (code : Codes) (p : List ℕ) (set : ReadSet) (which : Which) (rows : List KissRow) → ArePartRows W code p set which rows
    → (row : KissRow) → Contains rows row → IsMade W code p set which row
row_is_made W code p set which rows are row among =
    let joined = from_joined are.lists row (subst (λ (list : List KissRow). Contains list row) are.joined among) in
    let cell = zip_right (AreCellRows W code p set which) are.leasts are.lists are.each joined.0 joined.1 in
    let own : AreCellRows W code p set which cell.0 joined.0 = cell.2 in
    let in_all : Contains own.all row = once_among own.all row (subst (λ (list : List KissRow). Contains list row) own.once joined.2) in
    let of_row = zip_right (IsPartRow W code p set which cell.0 own.field) (filter (is_taken W.outputs which) own.filled) own.all own.each row in_all in
    let taken = Contains-from_filter (is_taken W.outputs which) own.filled of_row.0 of_row.1 in
    record {
      s = cell.0;
      least = (are.cells.each cell.0).0 cell.1;
      field = own.field;
      of_cell = own.of_cell;
      source = of_row.0;
      right = All-contains (IsRightRow W cell.0) own.filled of_row.0 own.of_state.right taken.0;
      made = of_row.2;
    }
