use Rattle.std.proofs.Common.{◌≡◌, All, Contains, List, ℕ, ap, get_or, length, map, subst, sym, take, ◌∙◌, arith}
use Rattle.std.proofs.lemmas.List.{take_all}
use Rattle.std.proofs.lemmas.List.Elements.{All-push, Contains-get_or}
use Rattle.part_machines.specs.CellLists.{AreCellsOf, IsFieldOfCell}
use Rattle.part_machines.specs.declared.cells.Cell.{Cell}
use Rattle.part_rows.specs.Inner.Shown.{IsShown}
use Rattle.part_rows.specs.declared.shown.Shown.{Shown}
use Rattle.part_rows.proofs.Listed.{all_shown, cell_shown, states_more}
use Rattle.part_rows.proofs.shown.shown_cells.Goals as goal

pub loop-cell-preserved : goal.loop-cell-preserved
loop-cell-preserved c =
    let code = c.args.codes.now in
    let p : List ℕ = c.args.p.now in
    let latches : List ℕ = c.args.set.now.latches in
    let cells : List Cell = c.in_ok-cells.cells.items in
    let items : List Cell = c.deref-cell-items.result.now in
    let k : ℕ = c.loop-cell.cell-index in
    let d : Cell = record { state = 0; block = 0; value = 0 } in
    let cell : Cell = get_or items k d in
    let new : Shown = c.shown_cell.result in
    let are : AreCellsOf p code.words latches (length p) cells =
    subst (λ (words : List ℕ). AreCellsOf p words latches (length p) cells) c.as_slice.ensures
    (subst (λ (bits : List ℕ). AreCellsOf p c.as_slice.result.now bits (length p) cells) c.as_slice-latches.ensures c.in_ok-cells.ensures) in
    let among : Contains cells cell = subst (λ (list : List Cell). Contains list cell) c.deref-cell-items.ensures.value (Contains-get_or items k d c.loop-cell-test.true) in
    let field : IsFieldOfCell cells cell (length latches) c.in_ok-field.field =
    subst (λ (bits : List ℕ). IsFieldOfCell cells cell (length bits) c.in_ok-field.field) c.as_slice-latches.ensures
    (subst (λ (list : List Cell). IsFieldOfCell list cell (length c.as_slice-latches.result.now) c.in_ok-field.field) c.deref.ensures.value c.in_ok-field.ensures) in
    let shown : IsShown code p latches c.args.which new =
    cell_shown code p latches c.args.which cells are cell c.in_ok-field.field new among field c.shown_cell.ensures.state c.shown_cell.ensures.block c.shown_cell.ensures.field
    c.shown_cell.ensures.bits c.shown_cell.ensures.few in
    record {
      each =
          subst (λ (list : List Shown). All (IsShown code p latches c.args.which) list) (sym c.in_ok-push.ensures.items)
          (All-push (IsShown code p latches c.args.which) c.loop-cell.shown.items new c.loop-cell.invariant.each shown);
      states = states_more items k d c.loop-cell.shown.items c.push.new.self.items new c.loop-cell-test.true c.loop-cell.invariant.states c.shown_cell.ensures.state c.in_ok-push.ensures.items;
    }

pub returns : goal.returns
returns c =
    let code = c.args.codes.now in
    let p : List ℕ = c.args.p.now in
    let latches : List ℕ = c.args.set.now.latches in
    let cells : List Cell = c.in_ok-cells.cells.items in
    let items : List Cell = c.deref-cell-items.result.now in
    let are : AreCellsOf p code.words latches (length p) cells =
    subst (λ (words : List ℕ). AreCellsOf p words latches (length p) cells) c.as_slice.ensures
    (subst (λ (bits : List ℕ). AreCellsOf p c.as_slice.result.now bits (length p) cells) c.as_slice-latches.ensures c.in_ok-cells.ensures) in
    let all : take c.loop-cell.cell-index items ≡ cells = take_all c.loop-cell.cell-index items (omega arith) ∙ c.deref-cell-items.ensures.value in
    all_shown code p latches c.args.which cells are c.loop-cell.shown.items c.loop-cell.invariant.each (c.loop-cell.invariant.states ∙ ap (map (λ (cell : Cell). cell.state)) all)
