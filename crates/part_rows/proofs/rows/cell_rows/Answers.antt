use Rattle.std.proofs.Common.{◌≡◌, Bool, List, ℕ, ap, filter, length, subst, sym, take, ◌∙◌, arith}
use Rattle.std.proofs.lemmas.List.{take_all}
use Rattle.std.proofs.lemmas.Result.{IfOk-weaker}
use Rattle.std.specs.List.{AllZip}
use Rattle.cubes.specs.Field.{characters}
use Rattle.dependence.specs.FilledRows.{AreFilledRows}
use Rattle.kiss_file.specs.declared.file.KissRow.{KissRow}
use Rattle.machine_table.specs.Pieces.{IsRightRow}
use Rattle.part_machines.specs.PartRows.{IsPartRow, is_taken, rows_once}
use Rattle.part_rows.proofs.Joined.{item_has, made_more, made_same}
use Rattle.part_rows.proofs.rows.cell_rows.Goals.{then-is_taken+in_ok-push, else-is_taken}
use Rattle.part_rows.proofs.rows.cell_rows.Goals as goal

pub loop-row-preserved : goal.loop-row-preserved
loop-row-preserved c codes shown =
    let F = c.args.machine.now in
    let cell = c.args.cell.now in
    let rows : List KissRow = c.deref-row-items.result.now in
    let k : ℕ = c.loop-row.row-index in
    let row : KissRow = c.row-item.result in
    let within = c.loop-row-test.true in
    let Made : KissRow → KissRow → Type 0 = IsPartRow F codes c.args.p.now c.args.set.now c.args.which cell.state (characters (length c.args.set.now.latches) cell.field.care cell.field.value) in
    let test : KissRow → Bool = is_taken F.outputs c.args.which in
    let right : IsRightRow F c.from.result row =
    subst (IsRightRow F c.from.result) (sym c.row-item.is)
    (item_has (IsRightRow F c.from.result) c.in_ok-filled.filled.items rows k row c.in_ok-filled.ensures.right c.deref-row-items.ensures.value within) in
    let told : c.is_taken.result ≡ test row = c.is_taken.ensures F.outputs right.lawful.care in
    let before : AllZip Made (filter test (take k rows)) c.loop-row.made.items = c.loop-row.invariant codes shown in
    elim c.if-is_taken.branch [
      | then-is_taken+in_ok-push w ↦
          made_more Made test rows k row c.loop-row.made.items c.if-is_taken.made.items within c.row-item.is before (sym told ∙ w.if-is_taken.true)
          w.part_row.result (w.part_row.ensures F codes right.lawful shown) (ap (λ v. v.items) w.made-is ∙ w.in_ok-push.ensures.items)
      | else-is_taken w ↦
          made_same Made test rows k row c.loop-row.made.items c.if-is_taken.made.items within c.row-item.is before (sym told ∙ w.if-is_taken.false) (ap (λ v. v.items) w.made-is)
    ]

pub returns : goal.returns
returns c =
    let F = c.args.machine.now in
    let cell = c.args.cell.now in
    let items : List KissRow = c.deref-row-items.result.now in
    let field = characters (length c.args.set.now.latches) cell.field.care cell.field.value in
    let all : take c.loop-row.row-index items ≡ c.in_ok-filled.filled.items = take_all c.loop-row.row-index items (omega arith) ∙ c.deref-row-items.ensures.value in
    IfOk-weaker c.rows_once.result _ _
    (λ made once codes shown. record {
      field = field;
      of_cell = shown.of_cell;
      filled = c.in_ok-filled.filled.items;
      of_state = subst (λ (s : ℕ). AreFilledRows F s c.in_ok-filled.filled.items) c.from.ensures c.in_ok-filled.ensures;
      all = c.loop-row.made.items;
      each =
          subst
          (λ (list : List KissRow). AllZip (IsPartRow F codes c.args.p.now c.args.set.now c.args.which cell.state field) (filter (is_taken F.outputs c.args.which) list) c.loop-row.made.items)
          all (c.loop-row.invariant codes shown);
      once = once ∙ ap rows_once c.deref.ensures.value;
    })
    c.rows_once.ensures
