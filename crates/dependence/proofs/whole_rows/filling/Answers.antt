use Rattle.std.proofs.Common.{[], ◌∷◌, ◌++◌, List, refl, subst, sym, take, ◌∙◌, arith}
use Rattle.std.proofs.lemmas.Bool.{true≢false}
use Rattle.std.proofs.lemmas.List.{take_all}
use Rattle.kiss_file.specs.declared.file.KissRow.{KissRow}
use Rattle.dependence.specs.Inner.FilledRows.{IsFilling}
use Rattle.dependence.proofs.FilledRows.{filling_alone, filling_apart, filling_without, next_row}
use Rattle.dependence.proofs.whole_rows.filling.Goals.{else-meets, then-meets}
use Rattle.dependence.proofs.whole_rows.filling.Goals as goal

pub loop-row-init : goal.loop-row-init
loop-row-init c = filling_alone c.args.s c.args.cube c.args.outputs _ refl refl refl c.all_outputs.ensures refl

pub loop-row-preserved : goal.loop-row-preserved
loop-row-preserved c =
    let before = take c.loop-row.row-index c.args.rows.now in
    let row = c.row-item.result in
    let Filling : KissRow → Type 0 = IsFilling (before ++ row ∷ []) c.args.s c.args.cube c.args.outputs in
    subst (λ (list : List KissRow). IsFilling list c.args.s c.args.cube c.args.outputs c.if-meets.added) (next_row c.args.rows.now c.loop-row.row-index row c.loop-row-test.true c.row-item.is)
    (elim c.if-meets.branch [
      | then-meets w ↦
          subst Filling (sym w.added-is)
          (filling_without before row c.args.s c.args.cube c.args.outputs c.loop-row.added c.loop-row.invariant (c.meets.ensures.0 w.if-meets.true) w.without-added.result
          w.without-added.ensures.cube w.without-added.ensures.from w.without-added.ensures.value w.without-added.ensures.next w.without-added.ensures.says)
      | else-meets w ↦
          subst Filling (sym w.added-is)
          (filling_apart before row c.args.s c.args.cube c.args.outputs c.loop-row.added c.loop-row.invariant (λ meets. true≢false (sym (c.meets.ensures.1 meets) ∙ w.if-meets.false)))
    ])

pub returns : goal.returns
returns c =
    subst (λ (list : List KissRow). IsFilling list c.args.s c.args.cube c.args.outputs c.loop-row.added) (take_all c.loop-row.row-index c.args.rows.now (omega arith)) c.loop-row.invariant
