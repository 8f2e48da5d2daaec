use Rattle.std.proofs.Common.{[], ◌∷◌, ◌++◌, List, ap, subst, sym, take, ◌∙◌, arith}
use Rattle.std.proofs.lemmas.Bool.{true≢false}
use Rattle.std.proofs.lemmas.List.{take_all}
use Rattle.kiss_file.specs.declared.file.KissRow.{KissRow}
use Rattle.dependence.specs.Inner.FilledRows.{AreThoseMet}
use Rattle.dependence.proofs.FilledRows.{met_more, met_none, met_skip, next_row}
use Rattle.dependence.proofs.whole_rows.rows_met.Goals.{else-meets, then-meets+in_ok-push}
use Rattle.dependence.proofs.whole_rows.rows_met.Goals as goal

pub loop-row-init : goal.loop-row-init
loop-row-init c = subst (AreThoseMet [] c.args.cube.now) (sym c.new-met.ensures.items) (met_none c.args.cube.now)

pub loop-row-preserved : goal.loop-row-preserved
loop-row-preserved c =
    let front = take c.loop-row.row-index c.args.rows.now in
    let row = c.row-item.result in
    let met = c.loop-row.met.items in
    subst (λ (list : List KissRow). AreThoseMet list c.args.cube.now c.if-meets.met.items) (next_row c.args.rows.now c.loop-row.row-index row c.loop-row-test.true c.row-item.is)
    (elim c.if-meets.branch [
      | then-meets+in_ok-push w ↦
          subst (AreThoseMet (front ++ row ∷ []) c.args.cube.now) (sym (ap (λ v. v.items) w.met-is ∙ w.in_ok-push.ensures.items))
          (met_more front c.args.cube.now met row c.loop-row.invariant)
      | else-meets w ↦
          subst (AreThoseMet (front ++ row ∷ []) c.args.cube.now) (sym (ap (λ v. v.items) w.met-is))
          (met_skip front c.args.cube.now met row c.loop-row.invariant (λ meets. true≢false (sym (c.meets.ensures.1 meets) ∙ w.if-meets.false)))
    ])

pub returns : goal.returns
returns c =
    subst (λ (list : List KissRow). AreThoseMet list c.args.cube.now c.loop-row.met.items) (take_all c.loop-row.row-index c.args.rows.now (omega arith)) c.loop-row.invariant
