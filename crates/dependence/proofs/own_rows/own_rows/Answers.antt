use Rattle.std.proofs.Common.{◌∷◌, ◌++◌, [], List, ℕ, ap, slice_get, sym, ◌∙◌, arith}
use Rattle.std.proofs.lemmas.List.{take_all}
use Rattle.std.specs.List.{filter_map}
use Rattle.kiss_file.specs.declared.file.KissRow.{KissRow}
use Rattle.dependence.proofs.OwnRows.{rows_more, rows_numbered}
use Rattle.dependence.proofs.own_rows.own_rows.Goals as goal

pub loop-number-preserved : goal.loop-number-preserved
loop-number-preserved c =
    let F = c.args.m.now in
    let items : List ℕ = c.deref-number-items.result.now in
    c.in_ok-push.ensures.items ∙ ap (λ (list : List KissRow). list ++ c.row.result.now ∷ []) c.loop-number.invariant
    ∙ sym (rows_more F.rows items c.loop-number.number-index c.row.result.now c.loop-number-test.true c.row.ensures.row)

pub returns : goal.returns
returns c =
    let F = c.args.m.now in
    let items : List ℕ = c.deref-number-items.result.now in
    c.loop-number.invariant ∙ ap (filter_map (slice_get F.rows)) (take_all c.loop-number.number-index items (omega arith)) ∙ ap (filter_map (slice_get F.rows)) c.deref-number-items.ensures.value
    ∙ rows_numbered F c.args.s c.in_ok-numbers.numbers.items c.in_ok-numbers.ensures
