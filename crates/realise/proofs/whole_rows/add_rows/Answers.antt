use Rattle.std.proofs.Common.{◌≡◌, ◌+◌, List, [], ◌∷◌, ◌++◌, append_assoc, take, sym, ap, ◌∙◌, arith}
use Rattle.std.proofs.lemmas.List.{take_all, take_more}
use Rattle.kiss_file.specs.declared.file.KissRow.{KissRow}
use Rattle.realise.proofs.FilledRows.{rows_added}
use Rattle.realise.proofs.whole_rows.add_rows.Goals as goal

pub returns : goal.returns
returns c =
    let items = c.deref-row-items.result.now in
    let all : take c.loop-row.row-index items ≡ items = take_all c.loop-row.row-index items (omega arith) in
    rows_added c.args.m.now c.args.state c.in_ok-own.own.items c.args.filled.now.items c.loop-row.filled.items
    (c.loop-row.invariant ∙ ap (λ own. c.args.filled.now.items ++ own) (all ∙ c.deref-row-items.ensures.value))
    c.requires.before c.in_ok-own.ensures.each c.in_ok-own.ensures.right

pub loop-row-preserved : goal.loop-row-preserved
loop-row-preserved c =
    let old = c.args.filled.now.items in
    let items = c.deref-row-items.result.now in
    let i = c.loop-row.row-index in
    let row = c.row-item.result in
    let more : take (i + 1) items ≡ take i items ++ row ∷ [] = take_more items i row c.loop-row-test.true ∙ ap (λ (next : KissRow). take i items ++ next ∷ []) (sym c.row-item.is) in
    c.in_ok-push.ensures.items ∙ ap (λ (list : List KissRow). list ++ row ∷ []) c.loop-row.invariant ∙ append_assoc old (take i items) (row ∷ []) ∙ ap (λ own. old ++ own) (sym more)
