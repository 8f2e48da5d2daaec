use Rattle.std.proofs.Common.{◌≡◌, ap, ◌∙◌, map, take, arith}
use Rattle.std.proofs.lemmas.List.{take_all}
use Rattle.std.proofs.lemmas.Result.{IfOk-weaker}
use Rattle.gate_rows.specs.Inner.Texts.{row_text}
use Rattle.gate_rows.specs.Laws.RowTexts.{names_in_order, names_moved}
use Rattle.gate_rows.proofs.texts.row_texts.Goals as goal

pub returns-clause-in_order : goal.returns-clause-in_order
returns-clause-in_order c =
    IfOk-weaker c.names_from.result _ _
    (λ names is.
    names_in_order (λ text. text.items) c.sort.new.self.items names c.in_ok-sort.ensures.sorted
    (is ∙ ap (map (λ text. text.items)) c.as_slice.ensures.value))
    c.names_from.ensures

pub returns-clause-texts : goal.returns-clause-texts
returns-clause-texts c =
    let all : take c.loop-term.term-index c.args.terms.now ≡ c.args.terms.now = take_all c.loop-term.term-index c.args.terms.now (omega arith) in
    IfOk-weaker c.names_from.result _ _
    (λ names is.
    names_moved (λ text. text.items) c.loop-term.texts.items c.sort.new.self.items (map (row_text c.args.width) c.args.terms.now) names
    (c.loop-term.invariant ∙ ap (map (row_text c.args.width)) all) c.sort.ensures.permutation
    (is ∙ ap (map (λ text. text.items)) c.as_slice.ensures.value))
    c.names_from.ensures
