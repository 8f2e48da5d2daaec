use Rattle.std.proofs.Common.{Contains, sym, ◌∙◌, subst}
use Rattle.kiss2.specs.Laws.Closing.{reset_known, reset_missing}
use Rattle.kiss2.specs.Laws.Finding.{contained_at, not_contained}
use Rattle.kiss2.proofs.reader.closing.Goals as goal

pub returns-then-is_some : goal.returns-then-is_some
returns-then-is_some c lines stands =
    let there = contained_at c.args.said.now.states c.bytes.result.now c.number.result (sym c.is_some.ensures ∙ c.if-is_some.true) c.number.ensures.some in
    sym (reset_known c.args.said.now lines stands c.if-said-eq0.false c.in-Some.reset c.in-Some.is (subst (Contains c.args.said.now.states) c.bytes.ensures there))

pub returns : goal.returns
returns c lines stands =
    let absent = not_contained c.args.said.now.states c.bytes.result.now c.number.result (sym c.is_some.ensures ∙ c.if-is_some.false) c.number.ensures.none in
    sym (reset_missing c.args.said.now lines stands c.if-said-eq0.false c.in-Some.reset c.in-Some.is (λ h. absent (subst (Contains c.args.said.now.states) (sym c.bytes.ensures) h)))
