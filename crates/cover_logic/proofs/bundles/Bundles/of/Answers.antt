use Rattle.std.proofs.lemmas.Result.{IfOk-from_err}
use Rattle.std.proofs.Common.{◌≡◌, ◌+◌, ◌≤◌, ◌∙◌, List, ◌∷◌, [], ◌++◌, length, take, drop, sym, ap, rules, refl}
use Rattle.std.proofs.lemmas.List.{take_all}
use Rattle.std.proofs.lemmas.List.Elements.{All-drop, All-take}
use Rattle.cover_logic.specs.declared.bundles.Entry.{Entry}
use Rattle.cover_logic.specs.Inner.Bundles.{entries_in}
use Rattle.cover_logic.specs.Inner.Entries.{EntryFits}
use Rattle.cover_logic.proofs.Planes.{entries_push, take_add}
use Rattle.cover_logic.proofs.bundles.Bundles.of.Goals as goal

pub new-requires-clause-fits : goal.new-requires-clause-fits
new-requires-clause-fits c =
    All-take (EntryFits c.args.width) _ (drop c.loop-start.start c.args.entries.now) (All-drop (EntryFits c.args.width) c.loop-start.start c.args.entries.now c.requires.fits)

pub loop-start-preserved : goal.loop-start-preserved
loop-start-preserved c =
    let entries = c.args.entries.now in
    let start = c.loop-start.start in
    let count = c.min.result in
    let bundles = c.loop-start.bundles.items in
    let bundle = c.in_ok-new.field-0 in
    let pushed : c.push.new.self.items ≡ bundles ++ bundle ∷ [] = c.in_ok-push.ensures.items in
    let part : bundle.entries.items ≡ take count (drop start entries) = search rules in
    let all : entries_in (bundles ++ bundle ∷ []) ≡ take (start + count) entries =
    entries_push bundles bundle
    ∙ (ap (λ (es : List Entry). es ++ bundle.entries.items) c.loop-start.invariant.0 ∙ (ap (λ (es : List Entry). take start entries ++ es) part ∙ sym (take_add start count entries))) in
    let within : start + count ≤ length entries = search rules in
    (ap entries_in pushed ∙ all, within)

pub returns-clause-entries : goal.returns-clause-entries
returns-clause-entries c = c.loop-start.invariant.0 ∙ take_all c.loop-start.start c.args.entries.now (search rules)

pub new-requires-clause-width : goal.new-requires-clause-width
new-requires-clause-width c = c.requires.width

pub invariant_of-result : goal.invariant_of-result
invariant_of-result c = record { columns = c.requires.width }

pub returns-clause-width : goal.returns-clause-width
returns-clause-width c = refl

pub returns-in_err-new-clause-width : goal.returns-in_err-new-clause-width
returns-in_err-new-clause-width c = IfOk-from_err c.from_residual.result _ c.from_residual.ensures.0

pub returns-in_err-new-clause-entries : goal.returns-in_err-new-clause-entries
returns-in_err-new-clause-entries c = IfOk-from_err c.from_residual.result _ c.from_residual.ensures.0

pub returns-in_err-push-clause-width : goal.returns-in_err-push-clause-width
returns-in_err-push-clause-width c = IfOk-from_err c.from_residual-in_err-push.result _ c.from_residual-in_err-push.ensures.0

pub returns-in_err-push-clause-entries : goal.returns-in_err-push-clause-entries
returns-in_err-push-clause-entries c = IfOk-from_err c.from_residual-in_err-push.result _ c.from_residual-in_err-push.ensures.0
