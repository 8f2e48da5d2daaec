use Rattle.std.proofs.lemmas.Result.{IfOk-from_err}
use Rattle.std.proofs.Common.{◌≡◌, ◌+◌, ◌<◌, ◌≤◌, ◌∙◌, List, ◌∷◌, [], ◌++◌, length, get_or, take, subst, sym, ap}
use Rattle.std.proofs.lemmas.List.{take_all, take_more}
use Rattle.cover_logic.specs.declared.bundles.Bundle.{Bundle}
use Rattle.cover_logic.specs.declared.bundles.Entry.{Entry}
use Rattle.cover_logic.specs.Inner.Bundles.{entries_in}
use Rattle.cover_logic.specs.Inner.Entries.{IsMet}
use Rattle.cover_logic.proofs.Planes.{entries_push, met_of_more, met_of_none}
use Rattle.cover_logic.proofs.bundles.Bundles.met_by.Goals as goal

pub loop-bundle-preserved : goal.loop-bundle-preserved
loop-bundle-preserved c =
    let bundles = c.args.self.now.bundles.items in
    let same : c.deref-bundle-items.result.now ≡ bundles = c.deref-bundle-items.ensures.value in
    let i = c.loop-bundle.bundle-index in
    let bundle = c.bundle-item.result in
    let below : i < length bundles = subst (λ (bs : List Bundle). i < length bs) same c.loop-bundle-test.true in
    let is : bundle ≡ get_or bundles i bundle = c.bundle-item.is ∙ ap (λ (bs : List Bundle). get_or bs i bundle) same in
    let more : take (i + 1) bundles ≡ take i bundles ++ bundle ∷ [] = take_more bundles i bundle below ∙ ap (λ (b : Bundle). take i bundles ++ b ∷ []) (sym is) in
    let all : entries_in (take (i + 1) bundles) ≡ entries_in (take i bundles) ++ bundle.entries.items = ap entries_in more ∙ entries_push (take i bundles) bundle in
    subst (λ (es : List Entry). IsMet c.args.row es c.put_met.new.met.items) (sym all)
    (met_of_more c.args.row (entries_in (take i bundles)) bundle.entries.items c.loop-bundle.met.items c.put_met.new.met.items c.loop-bundle.invariant c.in_ok-put_met.ensures)

pub returns : goal.returns
returns c =
    let bundles = c.args.self.now.bundles.items in
    let same : c.deref-bundle-items.result.now ≡ bundles = c.deref-bundle-items.ensures.value in
    let past : length bundles ≤ c.loop-bundle.bundle-index = subst (λ (bs : List Bundle). length bs ≤ c.loop-bundle.bundle-index) same c.loop-bundle-test.false in
    subst (λ (bs : List Bundle). IsMet c.args.row (entries_in bs) c.loop-bundle.met.items)
    (take_all c.loop-bundle.bundle-index bundles past) c.loop-bundle.invariant

pub literals_of-requires-clause-width : goal.literals_of-requires-clause-width
literals_of-requires-clause-width c = c.args.self.now.columns

pub literals_of-requires-clause-fits : goal.literals_of-requires-clause-fits
literals_of-requires-clause-fits c = c.requires

pub loop-bundle-init : goal.loop-bundle-init
loop-bundle-init c = rw c.new-met.ensures.items (met_of_none c.args.row)

pub returns-in_err-literals : goal.returns-in_err-literals
returns-in_err-literals c = IfOk-from_err c.from_residual.result _ c.from_residual.ensures.0

pub returns-in_err-put_met : goal.returns-in_err-put_met
returns-in_err-put_met c = IfOk-from_err c.from_residual-in_err-put_met.result _ c.from_residual-in_err-put_met.ensures.0
