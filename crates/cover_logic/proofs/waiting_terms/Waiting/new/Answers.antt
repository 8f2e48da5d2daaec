use Rattle.std.proofs.lemmas.Result.{IfOk-from_err}
use Rattle.std.proofs.Common.{◌≡◌, List, [], ◌∷◌, ◌++◌, subst, rules}
use Rattle.cover_logic.specs.declared.bundles.Bundle.{Bundle}
use Rattle.cover_logic.proofs.Groups.{AreGrouped, grouped_none, grouped_more, grouped_all}
use Rattle.cover_logic.proofs.waiting_terms.Waiting.new.Goals as goal

pub loop-bundle-init : goal.loop-bundle-init
loop-bundle-init c = rw c.new-groups.ensures.items (grouped_none c.args.terms.now c.in_ok-all.all.bundles.items c.in_ok-all.ensures.terms)

pub loop-bundle-preserved : goal.loop-bundle-preserved
loop-bundle-preserved c =
    let popped : c.loop-bundle.left.items ≡ c.pop.new.self.items ++ c.in-Some.bundle ∷ [] = search rules in
    let pushed : c.push.new.self.items ≡ c.loop-bundle.groups.items ++ c.new-group.result ∷ [] = c.in_ok-push.ensures.items in
    rw pushed (grouped_more c.args.terms.now c.pop.new.self.items c.loop-bundle.groups.items c.in-Some.bundle c.new-group.result c.new-group.ensures
    (subst (λ (bs : List Bundle). AreGrouped c.args.terms.now bs c.loop-bundle.groups.items) popped c.loop-bundle.invariant))

pub returns : goal.returns
returns c =
    let none : c.loop-bundle.left.items ≡ [] = search rules in
    grouped_all c.args.terms.now c.loop-bundle.left.items c.loop-bundle.groups.items none c.loop-bundle.invariant

pub new-requires-clause-width : goal.new-requires-clause-width
new-requires-clause-width c = c.requires.width

pub new-requires-clause-fits : goal.new-requires-clause-fits
new-requires-clause-fits c = c.requires.fits

pub returns-in_err-all : goal.returns-in_err-all
returns-in_err-all c = IfOk-from_err c.from_residual.result _ c.from_residual.ensures.0

pub returns-in_err-push : goal.returns-in_err-push
returns-in_err-push c = IfOk-from_err c.from_residual-in_err-push.result _ c.from_residual-in_err-push.ensures.0
