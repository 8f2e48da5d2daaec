use Rattle.std.proofs.Common.{◌≡◌, ◌+◌, ◌∙◌, List, ◌∷◌, [], ◌++◌, sym, subst}
use Rattle.std.specs.List.{All}
use Rattle.std.proofs.lemmas.Result.{IfOk-weaker, IfOk-from_err}
use Rattle.cover_logic.specs.declared.bundles.Entry.{Entry}
use Rattle.cover_logic.specs.Inner.Bundles.{entries_of}
use Rattle.cover_logic.specs.Inner.Entries.{EntryFits, IsNumbered}
use Rattle.cover_logic.proofs.Entries.{AreFirst, first_all, first_more, first_none, numbered_fit, same_terms}
use Rattle.cover_logic.proofs.bundles.Bundles.new.Goals as goal

pub loop-number-init : goal.loop-number-init
loop-number-init c = rw c.new-entries.ensures.items (first_none c.args.terms.now)

pub loop-number-preserved : goal.loop-number-preserved
loop-number-preserved c =
    let term = c.index-terms-number.result in
    let entry : Entry = record { term = term; number = c.loop-number.number } in
    let pushed : c.push.new.self.items ≡ c.loop-number.entries.items ++ entry ∷ [] = c.in_ok-push.ensures.items in
    subst (λ (es : List Entry). AreFirst c.args.terms.now (c.loop-number.number + 1) es) (sym pushed)
    (first_more c.args.terms.now c.loop-number.number c.loop-number.entries.items term c.loop-number-test.true c.index-terms-number.is c.loop-number.invariant)

pub of-requires-clause-fits : goal.of-requires-clause-fits
of-requires-clause-fits c =
    let numbers = first_all c.args.terms.now c.loop-number.number c.loop-number.entries.items c.loop-number-test.false c.loop-number.invariant in
    subst (λ (es : List Entry). All (EntryFits c.args.width) es) (sym c.deref.ensures.value)
    (numbered_fit c.args.width c.args.terms.now c.loop-number.entries.items numbers c.requires.fits)

pub returns-clause-numbers : goal.returns-clause-numbers
returns-clause-numbers c =
    let numbers = first_all c.args.terms.now c.loop-number.number c.loop-number.entries.items c.loop-number-test.false c.loop-number.invariant in
    IfOk-weaker c.of.result _ _
    (λ all same. subst (λ (es : List Entry). IsNumbered c.args.terms.now es) (sym (same ∙ c.deref.ensures.value)) numbers) c.of.ensures.entries

pub returns-clause-terms : goal.returns-clause-terms
returns-clause-terms c = IfOk-weaker c.of.result _ _ (λ all numbers. same_terms c.args.terms.now (entries_of all) numbers) (returns-clause-numbers c)

pub of-requires-clause-width : goal.of-requires-clause-width
of-requires-clause-width c = c.requires.width

pub returns-clause-width : goal.returns-clause-width
returns-clause-width c = c.of.ensures.width

pub returns-in_err-push-clause-width : goal.returns-in_err-push-clause-width
returns-in_err-push-clause-width c = IfOk-from_err c.from_residual.result _ c.from_residual.ensures.0

pub returns-in_err-push-clause-terms : goal.returns-in_err-push-clause-terms
returns-in_err-push-clause-terms c = IfOk-from_err c.from_residual.result _ c.from_residual.ensures.0

pub returns-in_err-push-clause-numbers : goal.returns-in_err-push-clause-numbers
returns-in_err-push-clause-numbers c = IfOk-from_err c.from_residual.result _ c.from_residual.ensures.0
