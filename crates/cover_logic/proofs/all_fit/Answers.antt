use Rattle.std.proofs.Common.{◌∙◌, List, refl, sym, subst}
use Rattle.std.specs.List.{All}
use Rattle.std.proofs.lemmas.Bool.{false≢true}
use Rattle.std.proofs.lemmas.List.{take_all}
use Rattle.std.proofs.lemmas.List.Elements.{All-more, All-nil}
use Rattle.cover_terms.specs.declared.term.Term.{Term}
use Rattle.cover_terms.specs.Term.{FitsWidth}
use Rattle.cover_logic.proofs.all_fit.Goals as goal

pub loop-term-init : goal.loop-term-init
loop-term-init c = All-nil (FitsWidth c.args.width)

pub returns-then-not-fits : goal.returns-then-not-fits
returns-then-not-fits c =
    let term = c.term-item.result in (
      λ h. absurd (false≢true h),
      λ all.
          let fits = subst (λ (t : Term). FitsWidth c.args.width t) (sym c.term-item.is) (all c.loop-term.term-index term c.loop-term-test.true) in
          absurd (false≢true (sym c.if-not-fits.true ∙ c.fits.ensures.1 fits)),
    )

pub loop-term-preserved : goal.loop-term-preserved
loop-term-preserved c =
    All-more (FitsWidth c.args.width) c.args.terms.now c.loop-term.term-index c.term-item.result c.loop-term-test.true c.loop-term.invariant
    (subst (λ (t : Term). FitsWidth c.args.width t) c.term-item.is (c.fits.ensures.0 c.if-not-fits.false))

pub returns : goal.returns
returns c = (
  λ h. subst (λ (ts : List Term). All (FitsWidth c.args.width) ts) (take_all c.loop-term.term-index c.args.terms.now c.loop-term-test.false) c.loop-term.invariant,
  λ all. refl,
)
