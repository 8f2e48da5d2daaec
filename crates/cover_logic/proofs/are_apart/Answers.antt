use Rattle.std.proofs.Common.{◌∙◌, List, refl, sym, subst}
use Rattle.std.specs.List.{All}
use Rattle.std.proofs.lemmas.Bool.{false≢true}
use Rattle.std.proofs.lemmas.List.{take_all}
use Rattle.std.proofs.lemmas.List.Elements.{All-more, All-nil}
use Rattle.cover_terms.specs.declared.term.Term.{Term}
use Rattle.cover_logic.specs.Inner.Rows.{IsClear}
use Rattle.cover_logic.proofs.are_apart.Goals as goal

pub loop-term-init : goal.loop-term-init
loop-term-init c = All-nil (IsClear c.args.off.now)

pub returns-then-not-is_clear : goal.returns-then-not-is_clear
returns-then-not-is_clear c =
    let term = c.term-item.result in (
      λ h. absurd (false≢true h),
      λ all.
          let clear = subst (λ (t : Term). IsClear c.args.off.now t) (sym c.term-item.is) (all c.loop-term.term-index term c.loop-term-test.true) in
          absurd (false≢true (sym c.if-not-is_clear.true ∙ c.is_clear.ensures.1 clear)),
    )

pub loop-term-preserved : goal.loop-term-preserved
loop-term-preserved c =
    All-more (IsClear c.args.off.now) c.args.on.now c.loop-term.term-index c.term-item.result c.loop-term-test.true c.loop-term.invariant
    (subst (λ (t : Term). IsClear c.args.off.now t) c.term-item.is (c.is_clear.ensures.0 c.if-not-is_clear.false))

pub returns : goal.returns
returns c = (
  λ h. subst (λ (ts : List Term). All (IsClear c.args.off.now) ts) (take_all c.loop-term.term-index c.args.on.now c.loop-term-test.false) c.loop-term.invariant,
  λ all. refl,
)
