use Rattle.std.proofs.Common.{◌∙◌, ◌∷◌, [], ◌++◌, List, refl, take, ap, sym, subst}
use Rattle.std.proofs.lemmas.Bool.{false≢true}
use Rattle.std.proofs.lemmas.List.{take_all, take_more}
use Rattle.cover_terms.specs.declared.term.Term.{Term}
use Rattle.cover_terms.specs.Term.{Holds}
use Rattle.cover_logic.specs.Inner.Rows.{IsClear}
use Rattle.cover_terms.specs.Laws.Lists.{held_at, held_none}
use Rattle.cover_logic.proofs.Raising.{clear_push}
use Rattle.cover_logic.proofs.wide_rows.is_clear.Goals as goal

pub loop-term-init : goal.loop-term-init
loop-term-init c = λ x p h. held_none x h

pub returns-then-touches : goal.returns-then-touches
returns-then-touches c = (
  λ h. absurd (false≢true h),
  λ clear.
      let shared = c.touches.ensures.shared.0 c.if-touches.true in
      let at = subst (λ (t : Term). Holds t shared.0) c.term-item.is shared.2 in
      absurd (clear shared.0 shared.1 (held_at c.args.terms.now c.loop-term.term-index c.term-item.result shared.0 c.loop-term-test.true at)),
)

pub loop-term-preserved : goal.loop-term-preserved
loop-term-preserved c =
    let term = c.term-item.result in
    let terms = c.args.terms.now in
    let i = c.loop-term.term-index in
    let more = take_more terms i term c.loop-term-test.true ∙ ap (λ (t : Term). take i terms ++ t ∷ []) (sym c.term-item.is) in
    subst (λ (ts : List Term). IsClear ts c.args.row) (sym more)
    (clear_push c.args.row (take i terms) term c.loop-term.invariant (λ s. false≢true (sym c.if-touches.false ∙ c.touches.ensures.shared.1 s)))

pub returns : goal.returns
returns c = (
  λ h. subst (λ (ts : List Term). IsClear ts c.args.row) (take_all c.loop-term.term-index c.args.terms.now c.loop-term-test.false) c.loop-term.invariant,
  λ clear. refl,
)
