use Rattle.std.proofs.Common.{List, take, subst}
use Rattle.std.specs.List.{All}
use Rattle.std.proofs.lemmas.List.{take_all}
use Rattle.std.proofs.lemmas.List.Elements.{All-more, All-weaker}
use Rattle.cover_terms.specs.declared.term.Term.{Term}
use Rattle.cover_terms.specs.Pair.{Includes}
use Rattle.cover_logic.proofs.index.hull.Goals as goal

pub loop-term-preserved : goal.loop-term-preserved
loop-term-preserved c =
    let wider = c.joined-hull.result in
    let terms = c.args.terms.now in
    let i = c.loop-term.term-index in
    All-more (Includes wider) terms i c.term-item.result c.loop-term-test.true
    (All-weaker (Includes c.loop-term.hull) (Includes wider) (λ t h x p. c.joined-hull.ensures.left x (h x p)) (take i terms) c.loop-term.invariant)
    (subst (λ (t : Term). Includes wider t) c.term-item.is c.joined-hull.ensures.right)

pub returns : goal.returns
returns c =
    subst (λ (ts : List Term). All (Includes c.loop-term.hull) ts) (take_all c.loop-term.term-index c.args.terms.now c.loop-term-test.false) c.loop-term.invariant
