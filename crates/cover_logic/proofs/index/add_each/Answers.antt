use Rattle.std.proofs.lemmas.Result.{IfOk-from_err}
use Rattle.std.proofs.Common.{◌≡◌, ◌+◌, ◌∙◌, List, ◌∷◌, [], ◌++◌, take, true, refl, sym, subst, ap, rules}
use Rattle.std.proofs.lemmas.List.{take_all, take_more}
use Rattle.cover_logic.specs.declared.index.Node.{Node}
use Rattle.cover_terms.specs.declared.term.Term.{Term}
use Rattle.cover_logic.specs.Inner.Nodes.{IsAdded}
use Rattle.cover_logic.proofs.Nodes.{added_none, added_term}
use Rattle.cover_logic.proofs.index.add_each.Goals as goal

pub loop-term-init : goal.loop-term-init
loop-term-init c = added_none c.args.nodes.now.items c.requires

pub loop-term-preserved : goal.loop-term-preserved
loop-term-preserved c =
    let term = c.term-item.result in
    let before = c.args.nodes.now.items in
    let terms = c.args.terms.now in
    let i = c.loop-term.term-index in
    let node : Node = record { term = term; from = c.len-from.result; is_listed = true } in
    let pushed : c.push.new.self.items ≡ c.loop-term.nodes.items ++ node ∷ [] = c.in_ok-push.ensures.items in
    let more : take (i + 1) terms ≡ take i terms ++ term ∷ [] =
    take_more terms i term c.loop-term-test.true ∙ ap (λ (t : Term). take i terms ++ t ∷ []) (sym c.term-item.is) in
    rw (more, pushed) (added_term before c.loop-term.nodes.items (take i terms) node c.loop-term.invariant refl (search rules))

pub returns : goal.returns
returns c =
    subst (λ (ts : List Term). IsAdded c.args.nodes.now.items ts c.loop-term.nodes.items)
    (take_all c.loop-term.term-index c.args.terms.now c.loop-term-test.false) c.loop-term.invariant

pub returns-in_err-push : goal.returns-in_err-push
returns-in_err-push c = IfOk-from_err c.from_residual.result _ c.from_residual.ensures.0
