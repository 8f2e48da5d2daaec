use Rattle.std.proofs.Common.{◌≡◌, ℕ, List, ◌∷◌, [], ◌++◌, take, sym, ◌∙◌, ap}
use Rattle.std.proofs.lemmas.List.{take_all, take_more}
use Rattle.closed_lattice.proofs.listing.in_rows.Goals as goal

pub loop-p-preserved : goal.loop-p-preserved
loop-p-preserved c =
    let list = c.args.list.now in
    let i = c.loop-p.p-index in
    let p = c.p-item.result in
    let pushed : c.push.new.self.items ≡ c.loop-p.rows.items ++ p ∷ [] = c.in_ok-push.ensures.items ∙ ap (λ (q : List ℕ). c.loop-p.rows.items ++ q ∷ []) c.in_ok-of.ensures.labels in
    pushed ∙ (ap (λ (rows : List (List ℕ)). rows ++ p ∷ []) c.loop-p.invariant
    ∙ sym (take_more list i p c.loop-p-test.true ∙ ap (λ (q : List ℕ). take i list ++ q ∷ []) (sym c.p-item.is)))

pub returns : goal.returns
returns c = c.loop-p.invariant ∙ take_all c.loop-p.p-index c.args.list.now c.loop-p-test.false
