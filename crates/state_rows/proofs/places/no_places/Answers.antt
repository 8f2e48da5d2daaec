use Rattle.std.proofs.Common.{ℕ, ◌≡◌, ◌+◌, ◌∷◌, [], ◌++◌, List, replicate, ◌∙◌, ap, arith}
use Rattle.std.proofs.lemmas.List.{replicate_more}
use Rattle.std.proofs.lemmas.Result.{IfOk-from_err}
use Rattle.state_rows.proofs.places.no_places.Goals as goal

pub loop-i-init : goal.loop-i-init
loop-i-init c = c.in_ok-places.ensures.items

-- one more of the same
pushed_more : {X : Type 0} (list pushed : List X) (n : ℕ) (one same : X) → list ≡ replicate n same → one ≡ same → pushed ≡ list ++ one ∷ [] → pushed ≡ replicate (n + 1) same
pushed_more {X} list pushed n one same old is more =
    more ∙ (ap (λ (xs : List X). xs ++ one ∷ []) old ∙ (ap (λ (x : X). replicate n same ++ x ∷ []) is ∙ replicate_more n same))

pub loop-i-preserved : goal.loop-i-preserved
loop-i-preserved c = pushed_more c.loop-i.places.items c.push.new.self.items c.loop-i.i c.new.result [] c.loop-i.invariant c.new.ensures c.in_ok-push.ensures.items

pub returns : goal.returns
returns c =
    let end : c.loop-i.i ≡ c.args.states = omega arith in
    c.loop-i.invariant ∙ ap (λ n. replicate n []) end

pub returns-in_err-places : goal.returns-in_err-places
returns-in_err-places c = IfOk-from_err c.from_residual.result _ c.from_residual.ensures.0

pub returns-in_err-push : goal.returns-in_err-push
returns-in_err-push c = IfOk-from_err c.from_residual-in_err-push.result _ c.from_residual-in_err-push.ensures.0
