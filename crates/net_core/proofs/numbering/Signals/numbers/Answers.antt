use Rattle.std.proofs.Common.{◌+◌, ◌++◌, ◌∷◌, [], List, ℕ, All, Contains, take, sym, subst, arith}
use Rattle.std.proofs.lemmas.List.{map-id}
use Rattle.net_core.specs.Inner.Failures.{TellsOutside}
use Rattle.net_core.specs.Order.{AreAt}
use Rattle.net_core.proofs.Numbered.{all_stand, at_exit, at_more, outside_at}
use Rattle.net_core.proofs.numbering.Signals.numbers.Goals as goal

pub returns-in_err-number-clause-err : goal.returns-in_err-number-clause-err
returns-in_err-number-clause-err c =
    let names = c.args.names.now in
    let so_far : List (List ℕ) = take c.loop-name.name-index names in
    at_exit (TellsOutside c.args.self.now names) c.from_residual.result c.in_err-number.field-0.0 c.from_residual.ensures.1
    (subst (λ (list : List (List ℕ)). TellsOutside c.args.self.now list c.in_err-number.field-0.0) (map-id names)
    (outside_at (λ (name : List ℕ). name) names c.loop-name.name-index c.name-item.result (omega arith) c.name-item.is c.args.self.now c.in_err-number.field-0.0
    (subst (All (Contains c.args.self.now)) (sym (map-id so_far)) (all_stand c.args.self.now c.loop-name.numbers so_far c.loop-name.invariant)) c.in_err-number.ensures.err))

pub loop-name-preserved : goal.loop-name-preserved
loop-name-preserved c =
    let names = c.args.names.now in
    let so_far : List (List ℕ) = take c.loop-name.name-index names in
    subst (λ (numbers : List ℕ). AreAt c.args.self.now numbers (take (c.loop-name.name-index + 1) names)) (sym c.in_ok-push.ensures.ok)
    (subst (AreAt c.args.self.now (c.loop-name.numbers ++ c.in_ok-number.number ∷ [])) (map-id (take (c.loop-name.name-index + 1) names))
    (at_more (λ (name : List ℕ). name) names c.loop-name.name-index c.name-item.result (omega arith) c.name-item.is c.args.self.now c.loop-name.numbers c.in_ok-number.number
    (subst (AreAt c.args.self.now c.loop-name.numbers) (sym (map-id so_far)) c.loop-name.invariant) c.in_ok-number.ensures.ok))
