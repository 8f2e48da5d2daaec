use Rattle.std.proofs.Common.{◌++◌, List, ℕ, take, sym, ◌∙◌, ap, subst, arith}
use Rattle.std.proofs.lemmas.List.{map-id}
use Rattle.net_core.specs.Inner.Failures.{TellsAgain}
use Rattle.net_core.proofs.Numbered.{again_at, at_exit}
use Rattle.net_core.proofs.numbering.Signals.add_inputs.Goals as goal

pub returns-in_err-add-clause-err : goal.returns-in_err-add-clause-err
returns-in_err-add-clause-err c =
    let names = c.args.names.now in
    at_exit (TellsAgain (c.args.self.now ++ names)) c.from_residual.result c.in_err-add.field-0.0 c.from_residual.ensures.1
    (subst (λ (list : List (List ℕ)). TellsAgain (c.args.self.now ++ list) c.in_err-add.field-0.0) (map-id names)
    (again_at (λ (name : List ℕ). name) names c.loop-name.name-index c.name-item.result (omega arith) c.name-item.is c.args.self.now c.loop-name.self c.in_err-add.field-0.0
    (c.loop-name.invariant ∙ ap (λ (list : List (List ℕ)). c.args.self.now ++ list) (sym (map-id (take c.loop-name.name-index names)))) c.in_err-add.ensures.err))
