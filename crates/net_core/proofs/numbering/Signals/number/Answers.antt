use Rattle.std.proofs.Common.{◌≡◌, ◌∙◌, subst, List, ℕ, slice_get, Some, Contains, IfSome, IfNone}
use Rattle.net_core.proofs.numbering.Signals.number.Goals as goal
use Rattle.net_core.proofs.Keyed.{number_some, number_none}

pub returns-clause-some : goal.returns-clause-some
returns-clause-some c =
    subst (λ (names : List (List ℕ)). IfSome c.copied.result (λ number. slice_get names number ≡ Some c.args.name.now)) c.self.view_is
    (number_some c.self.inside.names.items c.self.inside.numbers c.self.invariant.1 c.args.name.now c.copied.result (c.copied.ensures ∙ c.get.ensures.value))

pub returns-clause-none : goal.returns-clause-none
returns-clause-none c =
    subst (λ (names : List (List ℕ)). IfNone c.copied.result (Contains names c.args.name.now → ⊥)) c.self.view_is
    (number_none c.self.inside.names.items c.self.inside.numbers c.self.invariant.1 c.args.name.now c.copied.result (c.copied.ensures ∙ c.get.ensures.value))
