use Rattle.std.proofs.Common.{◌∙◌, sym}
use Rattle.std.proofs.lemmas.Result.{IfOk-weaker}
use Rattle.closed_lattice.proofs.growth.joined_by.Goals as goal

pub joined-requires : goal.joined-requires
joined-requires c = c.in_ok-least.ensures.principal.lawful.length ∙ sym c.requires.states

pub returns-clause-joined : goal.returns-clause-joined
returns-clause-joined c =
    IfOk-weaker c.joined.result _ _ (λ r joins. (c.in_ok-least.least, c.in_ok-least.ensures.principal, joins)) c.joined.ensures
