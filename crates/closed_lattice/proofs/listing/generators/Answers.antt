use Rattle.std.proofs.Common.{◌∙◌}
use Rattle.std.proofs.lemmas.Result.{IfOk-weaker}
use Rattle.closed_lattice.proofs.Collected.{all_generate, closed_within, of_three}
use Rattle.closed_lattice.proofs.listing.generators.Goals as goal

pub returns-clause-closed : goal.returns-clause-closed
returns-clause-closed c =
    IfOk-weaker c.principals_within.result _ _ (λ found members. closed_within c.args.m.now c.in_ok-one.one found.items members) c.principals_within.ensures.members

pub returns-clause-all : goal.returns-clause-all
returns-clause-all c =
    of_three c.principals_within.result _ _ _ _
    (λ found ascending members each few. all_generate c.args.m.now c.in_ok-one.one found.items
    (c.in_ok-one.ensures.lawful.length ∙ c.states.ensures.count) c.in_ok-one.ensures.one ascending members (each few))
    c.principals_within.ensures.ascending c.principals_within.ensures.members c.principals_within.ensures.each
