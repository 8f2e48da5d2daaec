use Rattle.std.proofs.Common.{All, sym, subst}
use Rattle.closed_lattice.specs.ClosedPartitions.{IsPrincipal}
use Rattle.closed_lattice.specs.KnownPrincipals.{IsPrincipalItem}
use Rattle.closed_lattice.proofs.Joining.{known_more}
use Rattle.closed_lattice.proofs.known_principals.Principals.add.Goals as goal

pub returns : goal.returns
returns c =
    λ F known is.
    rw c.in_ok-push.ensures.items
    (known_more F c.self.inside.items.items (record { s = c.args.s; t = c.args.t; least = c.in_ok-least.least }) (subst (All (IsPrincipalItem F)) (sym c.self.view_is) known) (subst (IsPrincipal F c.args.s c.args.t) (sym c.in_ok-least.ensures.same) is))
