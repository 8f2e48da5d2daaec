use Rattle.closed_lattice.proofs.known_principals.Principals.find.Goals as goal

pub returns-then-is_of : goal.returns-then-is_of
returns-then-is_of c F known = c.is_of.ensures c.if-is_of.true F (c.in_ok-item.ensures F known)
