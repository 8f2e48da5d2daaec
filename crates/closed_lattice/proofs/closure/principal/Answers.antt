use Rattle.closed_lattice.proofs.closure.principal.Goals as goal

pub principal_beside-requires-clause-known : goal.principal_beside-requires-clause-known
principal_beside-requires-clause-known c = c.none.ensures c.args.m.now
