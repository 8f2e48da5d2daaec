use Rattle.closed_lattice.proofs.closure.make_known.Goals as goal

pub returns-clause-known : goal.returns-clause-known
returns-clause-known c = c.in_ok-add.ensures c.args.m.now c.requires.known c.in_ok-p.ensures
