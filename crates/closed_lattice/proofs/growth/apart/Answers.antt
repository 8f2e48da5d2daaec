use Rattle.closed_lattice.proofs.growth.apart.Goals as goal

pub apart-requires-clause-kept : goal.apart-requires-clause-kept
apart-requires-clause-kept c = c.in_ok-new.ensures c.args.m.now
