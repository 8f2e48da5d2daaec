use Rattle.closed_lattice.proofs.growth.separating.Goals as goal

pub separating-requires-clause-kept : goal.separating-requires-clause-kept
separating-requires-clause-kept c = c.in_ok-new.ensures c.args.m.now
