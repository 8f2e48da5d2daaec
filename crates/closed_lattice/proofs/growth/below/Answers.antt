use Rattle.closed_lattice.proofs.growth.below.Goals as goal

pub below-requires-clause-kept : goal.below-requires-clause-kept
below-requires-clause-kept c = c.in_ok-new.ensures c.args.m.now
