use Rattle.pair_operators.proofs.greatest.high_above.Goals as goal

pub high_from-requires-clause-pair : goal.high_from-requires-clause-pair
high_from-requires-clause-pair c = c.requires.closed
