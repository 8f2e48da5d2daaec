use Rattle.pair_operators.specs.Laws.Pairs.{pair_monotone, zero_pairs, one_pairs}
use Rattle.pair_operators.proofs.laws.pairs_of_sides.Goals as goal

pub returns : goal.returns
returns c = record { monotone = pair_monotone; zero = zero_pairs; one = one_pairs }
