use Rattle.pair_operators.specs.Laws.Extremes.{high_again, low_again}
use Rattle.pair_operators.proofs.laws.chains_of_operators.Goals as goal

pub returns : goal.returns
returns c = record { high = high_again; low = low_again }
