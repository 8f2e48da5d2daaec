use Rattle.pair_operators.specs.Laws.Extremes.{mm_from_high, mm_from_low}
use Rattle.pair_operators.proofs.laws.mm_pairs.Goals as goal

pub returns : goal.returns
returns c = record { from_high = mm_from_high; from_low = mm_from_low }
