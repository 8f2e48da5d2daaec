use Rattle.pair_operators.specs.Laws.Extremes.{low_once, high_once, below_high, above_low, each_decides}
use Rattle.pair_operators.proofs.laws.least_and_greatest.Goals as goal

pub returns : goal.returns
returns c = record { one_low = low_once; one_high = high_once; below_high = below_high; above_low = above_low; each_decides = each_decides }
