use Rattle.pair_operators.specs.Laws.Extremes.{low_monotone, high_monotone, low_of_join, high_of_meet}
use Rattle.pair_operators.proofs.laws.operators_grow.Goals as goal

pub returns : goal.returns
returns c = record { low = low_monotone; high = high_monotone; low_of_join = low_of_join; high_of_meet = high_of_meet }
