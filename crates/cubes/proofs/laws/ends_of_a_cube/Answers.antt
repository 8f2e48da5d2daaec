use Rattle.cubes.specs.Laws.Ends.{least_held, greatest_held, greatest_within, value_le, le_greatest}
use Rattle.cubes.proofs.laws.ends_of_a_cube.Goals as goal

pub returns : goal.returns
returns c = record {
  least = least_held;
  greatest = greatest_held;
  within = greatest_within;
  from = value_le;
  to = le_greatest;
}
