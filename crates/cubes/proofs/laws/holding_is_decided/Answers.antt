use Rattle.cubes.specs.Laws.Deciding.{held_from_test, test_from_held}
use Rattle.cubes.proofs.laws.holding_is_decided.Goals as goal

pub returns : goal.returns
returns c cube symbol = (held_from_test cube symbol, test_from_held cube symbol)
