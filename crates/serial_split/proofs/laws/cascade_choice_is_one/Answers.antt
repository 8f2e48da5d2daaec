use Rattle.serial_split.specs.Laws.Chosen.{cascade_choice_is_one}
use Rattle.serial_split.proofs.laws.cascade_choice_is_one.Goals as goal

pub returns : goal.returns
returns c = cascade_choice_is_one
