use Rattle.serial_split.specs.Laws.Chosen.{serial_choice_is_one}
use Rattle.serial_split.proofs.laws.serial_choice_is_one.Goals as goal

pub returns : goal.returns
returns c = serial_choice_is_one
