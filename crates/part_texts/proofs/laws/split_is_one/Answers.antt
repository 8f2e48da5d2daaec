use Rattle.part_texts.specs.Laws.OneSplit.{split_is_one}
use Rattle.part_texts.proofs.laws.split_is_one.Goals as goal

pub returns : goal.returns
returns c = split_is_one
