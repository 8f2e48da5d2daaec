use Rattle.cover_split.specs.Laws.Pairs.{length-pairs_of}
use Rattle.cover_split.proofs.laws.pairs_fill_places.Goals as goal

pub returns : goal.returns
returns c = length-pairs_of
