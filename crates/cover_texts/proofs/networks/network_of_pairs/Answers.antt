use Rattle.std.proofs.Common.{◌∙◌}
use Rattle.cover_texts.proofs.Flowing.{states_counted}
use Rattle.cover_texts.proofs.networks.network_of_pairs.Goals as goal

pub codes_of_pairs-requires-clause-pairs : goal.codes_of_pairs-requires-clause-pairs
codes_of_pairs-requires-clause-pairs c = c.states.ensures.count ∙ states_counted c.args.file.now c.args.pairs.now c.args.cover.now.blocks c.requires.expanded.expansion
