use Rattle.job_words.proofs.Sizes.{sizes_are_sizes}
use Rattle.job_words.proofs.laws.sizes_are_sizes.Goals as goal

pub returns : goal.returns
returns c = sizes_are_sizes
