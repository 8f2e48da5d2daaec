use Rattle.job_words.proofs.GivenNames.{names_are_names}
use Rattle.job_words.proofs.laws.names_are_names.Goals as goal

pub returns : goal.returns
returns c = names_are_names
