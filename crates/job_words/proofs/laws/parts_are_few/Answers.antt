use Rattle.job_words.proofs.Slashes.{parts_are_few}
use Rattle.job_words.proofs.laws.parts_are_few.Goals as goal

pub returns : goal.returns
returns c = parts_are_few
