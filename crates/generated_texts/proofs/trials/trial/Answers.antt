use Rattle.generated_texts.proofs.Trying.{judged_generated}
use Rattle.generated_texts.proofs.trials.trial.Goals as goal

pub returns : goal.returns
returns c = judged_generated c.args.seed c.args.a c.args.b c.args.k c.in_ok-file.file c.in_ok-file.ensures.machine c.trial_of.result c.trial_of.ensures
