use Rattle.hs_texts.proofs.Comments.{trial_lines_are_comments}
use Rattle.hs_texts.proofs.laws.trial_lines_are_comments.Goals as goal

pub returns : goal.returns
returns c = trial_lines_are_comments
