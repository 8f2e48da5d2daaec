use Rattle.blif_out.specs.Laws.Visible.{head_comments}
use Rattle.blif_out.proofs.head_is_comments.Goals as goal

pub returns : goal.returns
returns c H lawful = head_comments H lawful.states
