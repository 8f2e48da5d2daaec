use Rattle.blif_out.proofs.NetworkTexts as texts
use Rattle.blif_out.proofs.comments_join.Goals as goal

pub returns : goal.returns
returns c = texts.comments_join
