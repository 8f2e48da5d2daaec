use Rattle.blif_out.proofs.NetworkTexts as texts
use Rattle.blif_out.proofs.header_is_comments.Goals as goal

pub returns : goal.returns
returns c = texts.header_is_comments
