use Rattle.blif_out.proofs.NetworkTexts as texts
use Rattle.blif_out.proofs.text_has_head.Goals as goal

pub returns : goal.returns
returns c = texts.text_has_head
