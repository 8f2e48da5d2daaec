use Rattle.blif_out.proofs.NetworkTexts as texts
use Rattle.blif_out.proofs.network_has_text.Goals as goal

pub returns : goal.returns
returns c = texts.network_has_text
