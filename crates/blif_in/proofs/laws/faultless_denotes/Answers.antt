use Rattle.blif_in.proofs.Texts.{faultless_text}
use Rattle.blif_in.proofs.laws.faultless_denotes.Goals as goal

pub returns : goal.returns
returns c = faultless_text
