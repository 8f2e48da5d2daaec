use Rattle.text_laws.proofs.OneText.{one_text}
use Rattle.text_laws.proofs.one_text.Goals as goal

pub returns : goal.returns
returns c = one_text
