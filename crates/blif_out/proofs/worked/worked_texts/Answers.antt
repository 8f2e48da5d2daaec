use Rattle.blif_out.proofs.WorkedTexts.{reduced, serial}
use Rattle.blif_out.proofs.worked.worked_texts.Goals as goal

pub returns : goal.returns
returns c = record { serial = serial; reduced = reduced }
