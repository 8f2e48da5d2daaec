use Rattle.std.proofs.Common.{refl}
use Rattle.blif_out.proofs.WorkedTexts.{note, part}
use Rattle.blif_out.proofs.worked.worked_lines.Goals as goal

pub returns : goal.returns
returns c = record { part = part; note = note; kinds = refl; one = refl; zero = refl }
