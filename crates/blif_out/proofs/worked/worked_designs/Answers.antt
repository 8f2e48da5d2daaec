use Rattle.blif_out.proofs.WorkedTexts.{clocked, named}
use Rattle.blif_out.proofs.worked.worked_designs.Goals as goal

pub returns : goal.returns
returns c = record { clocked = clocked; named = named }
