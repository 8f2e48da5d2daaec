use Rattle.blif_out.proofs.Once as once
use Rattle.blif_out.proofs.head_once.Goals as goal

pub returns : goal.returns
returns c = once.head_once
