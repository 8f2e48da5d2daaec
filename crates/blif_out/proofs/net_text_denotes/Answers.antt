use Rattle.blif_out.proofs.Denoting.{net_denotes}
use Rattle.blif_out.proofs.net_text_denotes.Goals as goal

pub returns : goal.returns
returns c = net_denotes
