-- The law is proved of the definitions.
use Rattle.text_laws.proofs.Texts.{networks_differ_in_rows}
use Rattle.text_laws.proofs.networks_differ_in_rows.Goals as goal

pub returns : goal.returns
returns c = networks_differ_in_rows
