-- The law is proved of the definitions.
use Rattle.text_laws.proofs.Texts.{rows_alone_differ}
use Rattle.text_laws.proofs.rows_alone_differ.Goals as goal

pub returns : goal.returns
returns c = rows_alone_differ
