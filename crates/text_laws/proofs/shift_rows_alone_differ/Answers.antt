-- The law is proved of the definitions.
use Rattle.text_laws.proofs.Registers.{shift_rows_alone_differ}
use Rattle.text_laws.proofs.shift_rows_alone_differ.Goals as goal

pub returns : goal.returns
returns c = shift_rows_alone_differ
