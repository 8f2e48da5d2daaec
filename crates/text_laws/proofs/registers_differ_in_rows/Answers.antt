-- The law is proved of the definitions.
use Rattle.text_laws.proofs.Registers.{registers_differ_in_rows}
use Rattle.text_laws.proofs.registers_differ_in_rows.Goals as goal

pub returns : goal.returns
returns c = registers_differ_in_rows
