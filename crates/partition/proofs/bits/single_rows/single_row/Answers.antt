use Rattle.partition.proofs.SingleRow.{one_bit}
use Rattle.partition.proofs.bits.single_rows.single_row.Goals as goal

pub returns-clause-single : goal.returns-clause-single
returns-clause-single c t = one_bit c.args.s c.args.width t c.requires.few c.requires.s
