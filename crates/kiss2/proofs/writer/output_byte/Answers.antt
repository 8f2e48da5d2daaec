use Rattle.std.proofs.Common.{arith}
use Rattle.kiss2.proofs.Written.{no_character}
use Rattle.kiss2.proofs.writer.output_byte.Goals as goal

pub returns-else-output-lt64 : goal.returns-else-output-lt64
returns-else-output-lt64 c = no_character c.args.row.now.care c.args.row.now.value c.args.output (omega arith) c.if-output-lt64.false
