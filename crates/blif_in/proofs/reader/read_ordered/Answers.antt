use Rattle.std.proofs.Common.{refl}
use Rattle.blif_in.specs.Inner.JoinedLines.{lines_read}
use Rattle.blif_in.proofs.Exact.{never_read, never_refused, right}
use Rattle.blif_in.proofs.reader.read_ordered.Goals as goal

pub returns-clause-read : goal.returns-clause-read
returns-clause-read c =
    (right c.args.bytes.now (lines_read c.args.bytes.now) c.read_statements.result refl c.read_statements.ensures.faultless c.read_statements.ensures.said c.read_statements.ensures.sound c.read_statements.ensures.refused).read

pub returns-clause-refused : goal.returns-clause-refused
returns-clause-refused c =
    (right c.args.bytes.now (lines_read c.args.bytes.now) c.read_statements.result refl c.read_statements.ensures.faultless c.read_statements.ensures.said c.read_statements.ensures.sound c.read_statements.ensures.refused).refused

pub returns-clause-never_refused : goal.returns-clause-never_refused
returns-clause-never_refused c =
    never_refused c.args.bytes.now c.read_statements.result
    (right c.args.bytes.now (lines_read c.args.bytes.now) c.read_statements.result refl c.read_statements.ensures.faultless c.read_statements.ensures.said c.read_statements.ensures.sound c.read_statements.ensures.refused)

pub returns-clause-never_read : goal.returns-clause-never_read
returns-clause-never_read c =
    never_read c.args.bytes.now c.read_statements.result
    (right c.args.bytes.now (lines_read c.args.bytes.now) c.read_statements.result refl c.read_statements.ensures.faultless c.read_statements.ensures.said c.read_statements.ensures.sound c.read_statements.ensures.refused)
