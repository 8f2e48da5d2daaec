use Rattle.kiss2.proofs.Exact.{never_read, never_refused}
use Rattle.kiss2.proofs.reader.read.Goals as goal

pub returns-clause-never_refused : goal.returns-clause-never_refused
returns-clause-never_refused c file kiss =
    never_refused c.args.bytes.now c.read_text.result (record { read = c.read_text.ensures.read; refused = c.read_text.ensures.refused }) file kiss

pub returns-clause-never_read : goal.returns-clause-never_read
returns-clause-never_read c fault is =
    never_read c.args.bytes.now c.read_text.result (record { read = c.read_text.ensures.read; refused = c.read_text.ensures.refused }) fault is
