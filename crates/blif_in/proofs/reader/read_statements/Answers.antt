use Rattle.blif_in.specs.Inner.JoinedLines.{lines_read}
use Rattle.blif_in.proofs.Exact.{unsound}
use Rattle.blif_in.proofs.Progressing.{faultless}
use Rattle.blif_in.proofs.reader.read_statements.Goals as goal

pub returns-clause-refused : goal.returns-clause-refused
returns-clause-refused c fault told =
    let lines = lines_read c.args.bytes.now in
    let read = c.in_ok-net.ensures.read in
    unsound lines c.closing_fault.result c.in_ok-net.net fault (faultless lines c.network_said.new.progress read) (c.closing_fault.ensures lines read c.in_ok-net.ensures.said) c.in_default.is
    c.in_ok-net.ensures.said (c.put_in_order.ensures.refused fault told)
