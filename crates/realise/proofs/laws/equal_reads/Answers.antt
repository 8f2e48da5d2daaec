use Rattle.realise.proofs.EqualReads.{equal_reads}
use Rattle.realise.proofs.laws.equal_reads.Goals as goal

pub returns : goal.returns
returns c = equal_reads
