use Rattle.blif_in.proofs.Exact.{same_refusal}
use Rattle.blif_in.proofs.reader.read.Goals as goal

pub returns-clause-never_read : goal.returns-clause-never_read
returns-clause-never_read c fault has = same_refusal _ c.read_ordered.result c.map.result fault c.map.ensures.cases (c.read_ordered.ensures.never_read fault has)
