use Rattle.std.proofs.Common.{arith}
use Rattle.closed_lattice.proofs.principal_list.collect.Goals as goal

pub loop-t-init : goal.loop-t-init
loop-t-init c = record {
  known = c.requires.known;
  collection = c.requires.collection;
  found = c.requires.found;
  each = λ s t order below. absurd (omega arith);
}
