use Rattle.std.proofs.Common.{length, arith}
use Rattle.hs_lattice.specs.Laws.{IsCollection-none}
use Rattle.partition.specs.Order.{Before}
use Rattle.partition.specs.Partition.{IsPartition}
use Rattle.closed_lattice.proofs.principal_list.collected.Goals as goal

pub collect-requires-clause-known : goal.collect-requires-clause-known
collect-requires-clause-known c = c.in_ok-known.ensures c.args.m.now

pub collect-requires-clause-collection : goal.collect-requires-clause-collection
collect-requires-clause-collection c = IsCollection-none (λ p. p) (IsPartition (length c.args.m.now.states)) Before c.new-found.result c.new-found.ensures

pub collect-requires-clause-found : goal.collect-requires-clause-found
collect-requires-clause-found c = rw c.new-found.ensures.items (λ k d within. absurd (omega arith))
