use Rattle.std.proofs.Common.{length, arith}
use Rattle.hs_lattice.specs.Laws.{IsCollection-none}
use Rattle.partition.specs.Order.{Before}
use Rattle.partition.specs.Partition.{IsPartition}
use Rattle.mm_lattice.proofs.right_sides.collected.Goals as goal

pub loop-t-init : goal.loop-t-init
loop-t-init c = record {
  collection = IsCollection-none (λ p. p) (IsPartition (length c.args.m.now.states)) Before c.new-found.result c.new-found.ensures;
  found = rw c.new-found.ensures.items (λ k d within. absurd (omega arith));
  each = λ s t order below. absurd (omega arith);
}
