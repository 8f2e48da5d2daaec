use Rattle.std.proofs.Common.{arith}
use Rattle.hs_lattice.specs.Laws.{IsCollection-none}
use Rattle.partition.specs.Order.{Before}
use Rattle.partition.specs.Partition.{IsPartition}
use Rattle.io_pairs.proofs.right_sides.collected.Goals as goal

pub loop-y-init : goal.loop-y-init
loop-y-init c = record {
  collection = IsCollection-none (λ p. p) (IsPartition c.args.family.now.values) Before c.new-found.result c.new-found.ensures;
  found = rw c.new-found.ensures.items (λ k d within. absurd (omega arith));
  each = λ x y order below. absurd (omega arith);
}
