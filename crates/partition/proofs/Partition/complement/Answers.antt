use Rattle.std.proofs.lemmas.Result.{IfOk-weaker}
use Rattle.partition.specs.Partition.{blocks_of}
use Rattle.partition.specs.NestedBlocks.{IsInside, IsComplement, IsLargestSize}
use Rattle.partition.specs.Laws.Labels.{IsPartition-of}
use Rattle.partition.proofs.Sizes.{inside_zero_is_complement, complement_counts}
use Rattle.partition.proofs.Partition.complement.Goals as goal

pub returns-clause-inside : goal.returns-clause-inside
returns-clause-inside c =
    let p = c.args.self.now in
    IfOk-weaker c.inside.result (λ r. IsInside p c.in_ok-zero.zero r) (λ r. IsComplement p r) (λ r is. inside_zero_is_complement p c.in_ok-zero.zero r (IsPartition-of c.len.ensures.len c.in_ok-zero.ensures.lawful) c.in_ok-zero.ensures.zero is) c.inside.ensures

pub returns-clause-blocks : goal.returns-clause-blocks
returns-clause-blocks c =
    let p = c.args.self.now in
    IfOk-weaker c.inside.result (λ r. IsInside p c.in_ok-zero.zero r) (λ r. IsLargestSize p (blocks_of r)) (λ r is. complement_counts p c.in_ok-zero.zero r (IsPartition-of c.len.ensures.len c.len.ensures.lawful) (IsPartition-of c.len.ensures.len c.in_ok-zero.ensures.lawful) c.in_ok-zero.ensures.zero is) c.inside.ensures
