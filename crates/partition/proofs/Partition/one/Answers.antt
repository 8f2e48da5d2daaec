use Rattle.std.proofs.Common.{◌≡◌, replicate, sym, rules}
use Rattle.partition.specs.Laws.Labels.{IsPartition-of}
use Rattle.partition.specs.Laws.Extremes.{one_of_is_partition, blocks_of-one_of}
use Rattle.partition.proofs.Partition.one.Goals as goal

pub invariant_of-result : goal.invariant_of-result
invariant_of-result c =
    let is : c.in_ok-labels.labels.items ≡ replicate c.args.n 0 = search rules in
    rw is (let lawful = one_of_is_partition c.args.n c.requires in (IsPartition-of (sym lawful.length) lawful, sym (blocks_of-one_of c.args.n c.requires.0)))
