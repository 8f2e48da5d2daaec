use Rattle.std.proofs.Common.{subst, sym}
use Rattle.std.proofs.lemmas.List.Elements.{All-push}
use Rattle.partition.specs.Partition.{IsPartition}
use Rattle.set_benchmarks.proofs.worlds.rows_of.Goals as goal

pub loop-p-preserved : goal.loop-p-preserved
loop-p-preserved c =
    let lawful : IsPartition c.args.n c.p-item.result = subst (IsPartition c.args.n) (sym c.p-item.is) (c.requires c.loop-p.p-index c.p-item.result c.loop-p-test.true) in
    rw c.in_ok-push.ensures.items (All-push (IsPartition c.args.n) c.loop-p.rows.items c.in_ok-of.field-0 c.loop-p.invariant (subst (IsPartition c.args.n) (sym c.in_ok-of.ensures.labels) lawful))
