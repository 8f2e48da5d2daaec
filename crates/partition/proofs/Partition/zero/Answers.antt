use Rattle.std.proofs.Common.{◌≡◌, ℕ, subst, arith}
use Rattle.partition.specs.Laws.Extremes.{IsCount, count_push, count_is_zero_of}
use Rattle.partition.proofs.Partition.zero.Goals as goal

pub loop-s-preserved : goal.loop-s-preserved
loop-s-preserved c = rw c.in_ok-push.ensures.items (count_push c.loop-s.labels.items c.loop-s.s c.loop-s.invariant)

pub returns-clause-labels : goal.returns-clause-labels
returns-clause-labels c =
    let end : c.loop-s.s ≡ c.args.n = omega arith in
    count_is_zero_of c.loop-s.labels.items c.args.n (subst (λ (n : ℕ). IsCount c.loop-s.labels.items n) end c.loop-s.invariant)
