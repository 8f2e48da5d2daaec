use Rattle.std.proofs.Common.{ℕ, ◌≡◌, ◌+◌, ◌<◌, ◌↔◌, List, Contains, sym, subst, arith}
use Rattle.state_rows.proofs.KeptColumns.{below_pushed}
use Rattle.state_rows.proofs.columns.numbers_below.Goals as goal

pub loop-k-preserved : goal.loop-k-preserved
loop-k-preserved c =
    subst (λ (all : List ℕ). (i : ℕ) → Contains all i ↔ (i < c.loop-k.k + 1)) (sym c.in_ok-push.ensures.items)
    (below_pushed c.loop-k.numbers.items c.loop-k.k c.loop-k.invariant)

pub returns : goal.returns
returns c =
    let all : c.loop-k.k ≡ c.args.count = omega (arith, c.loop-k-test.false, c.loop-k.auto.k-end) in
    subst (λ (n : ℕ). (i : ℕ) → Contains c.loop-k.numbers.items i ↔ (i < n)) all c.loop-k.invariant
