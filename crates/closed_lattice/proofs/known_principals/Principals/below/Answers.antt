use Rattle.std.proofs.Common.{◌≡◌, ℕ, List, IfOk, length, ap, ◌∙◌, subst, sym}
use Rattle.std.proofs.lemmas.Result.{IfOk-weaker}
use Rattle.partition.specs.Partition.{Lt, zero_of}
use Rattle.closed_lattice.specs.ClosedPartitions.{IsPrincipal}
use Rattle.pair_operators.specs.Growth.{IsGrowth, pairs_of}
use Rattle.partition.specs.Laws.Labels.{IsPartition-of}
use Rattle.closed_lattice.specs.Inner.Growth.{IsSettled}
use Rattle.closed_lattice.proofs.Passing.{below_settled}
use Rattle.closed_lattice.proofs.Conditions.{never_below_zero, strictly_below_down, zero_strictly_below}
use Rattle.closed_lattice.specs.Laws.Generating.{zero_of_closed}
use Rattle.closed_lattice.proofs.Grown.{grown_greatest}
use Rattle.pair_operators.specs.Laws.Growth.{grown_nothing}
use Rattle.closed_lattice.proofs.known_principals.Principals.below.Goals as goal

pub returns-clause-growth : goal.returns-clause-growth
returns-clause-growth c =
    let begun : c.in_ok-zero.zero ≡ zero_of (length c.args.m.now.states) = c.in_ok-zero.ensures.labels ∙ ap zero_of c.states.ensures.count in
    subst (λ (start : List ℕ). IfOk c.grow.result (IsGrowth (IsPrincipal c.args.m.now) (λ p. Lt p c.args.top.now) (length c.args.m.now.states) start)) begun c.grow.ensures.grown

pub returns-clause-greatest : goal.returns-clause-greatest
returns-clause-greatest c =
    let n = length c.args.m.now.states in
    let closed = zero_of_closed c.args.m.now c.states.result c.states.ensures.count c.states.ensures.some c.states.ensures.limit c.states.ensures.inside in
    IfOk-weaker c.grow.result _ _
    (λ p growth other. grown_greatest c.args.m.now (λ p. Lt p c.args.top.now) (strictly_below_down c.args.top.now) (zero_of n) p closed (zero_strictly_below n c.args.top.now c.requires.states closed.0 other) growth)
    (returns-clause-growth c)

pub returns-clause-zero : goal.returns-clause-zero
returns-clause-zero c =
    let n = length c.args.m.now.states in
    let closed = zero_of_closed c.args.m.now c.states.result c.states.ensures.count c.states.ensures.some c.states.ensures.limit c.states.ensures.inside in
    IfOk-weaker c.grow.result _ _
    (λ p growth zero. grown_nothing n (IsPrincipal c.args.m.now) (λ p. Lt p c.args.top.now) (never_below_zero n c.args.top.now c.requires.states zero) (zero_of n) p (pairs_of n) closed.0 growth)
    (returns-clause-growth c)

pub grow-requires-clause-settled : goal.grow-requires-clause-settled
grow-requires-clause-settled c =
    let n = length c.args.m.now.states in
    let begun : c.in_ok-zero.zero ≡ zero_of n = c.in_ok-zero.ensures.labels ∙ ap zero_of c.states.ensures.count in
    subst (IsSettled c.args.m.now (λ p. Lt p c.args.top.now)) (sym begun) (
      zero_of_closed c.args.m.now c.states.result c.states.ensures.count c.states.ensures.some c.states.ensures.limit c.states.ensures.inside,
      below_settled n c.args.top.now (IsPartition-of c.requires.states c.rank-rank.ensures.lawful),
    )
