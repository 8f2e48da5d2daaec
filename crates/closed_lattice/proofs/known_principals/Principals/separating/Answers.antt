use Rattle.std.proofs.Common.{◌≡◌, ℕ, List, IfOk, inl, length, ap, ◌∙◌, subst, sym}
use Rattle.std.proofs.lemmas.Result.{IfOk-weaker}
use Rattle.partition.specs.Partition.{zero_of}
use Rattle.closed_lattice.specs.ClosedPartitions.{IsPrincipal}
use Rattle.pair_operators.specs.Growth.{IsGrowth}
use Rattle.closed_lattice.specs.Inner.Growth.{IsSettled}
use Rattle.closed_lattice.specs.Limits.{HoldsApart}
use Rattle.closed_lattice.proofs.Conditions.{apart_down, zero_apart}
use Rattle.closed_lattice.specs.Laws.Generating.{zero_of_closed}
use Rattle.closed_lattice.proofs.Grown.{grown_greatest}
use Rattle.closed_lattice.proofs.known_principals.Principals.separating.Goals as goal

pub returns-clause-growth : goal.returns-clause-growth
returns-clause-growth c =
    let begun : c.in_ok-zero.zero ≡ zero_of (length c.args.m.now.states) = c.in_ok-zero.ensures.labels ∙ ap zero_of c.states.ensures.count in
    subst (λ (start : List ℕ). IfOk c.grow.result (IsGrowth (IsPrincipal c.args.m.now) (HoldsApart c.args.s c.args.t) (length c.args.m.now.states) start)) begun c.grow.ensures.grown

pub returns-clause-greatest : goal.returns-clause-greatest
returns-clause-greatest c =
    let n = length c.args.m.now.states in
    let closed = zero_of_closed c.args.m.now c.states.result c.states.ensures.count c.states.ensures.some c.states.ensures.limit c.states.ensures.inside in
    IfOk-weaker c.grow.result _ _
    (λ p growth. grown_greatest c.args.m.now (HoldsApart c.args.s c.args.t) (apart_down c.args.s c.args.t) (zero_of n) p closed (zero_apart n c.args.s c.args.t c.requires.order) growth)
    (returns-clause-growth c)

pub grow-requires-clause-settled : goal.grow-requires-clause-settled
grow-requires-clause-settled c =
    let n = length c.args.m.now.states in
    let begun : c.in_ok-zero.zero ≡ zero_of n = c.in_ok-zero.ensures.labels ∙ ap zero_of c.states.ensures.count in
    subst (IsSettled c.args.m.now (HoldsApart c.args.s c.args.t)) (sym begun)
    (zero_of_closed c.args.m.now c.states.result c.states.ensures.count c.states.ensures.some c.states.ensures.limit c.states.ensures.inside, inl (zero_apart n c.args.s c.args.t c.requires.order))
