use Rattle.std.proofs.Common.{ℕ, List, IfOk, inl, length, subst, sym}
use Rattle.std.proofs.lemmas.Result.{IfOk-weaker}
use Rattle.closed_lattice.specs.ClosedPartitions.{IsPrincipal}
use Rattle.pair_operators.specs.Growth.{IsGrowth}
use Rattle.closed_lattice.specs.Inner.Growth.{IsSettled}
use Rattle.closed_lattice.specs.Limits.{MeetInZero}
use Rattle.closed_lattice.proofs.Conditions.{meet_in_zero_down}
use Rattle.closed_lattice.proofs.Grown.{grown_greatest}
use Rattle.closed_lattice.proofs.known_principals.Principals.apart.Goals as goal

pub returns-clause-growth : goal.returns-clause-growth
returns-clause-growth c =
    subst (λ (start : List ℕ). IfOk c.grow.result (IsGrowth (IsPrincipal c.args.m.now) (MeetInZero c.args.other.now) (length c.args.m.now.states) start)) c.in_ok-copy.ensures.same c.grow.ensures.grown

pub returns-clause-greatest : goal.returns-clause-greatest
returns-clause-greatest c =
    IfOk-weaker c.grow.result _ _
    (λ p growth. grown_greatest c.args.m.now (MeetInZero c.args.other.now) (meet_in_zero_down c.args.other.now) c.args.start.now p c.requires.closed c.requires.in_zero growth)
    (returns-clause-growth c)

pub grow-requires-clause-settled : goal.grow-requires-clause-settled
grow-requires-clause-settled c =
    subst (IsSettled c.args.m.now (MeetInZero c.args.other.now)) (sym c.in_ok-copy.ensures.same) (c.requires.closed, inl c.requires.in_zero)
