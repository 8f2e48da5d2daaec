use Rattle.std.proofs.Common.{ℕ, List, get_or, length, arith}
use Rattle.partition.specs.Partition.{Together}
use Rattle.closed_lattice.specs.Inner.WaitingPairs.{AreTogether}
use Rattle.closed_lattice.proofs.Joining.{joins_more, states_at, together_at}
use Rattle.closed_lattice.proofs.closure.join_known.Goals as goal

pub join_one-requires-clause-u : goal.join_one-requires-clause-u
join_one-requires-clause-u c =
    let inside = states_at (length c.args.m.now.states) c.args.pairs.now c.loop-u.u-index c.requires.states c.loop-u-test.true in
    omega (arith, inside.0, c.loop-u.invariant.lawful.length)

pub join_one-requires-clause-v : goal.join_one-requires-clause-v
join_one-requires-clause-v c =
    let inside = states_at (length c.args.m.now.states) c.args.pairs.now c.loop-u.u-index c.requires.states c.loop-u-test.true in
    omega (arith, inside.1, c.loop-u.invariant.lawful.length)

pub loop-u-preserved : goal.loop-u-preserved
loop-u-preserved c =
    let pairs : List (ℕ × ℕ) = c.args.pairs.now in
    let pair : ℕ × ℕ = get_or pairs c.loop-u.u-index (0, 0) in
    joins_more c.args.m.now (λ q. AreTogether q pairs) (λ q. Together q pair.0 pair.1) c.args.p.now c.loop-u.p c.join_one.new.p
    (λ q held. together_at q pairs c.loop-u.u-index held c.loop-u-test.true) c.loop-u.invariant c.in_ok-join_one.ensures
