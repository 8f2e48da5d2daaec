use Rattle.std.proofs.Common.{arith, ◌≡◌, ◌^◌, subst, ℕ}
use Rattle.io_pairs.specs.Inner.Lists.{AreAtPlace, EachList}
use Rattle.io_pairs.proofs.Functions.{output_going}
use Rattle.io_pairs.proofs.states.of_outputs.Goals as goal

pub returns-clause-going : goal.returns-clause-going
returns-clause-going c =
    let F = c.args.m.now in
    let lists = c.in_ok-states.states.items in
    let all : c.loop-x.x ≡ 2 ^ F.inputs = omega arith in
    output_going F c.args.outs.now lists c.loop-x.functions.items c.requires.outs c.in_ok-states.ensures.count c.in_ok-states.ensures.each (omega (arith, c.loop-x.invariant.count))
    (subst (λ (n : ℕ). EachList (AreAtPlace lists) n c.loop-x.functions.items) all c.loop-x.invariant.each)
