use Rattle.std.proofs.Common.{arith, ◌≡◌, length, subst, ℕ}
use Rattle.io_pairs.specs.Inner.Lists.{AreNextStates, EachList}
use Rattle.io_pairs.proofs.Functions.{input_going}
use Rattle.io_pairs.proofs.symbols.of_inputs.Goals as goal

pub returns-clause-going : goal.returns-clause-going
returns-clause-going c =
    let F = c.args.m.now in
    let all : c.loop-s.s ≡ length F.states = omega arith in
    input_going F c.loop-s.functions.items (omega (arith, c.loop-s.invariant.count))
    (subst (λ (n : ℕ). EachList (AreNextStates F) n c.loop-s.functions.items) all c.loop-s.invariant.each)
