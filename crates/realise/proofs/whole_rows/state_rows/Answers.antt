use Rattle.std.proofs.Common.{ℕ, ◌≡◌, length, subst, arith}
use Rattle.realise.specs.Inner.FilledRows.{AreFilledBelow}
use Rattle.realise.proofs.whole_rows.state_rows.Goals as goal

pub returns : goal.returns
returns c =
    let all : c.loop-state.state ≡ length c.args.m.now.states = omega arith in
    subst (λ (n : ℕ). AreFilledBelow c.args.m.now n c.loop-state.filled.items) all c.loop-state.invariant
