use Rattle.std.proofs.Common.{◌+◌, List, ℕ, take, map, sym, subst, arith}
use Rattle.net_core.specs.Inner.Failures.{TellsOutside}
use Rattle.net_core.specs.Order.{AreAt}
use Rattle.net_core.proofs.Numbered.{all_stand, at_exit, at_more, outside_at}
use Rattle.net_core.proofs.numbering.Signals.latch_inputs.Goals as goal

pub returns-in_err-number-clause-err : goal.returns-in_err-number-clause-err
returns-in_err-number-clause-err c =
    let latches = c.args.latches.now in
    at_exit (TellsOutside c.args.self.now (map (λ latch. latch.input) latches)) c.from_residual.result c.in_err-number.field-0.0 c.from_residual.ensures.1
    (outside_at (λ latch. latch.input) latches c.loop-latch.latch-index c.latch-item.result (omega arith) c.latch-item.is c.args.self.now c.in_err-number.field-0.0
    (all_stand c.args.self.now c.loop-latch.numbers (map (λ latch. latch.input) (take c.loop-latch.latch-index latches)) c.loop-latch.invariant) c.in_err-number.ensures.err)

pub loop-latch-preserved : goal.loop-latch-preserved
loop-latch-preserved c =
    subst (λ (numbers : List ℕ). AreAt c.args.self.now numbers (map (λ latch. latch.input) (take (c.loop-latch.latch-index + 1) c.args.latches.now))) (sym c.in_ok-push.ensures.ok)
    (at_more (λ latch. latch.input) c.args.latches.now c.loop-latch.latch-index c.latch-item.result (omega arith) c.latch-item.is c.args.self.now c.loop-latch.numbers c.in_ok-number.number
    c.loop-latch.invariant c.in_ok-number.ensures.ok)
