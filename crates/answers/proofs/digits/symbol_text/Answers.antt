use Rattle.std.proofs.Common.{◌≡◌, ◌-◌, ap, ◌∙◌}
use Rattle.answers.proofs.DigitsOf.{symbol_done, symbol_more}
use Rattle.answers.proofs.digits.symbol_text.Goals as goal
use Rattle.cubes.specs.Symbol.{bit, digit}

pub loop-place-preserved : goal.loop-place-preserved
loop-place-preserved c =
    let read : c.bit.result ≡ bit c.args.symbol (c.args.inputs - 1 - c.loop-place.place) =
    c.bit.ensures ∙ (ap (λ n. bit n c.from-in-loop-place.result) c.from.ensures ∙ ap (bit c.args.symbol) c.from-in-loop-place.ensures) in
    symbol_more _ _ _ _ _ _ _ c.loop-place-test.true c.loop-place.invariant c.in_ok-push.ensures.items (c.digit_of.ensures ∙ ap digit read)

pub returns : goal.returns
returns c = c.from-2.ensures ∙ symbol_done _ _ _ _ _ c.loop-place-test.false c.loop-place.invariant
