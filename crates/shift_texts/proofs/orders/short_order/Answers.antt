use Rattle.std.proofs.Common.{ℕ, ◌*◌, ap, ◌∙◌, arith}
use Rattle.shift_texts.proofs.Judging.{short_is}
use Rattle.shift_texts.proofs.orders.short_order.Goals as goal

pub returns : goal.returns
returns c =
    short_is c.args.work.now.machine c.in_ok-k.k c.in_ok-k.ensures.judged.1
    (omega (arith, c.if-bits-gt-MOST_BITS.false, ap (λ (n : ℕ). c.in_ok-k.k * n) (c.from.ensures ∙ c.inputs.ensures.count)))
