use Rattle.std.proofs.Common.{below_more, ◌∙◌, sym}
use Rattle.std.proofs.lemmas.Bool.{true≢false}
use Rattle.shift_real.proofs.Alike.{passed_over}
use Rattle.shift_real.proofs.tables.first_for.Goals as goal
use Rattle.shift_real.proofs.tables.first_for.Goals.{else-from-t-via-then-from-t+else-bit_agrees, else-from-t-via-else-from-t}

pub loop-t-preserved : goal.loop-t-preserved
loop-t-preserved c =
    below_more _ _ c.loop-t.invariant
    (λ alike.
    elim c.else-from-t.branch [
      | else-from-t-via-then-from-t+else-bit_agrees w ↦ true≢false (sym (w.bit_agrees.ensures.1 alike) ∙ w.if-bit_agrees.false)
      | else-from-t-via-else-from-t w ↦
          passed_over c.args.m.now c.args.b c.args.s c.args.firsts.now c.loop-t.t c.requires.firsts c.loop-t-test.true (λ same. w.if-from-t.false (c.from.ensures ∙ same)) c.loop-t.invariant alike
    ])
