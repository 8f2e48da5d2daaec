use Rattle.std.proofs.Common.{below_more, sym, ◌∙◌}
use Rattle.std.proofs.lemmas.Bool.{true≢false}
use Rattle.output_consistent.proofs.bits.first_agreeing.Goals as goal

pub loop-t-preserved : goal.loop-t-preserved
loop-t-preserved c = below_more _ _ c.loop-t.invariant (λ agree. true≢false (sym (c.bit_agrees.ensures.1 agree) ∙ c.if-bit_agrees.false))
