use Rattle.std.proofs.Common.{ℕ, ◌*◌, ap, ◌∙◌}
use Rattle.shift_real.proofs.OutputGates.{reading_is}
use Rattle.shift_real.proofs.output_reads.output_reading.Goals as goal

pub returns : goal.returns
returns c =
    reading_is c.args.m.now c.args.k c.args.b c.args.table.now c.in_ok-firsts.firsts.items c.deref.result.now c.deref-2.result.now _ c.inputs_of-inputs.result _ c.requires.table c.in_ok-firsts.ensures c.deref.ensures.value c.in_ok-classes.ensures
    c.deref-2.ensures.value (ap (λ (n : ℕ). c.args.k * n) (c.from.ensures ∙ c.inputs.ensures.count)) c.latches_read-mask.ensures
    (λ a. (
      λ h. (c.requires.effects.each c.args.b a c.requires.output).0 ((c.inputs_of-inputs.ensures a).0 h),
      λ h. (c.inputs_of-inputs.ensures a).1 ((c.requires.effects.each c.args.b a c.requires.output).1 h),
    )) c.in_ok-numbers_of-2.ensures c.in_ok-numbers_of.ensures
