use Rattle.std.proofs.Common.{◌+◌, sym, ◌∙◌, subst, arith}
use Rattle.net_sim.specs.Inner.Forms.{HasValues}
use Rattle.net_sim.proofs.SmallGates.{below_word, one_more, zero_more}
use Rattle.net_sim.proofs.forms.word_of.Goals as goal
use Rattle.net_sim.proofs.forms.word_of.Goals.{then-value_of_cubes, else-value_of_cubes}

pub overflow_shl-values : goal.overflow_shl-values
overflow_shl-values c = below_word c.len.result c.loop-number.number (omega (arith, c.requires.few, c.len.ensures)) (omega (arith, c.loop-number-test.true))

pub loop-number-preserved : goal.loop-number-preserved
loop-number-preserved c =
    let gate = c.args.gate.now in
    let number = c.loop-number.number in
    elim c.if-value_of_cubes.branch [
      | then-value_of_cubes w ↦ subst (HasValues gate (number + 1)) (sym w.values-is) (one_more gate number c.loop-number.values c.loop-number.invariant (below_word c.len.result number (omega (arith, c.requires.few, c.len.ensures)) (omega (arith, c.loop-number-test.true))) (sym c.value_of_cubes.ensures ∙ w.if-value_of_cubes.true))
      | else-value_of_cubes w ↦ subst (HasValues gate (number + 1)) (sym w.values-is) (zero_more gate number c.loop-number.values c.loop-number.invariant (sym c.value_of_cubes.ensures ∙ w.if-value_of_cubes.false))
    ]
