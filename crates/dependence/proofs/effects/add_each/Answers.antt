use Rattle.std.proofs.Common.{ℕ, List, length, subst, take}
use Rattle.kiss_file.specs.declared.file.KissRow.{KissRow}
use Rattle.dependence.specs.Inner.Effects.{Adds, ShowAcross, ShowBeside}
use Rattle.dependence.proofs.Across.{adds_across_none, adds_across_row, one_more}
use Rattle.dependence.proofs.effects.add_each.Goals as goal

pub loop-row-init : goal.loop-row-init
loop-row-init c = adds_across_none (length c.args.effects.now) c.args.words.now c.args.effects.now c.args.others.now

pub loop-row-preserved : goal.loop-row-preserved
loop-row-preserved c =
    let added : Adds c.loop-row.effects c.add_of_row.new.effects (ShowBeside (length c.args.effects.now) c.args.words.now c.args.others.now c.row-item.result) =
    subst (λ (n : ℕ). Adds c.loop-row.effects c.add_of_row.new.effects (ShowBeside n c.args.words.now c.args.others.now c.row-item.result)) c.loop-row.invariant.size c.add_of_row.ensures in
    subst (λ (list : List KissRow). Adds c.args.effects.now c.add_of_row.new.effects (ShowAcross (length c.args.effects.now) c.args.words.now list c.args.others.now))
    (one_more c.args.rows.now c.loop-row.row-index c.row-item.result c.loop-row-test.true c.row-item.is)
    (adds_across_row (length c.args.effects.now) c.args.words.now c.args.effects.now c.loop-row.effects c.add_of_row.new.effects (take c.loop-row.row-index c.args.rows.now) c.args.others.now c.row-item.result c.loop-row.invariant added)
