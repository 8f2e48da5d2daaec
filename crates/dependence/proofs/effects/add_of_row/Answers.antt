use Rattle.std.proofs.Common.{ℕ, List, length, subst, take}
use Rattle.kiss_file.specs.declared.file.KissRow.{KissRow}
use Rattle.dependence.specs.Inner.Effects.{Adds, Show, ShowBeside}
use Rattle.dependence.proofs.Across.{adds_beside, adds_beside_none, one_more}
use Rattle.dependence.proofs.effects.add_of_row.Goals as goal

pub loop-other-init : goal.loop-other-init
loop-other-init c = adds_beside_none (length c.args.effects.now) c.args.words.now c.args.effects.now c.args.row.now

pub loop-other-preserved : goal.loop-other-preserved
loop-other-preserved c =
    let added : Adds c.loop-other.effects c.add_of_two.new.effects (Show (length c.args.effects.now) c.args.words.now c.other-item.result c.args.row.now) =
    subst (λ (n : ℕ). Adds c.loop-other.effects c.add_of_two.new.effects (Show n c.args.words.now c.other-item.result c.args.row.now)) c.loop-other.invariant.size c.add_of_two.ensures in
    subst (λ (list : List KissRow). Adds c.args.effects.now c.add_of_two.new.effects (ShowBeside (length c.args.effects.now) c.args.words.now list c.args.row.now))
    (one_more c.args.others.now c.loop-other.other-index c.other-item.result c.loop-other-test.true c.other-item.is)
    (adds_beside (length c.args.effects.now) c.args.words.now c.args.effects.now c.loop-other.effects c.add_of_two.new.effects (take c.loop-other.other-index c.args.others.now) c.other-item.result c.args.row.now c.loop-other.invariant added)
