use Rattle.dependence.proofs.Across.{adds_in_halves}
use Rattle.dependence.proofs.effects.+add_within.Goals as goal

pub returns : goal.returns
returns t c =
    adds_in_halves c.args.words.now c.args.effects.now c.add_within.new.effects c.add_within-2.new.effects c.add_across.new.effects _ c.args.rows.now c.split_at.result.0.now c.split_at.result.1.now
    c.split_at.ensures.front c.split_at.ensures.back c.add_within.ensures c.add_within-2.ensures c.add_across.ensures
