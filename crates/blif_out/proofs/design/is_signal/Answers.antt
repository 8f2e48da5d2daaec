use Rattle.blif_out.specs.Laws.Designs.{by_ends, by_inner}
use Rattle.blif_out.proofs.design.is_signal.Goals as goal

pub returns-then-is_end : goal.returns-then-is_end
returns-then-is_end c = by_ends c.args.net.now c.args.name.now _ c.is_end.ensures c.if-is_end.true

pub returns-else-is_end : goal.returns-else-is_end
returns-else-is_end c = by_inner c.args.net.now c.args.name.now _ _ c.is_end.ensures c.if-is_end.false c.is_within.ensures
