use Rattle.std.proofs.Common.{sym}
use Rattle.partition.specs.Laws.Chains.{join_is_least}
use Rattle.partition.specs.Laws.Joins.{join_turned}
use Rattle.partition.specs.Laws.Outcomes.{IfOk-from_both}
use Rattle.partition.proofs.bits.BitPart.join.Goals as goal

pub returns-then-blocks-clause-least : goal.returns-then-blocks-clause-least
returns-then-blocks-clause-least c =
    IfOk-from_both c.join_onto.result c.join_onto.ensures c.join_onto.ensures (λ r joined _. join_is_least c.args.self.now c.args.q.now r c.requires joined)

pub returns-else-blocks-clause-join : goal.returns-else-blocks-clause-join
returns-else-blocks-clause-join c =
    IfOk-from_both c.join_onto-else-blocks.result c.join_onto-else-blocks.ensures c.join_onto-else-blocks.ensures (λ r joined _. join_turned c.args.q.now c.args.self.now r (sym c.requires) joined)

pub returns-else-blocks-clause-least : goal.returns-else-blocks-clause-least
returns-else-blocks-clause-least c =
    IfOk-from_both c.join_onto-else-blocks.result c.join_onto-else-blocks.ensures c.join_onto-else-blocks.ensures (λ r joined _. join_is_least c.args.self.now c.args.q.now r c.requires (join_turned c.args.q.now c.args.self.now r (sym c.requires) joined))
