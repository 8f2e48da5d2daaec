use Rattle.std.proofs.Common.{◌∙◌, sym, rules}
use Rattle.cover_logic.proofs.Nodes.{met_there}
use Rattle.cover_logic.proofs.index.Index.is_met_at.Goals as goal

pub returns : goal.returns
returns c = λ h.
    met_there c.args.row c.args.self.now.nodes.items c.args.place c.index-node.result.now (search rules) c.index-node.ensures (search rules) (sym c.touches.ensures.test ∙ h)
