use Rattle.std.proofs.Common.{◌∙◌, ◌-◌, sym, rules, arith}
use Rattle.cover_logic.proofs.Nodes.{apart_none, apart_all, apart_left_out, met_at}
use Rattle.cover_logic.proofs.index.Index.met_by.Goals as goal

pub loop-end-init : goal.loop-end-init
loop-end-init c = apart_none c.args.row c.args.self.now.nodes.items _ (search rules)

pub returns-then-node : goal.returns-then-node
returns-then-node c =
    met_at c.args.row c.args.self.now.nodes.items c.loop-end.end (c.loop-end.end - 1) c.index-node.result.now c.loop-end.invariant (omega arith) c.index-node.ensures
    c.if-node.true (sym c.touches.ensures.test ∙ c.if-touches.true)

pub loop-end-preserved : goal.loop-end-preserved
loop-end-preserved c =
    apart_left_out c.args.row c.args.self.now.nodes.items c.loop-end.end (c.loop-end.end - 1) c.index-node.result.now c.args.self.now.nested c.loop-end.invariant (omega arith) c.index-node.ensures
    (sym c.touches.ensures.test ∙ c.if-touches.false)

pub returns : goal.returns
returns c = apart_all c.args.row c.args.self.now.nodes.items c.loop-end.end c.loop-end.invariant (omega arith)
