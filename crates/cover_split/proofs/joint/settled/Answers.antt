use Rattle.std.proofs.Common.{[], subst, sym, ◌∙◌, arith}
use Rattle.std.proofs.lemmas.List.{get_or_read}
use Rattle.std.proofs.lemmas.List.Elements.{All-get_or}
use Rattle.cover_split.specs.Inner.Joints.{AreSpread}
use Rattle.cover_split.proofs.JointLemmas.{settled_more}
use Rattle.cover_split.proofs.joint.settled.Goals as goal

pub whole_piece-requires : goal.whole_piece-requires
whole_piece-requires c =
    let lists = c.args.lists.now in
    let i = c.loop-pieces.pieces-index in
    subst (AreSpread c.args.cube.now) (sym (c.as_slice.ensures ∙ get_or_read lists i c.pieces-item.result c.loop-pieces-test.true c.pieces-item.is []))
    (All-get_or (AreSpread c.args.cube.now) lists i [] c.loop-pieces-test.true c.requires)

pub loop-pieces-preserved : goal.loop-pieces-preserved
loop-pieces-preserved c =
    let lists = c.args.lists.now in
    let i = c.loop-pieces.pieces-index in
    settled_more c.args.cube.now lists i c.loop-pieces.found c.push.new.self c.as_slice.result.now c.in-Ok.piece c.loop-pieces.invariant
    (c.as_slice.ensures ∙ get_or_read lists i c.pieces-item.result c.loop-pieces-test.true c.pieces-item.is [])
    c.in-Ok.ensures c.in_ok-push-in-Ok.ensures.ok

pub returns : goal.returns
returns c = record {
  size = omega (arith, c.loop-pieces.invariant.size, c.loop-pieces-test.false);
  own = c.loop-pieces.invariant.own;
}
