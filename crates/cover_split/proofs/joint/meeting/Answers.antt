use Rattle.std.proofs.Common.{◌≡◌, [], All, subst, sym, ◌∙◌, arith}
use Rattle.std.proofs.lemmas.List.{get_or_read}
use Rattle.std.proofs.lemmas.List.Elements.{All-get_or}
use Rattle.cover_split.proofs.JointLemmas.{lists_met_more}
use Rattle.cover_split.proofs.joint.meeting.Goals as goal

pub those_meeting-requires : goal.those_meeting-requires
those_meeting-requires c =
    let lists = c.args.lists.now in
    let i = c.loop-pieces.pieces-index in
    subst (All (λ piece. piece.cube.width ≡ c.args.cube.now.width)) (sym (c.as_slice.ensures ∙ get_or_read lists i c.pieces-item.result c.loop-pieces-test.true c.pieces-item.is []))
    (All-get_or (λ pieces. All (λ piece. piece.cube.width ≡ c.args.cube.now.width) pieces) lists i [] c.loop-pieces-test.true c.requires)

pub loop-pieces-preserved : goal.loop-pieces-preserved
loop-pieces-preserved c =
    let lists = c.args.lists.now in
    let i = c.loop-pieces.pieces-index in
    lists_met_more c.args.cube.now lists i c.loop-pieces.met.items c.push.new.self.items c.as_slice.result.now c.in_ok-those_meeting.field-0 c.loop-pieces.invariant c.loop-pieces-test.true
    (c.as_slice.ensures ∙ get_or_read lists i c.pieces-item.result c.loop-pieces-test.true c.pieces-item.is [])
    c.in_ok-those_meeting.ensures c.in_ok-push.ensures.items

pub returns : goal.returns
returns c = record {
  size = omega (arith, c.loop-pieces.invariant.size, c.loop-pieces-test.false);
  each = λ k within. c.loop-pieces.invariant.each k (omega (arith, within, c.loop-pieces-test.false));
}
