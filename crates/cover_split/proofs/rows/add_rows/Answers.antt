use Rattle.std.proofs.Common.{is_some, subst, sym, ap}
use Rattle.std.proofs.lemmas.List.Elements.{All-get_or}
use Rattle.cover_split.specs.StateCover.{block_at}
use Rattle.cover_split.specs.Inner.Joints.{IsJoint}
use Rattle.cover_split.proofs.RowLemmas.{no_rows_for, rows_for_more, rows_of_pair}
use Rattle.cover_split.proofs.rows.add_rows.Goals as goal

pub loop-joint-init : goal.loop-joint-init
loop-joint-init c = no_rows_for c.args.m.now c.args.blocks.now c.args.at.number c.args.joints.now c.args.rows.now

pub row_of-requires-clause-joint : goal.row_of-requires-clause-joint
row_of-requires-clause-joint c =
    subst (IsJoint c.args.m.now c.args.blocks.now (block_at c.args.blocks.now c.args.at.block)) (sym c.joint-item.is)
    (All-get_or (IsJoint c.args.m.now c.args.blocks.now (block_at c.args.blocks.now c.args.at.block)) c.args.joints.now c.loop-joint.joint-index c.joint-item.result c.loop-joint-test.true c.requires.joints.right)

pub loop-joint-preserved : goal.loop-joint-preserved
loop-joint-preserved c =
    rows_for_more c.args.m.now c.args.blocks.now c.args.at.number c.args.joints.now c.loop-joint.joint-index c.args.rows.now c.loop-joint.rows c.push.new.self c.joint-item.result c.row_of.result c.loop-joint.invariant
    c.loop-joint-test.true c.joint-item.is c.row_of.ensures.row c.row_of.ensures.cube c.in_ok-push.ensures.ok

pub returns : goal.returns
returns c =
    rows_of_pair c.args.m.now c.args.blocks.now c.args.at.number c.args.at.block c.args.joints.now c.loop-joint.joint-index c.args.rows.now c.loop-joint.rows c.loop-joint.invariant c.loop-joint-test.false c.requires.joints

pub row_of-requires-clause-leads : goal.row_of-requires-clause-leads
row_of-requires-clause-leads c =
    let goes = c.requires.lead c.joint-item.result (c.loop-joint.joint-index, c.loop-joint-test.true, sym c.joint-item.is) in ap is_some goes.1
