use Rattle.std.proofs.Common.{subst, sym, ◌∙◌}
use Rattle.cover_split.specs.Inner.Joints.{AreListsFor}
use Rattle.cover_split.proofs.JointLemmas.{all_joints, first_spread}
use Rattle.cover_split.proofs.joint.joints.Goals as goal

pub add_joints-requires-clause-lists : goal.add_joints-requires-clause-lists
add_joints-requires-clause-lists c =
    let are = subst (AreListsFor c.args.m.now c.args.states.now) (sym c.as_slice.ensures.value) c.in_ok-lists.ensures in
    first_spread c.args.m.now c.args.states.now c.as_slice.result.now are c.whole.result (c.whole.ensures.width ∙ c.inputs.ensures.count)

pub returns : goal.returns
returns c =
    let are = subst (AreListsFor c.args.m.now c.args.states.now) (sym c.as_slice.ensures.value) c.in_ok-lists.ensures in
    all_joints c.args.m.now c.args.states.now c.as_slice.result.now are c.args.blocks.now c.whole.result c.new-joints.result c.add_joints.new.joints (c.whole.ensures.width ∙ c.inputs.ensures.count) c.whole.ensures.all
    c.new-joints.ensures c.in_ok-add_joints.ensures
