use Rattle.std.proofs.Common.{ℕ, ◌+◌, ◌<◌, List, [], All, length, subst, sym, ap, ◌∙◌, arith, below_more}
use Rattle.std.proofs.lemmas.Result.{err_from_is_err_and}
use Rattle.std.proofs.lemmas.List.{length_push}
use Rattle.std.proofs.lemmas.List.Elements.{All-get_or}
use Rattle.machine_table.specs.Pairs.{AtEachSymbol}
use Rattle.cover_split.specs.declared.joint.Joint.{Joint}
use Rattle.cover_split.specs.StateCover.{IsBlock, block_at}
use Rattle.cover_split.specs.Expansion.{StaysWithin}
use Rattle.cover_split.specs.Inner.Joints.{AllLead, AreJoints, AreJointsOfEach, IsLeastLeaving}
use Rattle.cover_split.proofs.JointLemmas.{first_leaving_from, joints_more, no_joints, stays_from_lead}
use Rattle.cover_split.specs.Laws.Pairs.{few_blocks}
use Rattle.cover_split.proofs.expansion.joints_of_blocks.Goals as goal

pub joints-requires-clause-states : goal.joints-requires-clause-states
joints-requires-clause-states c =
    subst (All (λ s. s < length c.args.m.now.states)) (sym c.states_at.ensures)
    (All-get_or (IsBlock (length c.args.m.now.states)) c.args.blocks.now c.loop-j.j [] c.loop-j-test.true c.requires.lawful).states

pub joints-requires-clause-blocks : goal.joints-requires-clause-blocks
joints-requires-clause-blocks c = omega (arith, few_blocks (length c.args.m.now.states) c.args.blocks.now c.requires.lawful, c.requires.few)

pub loop-j-init : goal.loop-j-init
loop-j-init c = record {
  size = ap length c.in_ok-lists.ensures.items;
  joints = subst (AreJointsOfEach c.args.m.now c.args.blocks.now) (sym c.in_ok-lists.ensures.items) (no_joints c.args.m.now c.args.blocks.now);
  stays = λ k below. absurd (omega (arith, below));
}

pub loop-j-preserved : goal.loop-j-preserved
loop-j-preserved c =
    let F = c.args.m.now in
    let blocks = c.args.blocks.now in
    let j = c.loop-j.j in
    let joints = c.in_ok-joints.joints in
    let are = subst (λ (states : List ℕ). AreJoints F blocks states joints) c.states_at.ensures c.in_ok-joints.ensures in
    let lead = subst AllLead c.as_slice.ensures c.in_default.ensures.none in
    record {
      size = ap length c.in_ok-push.ensures.items ∙ length_push c.loop-j.lists.items joints ∙ ap (λ (k : ℕ). k + 1) c.loop-j.invariant.size;
      joints = joints_more F blocks c.loop-j.lists.items c.push.new.self.items joints c.loop-j.invariant.joints
          (subst (λ (k : ℕ). AreJoints F blocks (block_at blocks k) joints) (sym c.loop-j.invariant.size) are) lead c.in_ok-push.ensures.items;
      stays = below_more (λ k. AtEachSymbol F.inputs (StaysWithin F blocks k)) j c.loop-j.invariant.stays (stays_from_lead F blocks j joints are lead);
    }

pub returns-in-Some-clause-caused : goal.returns-in-Some-clause-caused
returns-in-Some-clause-caused c =
    let F = c.args.m.now in
    let blocks = c.args.blocks.now in
    let joints = c.in_ok-joints.joints in
    let are = subst (λ (states : List ℕ). AreJoints F blocks states joints) c.states_at.ensures c.in_ok-joints.ensures in
    record {
      block = c.loop-j-test.true;
      symbol = first_leaving_from F blocks c.loop-j.j joints are c.in-Some.x (subst (λ (list : List Joint). IsLeastLeaving list c.in-Some.x) c.as_slice.ensures c.in-Some.ensures.some);
      before = c.loop-j.invariant.stays;
    }

pub returns-clause-closed : goal.returns-clause-closed
returns-clause-closed c j within = c.loop-j.invariant.stays j (omega (arith, within, c.loop-j-test.false))

pub returns-clause-count : goal.returns-clause-count
returns-clause-count c = omega (arith, c.loop-j.invariant.size, c.loop-j-test.false)

pub returns-clause-joints : goal.returns-clause-joints
returns-clause-joints c = c.loop-j.invariant.joints

pub returns-in_err-joints-clause-caused : goal.returns-in_err-joints-clause-caused
returns-in_err-joints-clause-caused c = let p = err_from_is_err_and c.from_residual-in_err-joints.result c.from_residual-in_err-joints.ensures.1 in rw (p.1, p.2) tt

pub returns-in_err-lists-clause-caused : goal.returns-in_err-lists-clause-caused
returns-in_err-lists-clause-caused c = let p = err_from_is_err_and c.from_residual.result c.from_residual.ensures.1 in rw (p.1, p.2) tt

pub returns-in_err-push-clause-caused : goal.returns-in_err-push-clause-caused
returns-in_err-push-clause-caused c = let p = err_from_is_err_and c.from_residual-in_err-push.result c.from_residual-in_err-push.ensures.1 in rw (p.1, p.2) tt

pub overflow_cast-result : goal.overflow_cast-result
overflow_cast-result c = omega (arith, c.loop-j-test.true, few_blocks (length c.args.m.now.states) c.args.blocks.now c.requires.lawful, c.requires.few)
