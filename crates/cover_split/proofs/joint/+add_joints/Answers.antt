use Rattle.std.proofs.Common.{ℕ, ◌^◌, List, refl, subst, sym, ap, arith}
use Rattle.machine_table.specs.declared.pieces.Piece.{Piece}
use Rattle.cover_split.specs.declared.joint.Joint.{Joint}
use Rattle.cover_split.specs.Inner.Joints.{AreListsMet, IsSettled, IsTargetOf}
use Rattle.cover_split.proofs.JointLemmas.{joints_of_halves, one_joint, spread_lists, widths_of}
use Rattle.cover_split.proofs.joint.+add_joints.Goals as goal

pub meeting-requires : goal.meeting-requires
meeting-requires t c = widths_of c.args.cube c.half-low.result c.args.lists.now c.half-low.ensures.half.width c.requires.lists

pub meeting-requires-in-Halve : goal.meeting-requires-in-Halve
meeting-requires-in-Halve t c = widths_of c.args.cube c.half-high.result c.args.lists.now c.half-high.ensures.half.width c.requires.lists

pub add_joints-requires : goal.add_joints-requires
add_joints-requires t c = (
  omega (arith, c.decreases, ap (λ (w : ℕ). 2 ^ w) c.half-low.ensures.half.width, c.half-low.ensures.care, c.half-low.result.care_in_width),
  (
    spread_lists c.args.cube c.half-low.result _ _ c.half-low.ensures.half c.args.lists.now c.as_slice-low_lists.result.now c.requires.lists
        (subst (AreListsMet c.half-low.result c.args.lists.now) (sym c.as_slice-low_lists.ensures.value) c.in_ok-met_low-in-Halve.ensures),
    c.requires.blocks,
  ),
)

pub add_joints-requires-in-Halve : goal.add_joints-requires-in-Halve
add_joints-requires-in-Halve t c = (
  omega (arith, c.decreases, ap (λ (w : ℕ). 2 ^ w) c.half-high.ensures.half.width, c.half-high.ensures.care, c.half-high.result.care_in_width),
  (
    spread_lists c.args.cube c.half-high.result _ _ c.half-high.ensures.half c.args.lists.now c.as_slice-high_lists.result.now c.requires.lists
        (subst (AreListsMet c.half-high.result c.args.lists.now) (sym c.as_slice-high_lists.ensures.value) c.in_ok-met_high-in-Halve.ensures),
    c.requires.blocks,
  ),
)

pub returns-in_ok-push-in-Whole : goal.returns-in_ok-push-in-Whole
returns-in_ok-push-in-Whole t c =
    let joint : Joint = record { cube = c.args.cube; pieces = c.in-Whole.pieces; target = c.first_target-target.result } in
    one_joint c.args.blocks.now c.args.lists.now c.args.cube joint c.args.joints.now c.push.new.self refl (subst (IsSettled c.args.cube c.args.lists.now) c.in-Whole.is c.in_ok-pieces.ensures)
    (subst (λ (pieces : List Piece). IsTargetOf c.args.blocks.now pieces c.first_target-target.result) c.as_slice-found.ensures c.first_target-target.ensures) c.in_ok-push-in-Whole.ensures.ok

pub returns-in_ok-add_joints-in-Halve-2 : goal.returns-in_ok-add_joints-in-Halve-2
returns-in_ok-add_joints-in-Halve-2 t c =
    let low_met = subst (AreListsMet c.half-low.result c.args.lists.now) (sym c.as_slice-low_lists.ensures.value) c.in_ok-met_low-in-Halve.ensures in
    let high_met = subst (AreListsMet c.half-high.result c.args.lists.now) (sym c.as_slice-high_lists.ensures.value) c.in_ok-met_high-in-Halve.ensures in
    joints_of_halves c.args.blocks.now c.args.lists.now c.args.cube c.half-low.result c.half-high.result _ c.half-low.ensures.half c.half-high.ensures.half
    c.as_slice-low_lists.result.now c.as_slice-high_lists.result.now low_met high_met _ _ _ c.in_ok-add_joints-in-Halve.ensures c.in_ok-add_joints-in-Halve-2.ensures
