use Rattle.std.proofs.Common.{arith}
use Rattle.partition.specs.Laws.Labels.{blocks_of-le}
use Rattle.partition.specs.Laws.FirstAppearance.{numbering_step}
use Rattle.partition.proofs.numbering.numbered.Goals as goal

pub label_for-label-requires-clause-room : goal.label_for-label-requires-clause-room
label_for-label-requires-clause-room c =
    let so_far = c.loop-value.invariant.so_far in
    omega (arith, blocks_of-le c.loop-value.labels.items so_far.numbered, so_far.size, so_far.count, c.requires.states.1)

pub loop-value-preserved : goal.loop-value-preserved
loop-value-preserved c = record {
  so_far =
      rw c.in_ok-push.ensures.items (
      numbering_step c.args.values.now c.loop-value.value-index c.loop-value.seen c.label_for-label.new.seen c.loop-value.labels.items c.loop-value.blocks c.label_for-label.new.blocks c.label_for-label.result c.loop-value.invariant.so_far
      (omega (arith, c.requires.bounded c.loop-value.value-index (omega arith), c.loop-value.invariant.room))
      c.label_for-label.ensures);
  room = grind arith;
}
