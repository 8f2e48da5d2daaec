use Rattle.std.proofs.Common.{◌≡◌, ◌+◌, max, get_or, take, arith, below_more}
use Rattle.partition.specs.Partition.{blocks_of}
use Rattle.partition.specs.Refusal.{IsLawfulLabel}
use Rattle.partition.specs.Laws.Labels.{blocks_of-take-more}
use Rattle.partition.proofs.text.blocks_named.Goals as goal
use Rattle.partition.proofs.text.blocks_named.Goals.{then-block-blocks-2, else-block-blocks-2}

pub loop-place-preserved : goal.loop-place-preserved
loop-place-preserved c =
    let more : blocks_of (take (c.loop-place.place + 1) c.args.labels.now) ≡ max (blocks_of (take c.loop-place.place c.args.labels.now)) (get_or c.args.labels.now c.loop-place.place 0 + 1) = blocks_of-take-more c.args.labels.now c.loop-place.place (omega arith) in
    record {
      count = elim c.if-block-blocks-2.branch [
        | then-block-blocks-2 w ↦ omega (arith, more)
        | else-block-blocks-2 w ↦ omega (arith, more)
      ];
      lawful = below_more (IsLawfulLabel c.args.labels.now) _ c.loop-place.invariant.lawful (omega arith, omega arith);
    }
