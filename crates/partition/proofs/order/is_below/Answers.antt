use Rattle.std.proofs.Common.{arith}
use Rattle.std.proofs.lemmas.Bool.{false≢true}
use Rattle.partition.specs.Laws.Labels.{label-le}
use Rattle.partition.proofs.Comparing.{above_new, above_old, above_fails}
use Rattle.partition.proofs.order.is_below.Goals as goal
use Rattle.partition.proofs.order.is_below.Goals.{then-block-blocks, else-block-blocks+else-above-block}

pub bounds-above-block : goal.bounds-above-block
bounds-above-block c = omega (arith, label-le c.args.p.now c.requires.lawful.numbered c.loop-s.s (omega arith))

pub bounds-above-block-else-block-blocks : goal.bounds-above-block-else-block-blocks
bounds-above-block-else-block-blocks c = omega (arith, label-le c.args.p.now c.requires.lawful.numbered c.loop-s.s (omega arith))

pub returns-then-above-block : goal.returns-then-above-block
returns-then-above-block c = (
  λ wrong. absurd (false≢true wrong),
  λ le. absurd (above_fails c.args.p.now c.args.q.now c.loop-s.above _ c.loop-s.s c.requires.lawful.numbered (omega arith) c.loop-s.invariant c.if-block-blocks.false c.if-above-block.true le),
)

pub loop-s-preserved : goal.loop-s-preserved
loop-s-preserved c =
    let numbered = c.requires.lawful.numbered in
    elim c.if-block-blocks.branch [
      | then-block-blocks w ↦ rw (w.above-is, w.blocks-is) (above_new c.args.p.now c.args.q.now c.loop-s.above _ c.loop-s.s numbered (omega arith) (omega arith) c.loop-s.invariant w.if-block-blocks.true)
      | else-block-blocks+else-above-block w ↦ rw (w.above-is, w.blocks-is) (above_old c.args.p.now c.args.q.now c.loop-s.above _ c.loop-s.s numbered (omega arith) c.loop-s.invariant w.if-block-blocks.false w.if-above-block.false)
    ]
