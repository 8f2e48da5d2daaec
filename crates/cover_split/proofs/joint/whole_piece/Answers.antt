use Rattle.std.proofs.Common.{◌∙◌, sym}
use Rattle.std.proofs.lemmas.Bool.{false≢true}
use Rattle.cover_split.proofs.JointLemmas.{looked_past, some_looked_at}
use Rattle.cover_split.proofs.joint.whole_piece.Goals as goal

pub meets-requires : goal.meets-requires
meets-requires c = sym (c.requires.width c.piece-item.result (c.loop-piece.piece-index, c.loop-piece-test.true, sym c.piece-item.is))

pub free_place-requires-clause-width : goal.free_place-requires-clause-width
free_place-requires-clause-width c = sym (c.requires.width c.piece-item.result (c.loop-piece.piece-index, c.loop-piece-test.true, sym c.piece-item.is))

pub loop-piece-preserved-then-not-meets : goal.loop-piece-preserved-then-not-meets
loop-piece-preserved-then-not-meets c =
    looked_past c.args.cube.now c.args.pieces.now c.loop-piece.piece-index c.loop-piece.place c.piece-item.result c.loop-piece.invariant c.loop-piece-test.true c.piece-item.is
    (λ it. false≢true (sym c.if-not-meets.true ∙ c.meets.ensures.1 it))

pub unreachable-requires : goal.unreachable-requires
unreachable-requires c =
    some_looked_at c.args.cube.now c.args.pieces.now c.loop-piece.piece-index c.loop-piece.place c.requires c.loop-piece-test.false c.loop-piece.invariant c.in-None.is
