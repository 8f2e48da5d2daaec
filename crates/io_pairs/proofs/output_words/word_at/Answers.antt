use Rattle.std.proofs.Common.{sym, subst}
use Rattle.machine_table.specs.Pieces.{IsPiece}
use Rattle.machine_table.specs.declared.pieces.Piece.{Piece}
use Rattle.io_pairs.proofs.Words.{piece_word}
use Rattle.io_pairs.proofs.output_words.word_at.Goals as goal

pub returns-then-holds : goal.returns-then-holds
returns-then-holds c =
    let F = c.args.m.now in
    let piece : Piece = c.piece-item.result in
    piece_word F c.args.s c.args.x piece c.requires.x
    (subst (λ (p : Piece). IsPiece F c.args.s p) (sym c.piece-item.is) (c.requires.right c.loop-piece.piece-index piece c.loop-piece-test.true))
    (c.holds.ensures.0 c.if-holds.true)
