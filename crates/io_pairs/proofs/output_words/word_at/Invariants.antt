use Rattle.std.proofs.Common.{◌<◌, ℕ, get_or}
use Rattle.cubes.specs.Cube.{HoldsNumber}
use Rattle.machine_table.specs.declared.pieces.Piece.{Piece}
use Rattle.io_pairs.proofs.output_words.word_at.Given as goal

abbrev pub invariant-loop-piece : goal.invariant-loop-piece
invariant-loop-piece l = (k : ℕ) (d : Piece) → k < l.piece-index → HoldsNumber (get_or l.pieces k d).cube l.x → ⊥
