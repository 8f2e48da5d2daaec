-- What a machine does on a cube at whose symbols each row holds all or none, and the halves of a cube.
use Rattle.std.proofs.Common.{◌≡◌, ℕ, true, false, List, [], ◌∷◌, ◌++◌, All, Contains, inl, inr, sym, ◌∙◌, refl, arith}
use Rattle.std.proofs.lemmas.Bool.{cases_Bool}
use Rattle.std.proofs.lemmas.List.Elements.{All-push, Contains-append_left, Contains-append_right}
use Rattle.cubes.specs.declared.cube.Cube.{Cube}
use Rattle.cubes.specs.Cube.{HoldsNumber, IsHalf}
use Rattle.cubes.specs.Symbol.{bit, symbol_of}
use Rattle.cubes.specs.Laws.Parts.{half_from_whole}
use Rattle.kiss_file.specs.declared.file.KissFile.{KissFile}
use Rattle.kiss_file.specs.declared.file.KissRow.{KissRow}
use Rattle.kiss_file.specs.Machine.{Conflicting, IsRowAt, next, out, output_bit}
use Rattle.kiss_file.specs.Laws.Machine.{next_not_said, next_said}
use Rattle.machine_table.specs.declared.pieces.Piece.{Piece}
use Rattle.machine_table.specs.Pieces.{IsHeldByPiece, IsPiece}
use Rattle.machine_table.specs.Inner.SettledCubes.{AddsPieces, IsSettledIn}
use Rattle.state_pairs.specs.Table.{IsTable}
use Rattle.state_pairs.specs.Laws.Labels.{label_or_open}
use Rattle.machine_table.proofs.OutputLabels.{bit_from_digit, given_label, when_given, when_not_given}
use Rattle.machine_table.specs.Laws.OutputWords.{same_map}
use Rattle.state_pairs.specs.Laws.Sought.{at_from_held, held_from_at, row_from_at}

module _ (F : KissFile) (table : IsTable F) (no_conflict : Conflicting F → ⊥) (s : ℕ) (cube : Cube) (settled : IsSettledIn F s cube) where
  -- a row at one symbol of the cube is a row at another
  moved : (y z : ℕ) → HoldsNumber cube y → HoldsNumber cube z → (row : KissRow) → IsRowAt F s (symbol_of F.inputs y) row → IsRowAt F s (symbol_of F.inputs z) row
  moved y z first second row at =
      at_from_held F table s z row (row_from_at F table s y row at)
      (settled row (row_from_at F table s y row at) y z first second (held_from_at F table s y row at))

  pub settled_next : (y z : ℕ) → HoldsNumber cube y → HoldsNumber cube z → next F s (symbol_of F.inputs y) ≡ next F s (symbol_of F.inputs z)
  settled_next y z first second =
      elim (label_or_open F table (λ row. row.to) s y) [
        | inl (v, (row, at, says)) ↦
            next_said F s (symbol_of F.inputs y) no_conflict row v at says
            ∙ sym (next_said F s (symbol_of F.inputs z) no_conflict row v (moved y z first second row at) says)
        | inr silent ↦
            next_not_said F s (symbol_of F.inputs y) silent
            ∙ sym (next_not_said F s (symbol_of F.inputs z) (λ row at. silent row (moved z y second first row at)))
      ]

  settled_bit : (b y z : ℕ) → HoldsNumber cube y → HoldsNumber cube z
      → output_bit F s (symbol_of F.inputs y) b ≡ output_bit F s (symbol_of F.inputs z) b
  settled_bit b y z first second =
      bit_from_digit (output_bit F s (symbol_of F.inputs y) b) (output_bit F s (symbol_of F.inputs z) b)
      (elim (label_or_open F table (given_label b) s y) [
        | inl (v, (row, at, gives)) ↦
            when_given F no_conflict b s y v (row, at, gives)
            ∙ sym (when_given F no_conflict b s z v (row, moved y z first second row at, gives))
        | inr silent ↦
            when_not_given F no_conflict b s y silent
            ∙ sym (when_not_given F no_conflict b s z (λ row at. silent row (moved z y second first row at)))
      ])

  pub settled_out : (y z : ℕ) → HoldsNumber cube y → HoldsNumber cube z → out F s (symbol_of F.inputs y) ≡ out F s (symbol_of F.inputs z)
  settled_out y z first second =
      same_map (output_bit F s (symbol_of F.inputs y)) (output_bit F s (symbol_of F.inputs z)) F.outputs (λ b within. settled_bit b y z first second)

last : {X : Type 0} (xs : List X) (x : X) → Contains (xs ++ x ∷ []) x
last xs x = Contains-append_right xs (x ∷ []) x (0, omega arith, refl)

module _ (F : KissFile) (s : ℕ) (cube low high : Cube) (place : ℕ) (is_low : IsHalf cube low place false) (is_high : IsHalf cube high place true) where
  -- pieces of both halves are pieces of the cube
  pub pieces_of_halves : (old some more : List Piece) → AddsPieces F s low old some → AddsPieces F s high some more → AddsPieces F s cube old more
  pieces_of_halves old some more first second = record {
    right = λ each. second.right (first.right each);
    kept = λ x held. second.kept x (first.kept x held);
    each = each_of;
  }
    where
      each_of : (x : ℕ) → HoldsNumber cube x → IsHeldByPiece more x
      each_of x held =
          elim (cases_Bool (bit x place)) [
            | inl one ↦ second.each x (half_from_whole cube high place true is_high x (held, one))
            | inr none ↦ second.kept x (first.each x (half_from_whole cube low place false is_low x (held, none)))
          ]

-- one more piece
pub held_still : (old : List Piece) (piece : Piece) (x : ℕ) → IsHeldByPiece old x → IsHeldByPiece (old ++ piece ∷ []) x
held_still old piece x held = (held.0, Contains-append_left old (piece ∷ []) held.0 held.1, held.2)

pub held_by_last : (old : List Piece) (piece : Piece) (x : ℕ) → HoldsNumber piece.cube x → IsHeldByPiece (old ++ piece ∷ []) x
held_by_last old piece x held = (piece, last old piece, held)

-- one piece for the cube
pub one_piece : (F : KissFile) (s : ℕ) (piece : Piece) (old : List Piece) → IsPiece F s piece → AddsPieces F s piece.cube old (old ++ piece ∷ [])
one_piece F s piece old is = record {
  right = λ each. All-push (IsPiece F s) old piece each is;
  kept = held_still old piece;
  each = held_by_last old piece;
}

-- no piece is a wrong one
pub no_pieces : (F : KissFile) (s : ℕ) → All (IsPiece F s) []
no_pieces F s k d within = absurd (omega arith)
