use Rattle.std.proofs.Common.{ℕ, ◌≡◌, ◌∷◌, ◌++◌, List, [], All, get_or, subst, sym, arith}
use Rattle.std.proofs.lemmas.List.Elements.{All-push, Contains-get_or}
use Rattle.cubes.specs.declared.cube.Cube.{Cube}
use Rattle.cubes.specs.Cube.{HoldsNumber}
use Rattle.cubes.specs.Symbol.{symbol_of}
use Rattle.cubes.specs.Laws.Numbers.{length-symbol_of}
use Rattle.kiss_file.specs.declared.file.KissRow.{KissRow}
use Rattle.machine_table.specs.declared.pieces.Piece.{Piece}
use Rattle.machine_table.specs.Pieces.{IsHeldByPiece, IsPiece}
use Rattle.state_pairs.specs.RowLabels.{IsOfState}
use Rattle.state_pairs.specs.Laws.Asking.{looked_at, of_each_row}
use Rattle.machine_table.proofs.RowPieces.{row_is_piece}
use Rattle.machine_table.proofs.SettledCubes.{held_by_last, held_still, no_pieces}
use Rattle.state_pairs.specs.Laws.Sought.{row_of}
use Rattle.machine_table.proofs.machine.Machine.pieces_of_rows.Goals.{After-row}
use Rattle.machine_table.proofs.machine.Machine.pieces_of_rows.Goals as goal

pub loop-number-init : goal.loop-number-init
loop-number-init c = record {
  right = subst (λ (list : List Piece). All (IsPiece c.args.self.now c.args.s) list) (sym c.in_ok-pieces.ensures.items) (no_pieces c.args.self.now c.args.s);
  each = λ k d row before at x held. absurd (omega (arith, before));
}

this_row : (c : After-row) → IsOfState c.args.self.now c.args.s c.row.result.now
this_row c =
    let place = get_or c.numbers_of-numbers.result.now c.loop-number.number-index 0 in
    row_of c.args.self.now c.args.s place c.row.result.now
    (c.numbers_of-numbers.ensures.own place (Contains-get_or c.numbers_of-numbers.result.now c.loop-number.number-index 0 c.loop-number-test.true)) c.row.ensures.row

pub piece_of_row-requires : goal.piece_of_row-requires
piece_of_row-requires c =
    let row = this_row (goal.at.piece_of_row-requires c).After-row in
    (c.requires.all c.row.result.now row.0 row.1).0

pub loop-number-preserved : goal.loop-number-preserved
loop-number-preserved c =
    let F = c.args.self.now in
    let s = c.args.s in
    let row = c.row.result.now in
    let of_state = this_row (goal.at.loop-number-preserved c).After-row in
    let piece = c.piece_of_row.result in
    let old = c.loop-number.pieces.items in
    let known = c.loop-number.invariant in
    let more : List Piece = old ++ piece ∷ [] in
    let pushed : c.push.new.self.items ≡ more = c.in_ok-push.ensures.items in
    record {
      right = subst (λ (list : List Piece). All (IsPiece F s) list) (sym pushed)
          (All-push (IsPiece F s) old piece known.right
          (row_is_piece F c.numbers_of-numbers.ensures.table c.numbers_of-numbers.ensures.no_conflict s c.requires.all row of_state piece c.piece_of_row.ensures.cube
          c.piece_of_row.ensures.next c.piece_of_row.ensures.outputs));
      each = λ k d r before at x held.
          subst (λ (list : List Piece). IsHeldByPiece list x) (sym pushed)
          (looked_at F.rows c.numbers_of-numbers.result.now c.loop-number.number-index (λ (r : KissRow). (x : ℕ) → HoldsNumber r.cube x → IsHeldByPiece more x) row
          (λ k d r before at x held. held_still old piece x (known.each k d r before at x held)) c.loop-number-test.true c.row.ensures.row
          (λ x held. held_by_last old piece x (subst (λ (cube : Cube). HoldsNumber cube x) (sym c.piece_of_row.ensures.cube) held)) k d r before at x held);
    }

pub returns-clause-right : goal.returns-clause-right
returns-clause-right c = c.loop-number.invariant.right

pub returns-clause-each : goal.returns-clause-each
returns-clause-each c x within =
    let F = c.args.self.now in
    let there = (c.requires.specified c.args.s (symbol_of F.inputs x) c.requires.state (length-symbol_of F.inputs x)).next in
    of_each_row F c.numbers_of-numbers.ensures.table c.args.s x c.numbers_of-numbers.result.now (λ _. IsHeldByPiece c.loop-number.pieces.items x) c.numbers_of-numbers.ensures.each
    (λ k d row below at held. c.loop-number.invariant.each k d row (omega (arith, below, c.loop-number-test.false)) at x held) there.0 there.1
