use Rattle.std.proofs.Common.{◌≡◌, List, [], ◌∷◌, ◌++◌, subst, sym}
use Rattle.machine_table.specs.declared.pieces.Piece.{Piece}
use Rattle.machine_table.specs.Inner.SettledCubes.{AddsPieces}
use Rattle.machine_table.proofs.SettledCubes.{one_piece, pieces_of_halves}
use Rattle.machine_table.proofs.machine.Machine.+add_pieces.Goals as goal

pub returns-in_default : goal.returns-in_default
returns-in_default t c =
    let piece : Piece = record { cube = c.args.cube; next = c.one_next-next.result; outputs = c.one_word-outputs.result } in
    let pushed : c.push.new.self.items ≡ c.args.pieces.now.items ++ piece ∷ [] = c.in_ok-push.ensures.items in
    subst (λ (list : List Piece). AddsPieces c.args.self.now c.args.s c.args.cube c.args.pieces.now.items list) (sym pushed)
    (one_piece c.args.self.now c.args.s piece c.args.pieces.now.items
    (record {
      width = c.requires.width;
      next_state = λ x within held. c.one_next-next.ensures x held;
      outputs = λ x within held. c.one_word-outputs.ensures.outputs x held;
      no_more = c.one_word-outputs.ensures.below;
    }))

pub returns : goal.returns
returns t c =
    pieces_of_halves c.args.self.now c.args.s c.args.cube c.half.result c.half-2.result c.in-Some.place c.half.ensures.half c.half-2.ensures.half
    c.args.pieces.now.items c.add_pieces.new.pieces.items c.add_pieces-2.new.pieces.items c.in_ok-add_pieces.ensures c.in_ok-add_pieces-2.ensures
