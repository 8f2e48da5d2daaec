use Rattle.std.proofs.Common.{List, All, subst, sym}
use Rattle.machine_table.specs.declared.pieces.Piece.{Piece}
use Rattle.machine_table.specs.Pieces.{IsPiece}
use Rattle.machine_table.proofs.SettledCubes.{no_pieces}
use Rattle.machine_table.proofs.machine.Machine.pieces.Goals as goal

pub returns-clause-each : goal.returns-clause-each
returns-clause-each c x within = c.in_ok-add_pieces.ensures.each x (c.whole.ensures.all x)

pub returns-clause-right : goal.returns-clause-right
returns-clause-right c =
    c.in_ok-add_pieces.ensures.right
    (subst (λ (list : List Piece). All (IsPiece c.args.self.now c.args.s) list) (sym c.new-pieces.ensures.items) (no_pieces c.args.self.now c.args.s))

pub pieces_of_rows-requires-clause-specified : goal.pieces_of_rows-requires-clause-specified
pieces_of_rows-requires-clause-specified c = c.is_complete.ensures.specified c.if-is_complete.true
