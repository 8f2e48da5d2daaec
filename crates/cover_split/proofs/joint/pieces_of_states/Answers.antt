use Rattle.std.proofs.Common.{ℕ, List, All, subst, sym, arith}
use Rattle.machine_table.specs.declared.pieces.Piece.{Piece}
use Rattle.machine_table.specs.Pieces.{IsHeldByPiece, IsPiece}
use Rattle.cover_split.proofs.JointLemmas.{AreListsForBelow, all_lists_for, lists_for_more, no_lists_for}
use Rattle.cover_split.proofs.joint.pieces_of_states.Goals as goal

pub loop-s-init : goal.loop-s-init
loop-s-init c = subst (AreListsForBelow c.args.m.now c.args.states.now 0) (sym c.in_ok-lists.ensures.items) (no_lists_for c.args.m.now c.args.states.now)

pub loop-s-preserved : goal.loop-s-preserved
loop-s-preserved c =
    lists_for_more c.args.m.now c.args.states.now c.loop-s.s-index c.loop-s.lists.items c.push.new.self.items c.from-in-loop-s.result c.loop-s.invariant c.loop-s-test.true
    (subst (λ (s : ℕ). All (IsPiece c.args.m.now s) c.from-in-loop-s.result) c.from.ensures (subst (All (IsPiece c.args.m.now c.from.result)) (sym c.from-in-loop-s.ensures) c.in_ok-pieces.ensures.right))
    (λ x below. subst (λ (list : List Piece). IsHeldByPiece list x) (sym c.from-in-loop-s.ensures) (c.in_ok-pieces.ensures.each x below))
    c.in_ok-push.ensures.items

pub returns : goal.returns
returns c = all_lists_for c.args.m.now c.args.states.now c.loop-s.s-index c.loop-s.lists.items (omega arith) c.loop-s.invariant
