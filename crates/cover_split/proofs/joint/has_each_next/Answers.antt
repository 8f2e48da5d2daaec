use Rattle.std.proofs.Common.{List, Contains, refl, subst, sym, ◌∙◌}
use Rattle.std.proofs.lemmas.Bool.{false≢true}
use Rattle.std.proofs.lemmas.List.{take_all}
use Rattle.std.proofs.lemmas.List.Elements.{All-get_or, All-more}
use Rattle.machine_table.specs.declared.pieces.Piece.{Piece}
use Rattle.cover_split.specs.Inner.Joints.{HasEachNext}
use Rattle.cover_split.proofs.joint.has_each_next.Goals as goal

pub loop-piece-preserved : goal.loop-piece-preserved
loop-piece-preserved c =
    let piece = c.piece-item.result in
    let P : Piece → Type 0 = λ p. Contains c.args.block.now p.next in
    All-more P c.args.pieces.now c.loop-piece.piece-index piece c.loop-piece-test.true c.loop-piece.invariant
    (subst P c.piece-item.is (c.has_state.ensures.0 c.if-not-has_state.false))

pub returns-then-not-has_state : goal.returns-then-not-has_state
returns-then-not-has_state c =
    let piece = c.piece-item.result in
    let P : Piece → Type 0 = λ p. Contains c.args.block.now p.next in (
      (λ no. absurd (false≢true no)),
      (λ all. absurd (false≢true (sym c.if-not-has_state.true ∙ c.has_state.ensures.1
          (subst P (sym c.piece-item.is) (All-get_or P c.args.pieces.now c.loop-piece.piece-index piece c.loop-piece-test.true all))))),
    )

pub returns : goal.returns
returns c = (
  (λ _. subst (λ (xs : List Piece). HasEachNext xs c.args.block.now) (take_all c.loop-piece.piece-index c.args.pieces.now c.loop-piece-test.false) c.loop-piece.invariant),
  (λ _. refl),
)
