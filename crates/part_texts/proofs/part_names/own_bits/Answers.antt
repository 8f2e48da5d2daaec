use Rattle.std.proofs.Common.{◌≡◌, ◌∙◌, ℕ, List, [], ◌∷◌, ◌++◌, get_or, sym, ap}
use Rattle.part_texts.proofs.OwnBits.{other_left_out, own_added}
use Rattle.part_texts.proofs.part_names.own_bits.Goals as goal
use Rattle.part_texts.proofs.part_names.own_bits.Goals.{then-from-part+in_ok-push, else-from-part}

pub loop-c-preserved : goal.loop-c-preserved
loop-c-preserved c =
    let owner : c.from.result ≡ get_or c.args.codes.now.owner c.loop-c.c 0 = c.from.ensures ∙ ap (λ (list : List ℕ). get_or list c.loop-c.c 0) c.as_slice-owner-items.ensures in
    elim c.if-from-part.branch [
      | then-from-part+in_ok-push w ↦
          ap (λ own. own.items) w.own-is ∙ w.in_ok-push.ensures.items ∙ ap (λ (list : List ℕ). list ++ c.loop-c.c ∷ []) c.loop-c.invariant
          ∙ own_added c.args.codes.now.owner c.args.part c.loop-c.c (sym owner ∙ w.if-from-part.true)
      | else-from-part w ↦
          ap (λ own. own.items) w.own-is ∙ c.loop-c.invariant ∙ other_left_out c.args.codes.now.owner c.args.part c.loop-c.c (λ same. w.if-from-part.false (owner ∙ same))
    ]
