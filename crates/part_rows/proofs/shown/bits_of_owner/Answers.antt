use Rattle.std.proofs.Common.{◌+◌, ◌∷◌, ◌++◌, [], Bool, List, ℕ, sym, subst, ◌∙◌}
use Rattle.part_rows.specs.Inner.Shown.{HasBits}
use Rattle.part_rows.proofs.OwnBits.{AreFirstBits, first_passed, first_taken}
use Rattle.part_rows.proofs.shown.bits_of_owner.Goals.{then-from-j, else-from-j}
use Rattle.part_rows.proofs.shown.bits_of_owner.Goals as goal

pub loop-c-preserved : goal.loop-c-preserved
loop-c-preserved c =
    let owners : List ℕ = c.args.owners.now in
    let k : ℕ = c.loop-c.c in
    elim c.if-from-j.branch [
      | then-from-j w ↦
          subst (AreFirstBits owners c.args.j c.args.word (k + 1)) (sym w.bits-is)
          (first_taken owners c.args.j c.args.word k c.loop-c.bits c.loop-c.invariant (sym c.from.ensures ∙ w.if-from-j.true) w.with_last-bits.result
          (λ list has. subst (λ (last : Bool). HasBits (list ++ last ∷ []) w.with_last-bits.result) w.bit.ensures (w.with_last-bits.ensures list has)))
      | else-from-j w ↦
          subst (AreFirstBits owners c.args.j c.args.word (k + 1)) (sym w.bits-is)
          (first_passed owners c.args.j c.args.word k c.loop-c.bits c.loop-c.invariant (λ here. w.if-from-j.false (c.from.ensures ∙ here)))
    ]
