use Rattle.std.proofs.Common.{ℕ, ◌+◌, List, ◌∙◌, sym, subst}
use Rattle.std.proofs.lemmas.Bool.{true≢false}
use Rattle.dependence.specs.BitLists.{AreListed}
use Rattle.dependence.specs.SufficientBits.{InWord}
use Rattle.dependence.proofs.Listed.{listed_past, listed_with}
use Rattle.dependence.proofs.words.numbers_of.Goals as goal
use Rattle.dependence.proofs.words.numbers_of.Goals.{then-has_bit+in_ok-push, else-has_bit}

pub loop-c-preserved : goal.loop-c-preserved
loop-c-preserved c = elim c.if-has_bit.branch [
  | then-has_bit+in_ok-push w ↦
      let in_set : InWord c.args.set c.loop-c.c = subst (InWord c.args.set) c.from.ensures (c.has_bit.ensures.0 w.if-has_bit.true) in
      subst (λ (list : List ℕ). AreListed list c.args.set (c.loop-c.c + 1)) (sym (w.numbers-is ∙ w.in_ok-push.ensures.ok)) (listed_with c.loop-c.numbers c.args.set c.loop-c.c c.loop-c.invariant in_set)
  | else-has_bit w ↦
      subst (λ (list : List ℕ). AreListed list c.args.set (c.loop-c.c + 1)) (sym w.numbers-is)
      (listed_past c.loop-c.numbers c.args.set c.loop-c.c c.loop-c.invariant (λ in_set. true≢false (sym (c.has_bit.ensures.1 (subst (InWord c.args.set) (sym c.from.ensures) in_set)) ∙ w.if-has_bit.false)))
]
