use Rattle.std.proofs.Common.{◌≡◌, ℕ, ◌+◌, ◌++◌, ◌∷◌, [], List, ◌==◌, Bool, not, cond, ap, sym, ◌∙◌}
use Rattle.std.proofs.lemmas.Bool.{eq-eqb, ne_eqb}
use Rattle.std.proofs.lemmas.List.{append-nil}
use Rattle.state_codes.specs.Split.{others}
use Rattle.state_codes.proofs.Numbers.{others-more}
use Rattle.state_codes.proofs.split.all_but.Goals as goal
use Rattle.state_codes.proofs.split.all_but.Goals.{then-part-j+in_ok-push, else-part-j}

pub loop-part-preserved : goal.loop-part-preserved
loop-part-preserved c =
    let part : ℕ = c.loop-part.part in
    let more : others (part + 1) c.args.j ≡ others part c.args.j ++ cond (not (part == c.args.j)) (part ∷ []) [] = others-more part c.args.j in
    elim c.if-part-j.branch [
      | then-part-j+in_ok-push w ↦
          w.numbers-is ∙ w.in_ok-push.ensures.ok ∙ ap (λ (front : List ℕ). front ++ part ∷ []) c.loop-part.invariant
          ∙ sym (more ∙ ap (λ (b : Bool). others part c.args.j ++ cond (not b) (part ∷ []) []) (ne_eqb part c.args.j w.if-part-j.true))
      | else-part-j w ↦
          w.numbers-is ∙ c.loop-part.invariant
          ∙ sym (more ∙ ap (λ (b : Bool). others part c.args.j ++ cond (not b) (part ∷ []) []) (eq-eqb part c.args.j w.if-part-j.false) ∙ append-nil (others part c.args.j))
    ]
