use Rattle.std.proofs.Common.{ℕ, ◌∙◌, replicate, ap, arith}
use Rattle.std.proofs.lemmas.Nat.{one_shl}
use Rattle.std.proofs.lemmas.Result.{IfOk-weaker}
use Rattle.cover_terms.proofs.chart.blank.Goals as goal

pub returns : goal.returns
returns c =
    let few = c.requires in
    IfOk-weaker c.vec.result _ _ (λ chart h. h (λ y is. is) ∙ ap (λ (n : ℕ). replicate n 0) (one_shl c.args.width 64 (omega (arith, few)))) c.vec.ensures.items_if_clones_equal
