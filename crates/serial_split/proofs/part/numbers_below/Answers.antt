use Rattle.std.proofs.Common.{ℕ, List, [], ◌∷◌, ◌++◌, sym, ap, ◌∙◌}
use Rattle.serial_split.proofs.Numbers.{range_more}
use Rattle.serial_split.proofs.part.numbers_below.Goals as goal

pub loop-part-preserved : goal.loop-part-preserved
loop-part-preserved c =
    c.in_ok-push.ensures.ok ∙ ap (λ (front : List ℕ). front ++ c.loop-part.part ∷ []) c.loop-part.invariant ∙ sym (range_more c.loop-part.part)
