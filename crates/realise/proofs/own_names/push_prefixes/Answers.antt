use Rattle.std.proofs.Common.{ℕ, List, ◌++◌, append_assoc, ap, ◌∙◌, sym, codes}
use Rattle.realise.specs.Names.{prefix}
use Rattle.realise.proofs.Free.{prefix_more}
use Rattle.realise.proofs.own_names.push_prefixes.Goals as goal

pub loop-i-preserved : goal.loop-i-preserved
loop-i-preserved c =
    c.in_ok-extend_from_slice.ensures.items
    ∙ (ap (λ (text : List ℕ). text ++ codes "hs_") c.loop-i.invariant
    ∙ (append_assoc c.args.text.now.items (prefix c.loop-i._i) (codes "hs_")
    ∙ ap (λ (rest : List ℕ). c.args.text.now.items ++ rest) (sym (prefix_more c.loop-i._i))))
