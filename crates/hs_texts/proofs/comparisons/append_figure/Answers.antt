use Rattle.std.proofs.Common.{List, ℕ, [], ◌∷◌, ◌++◌, ap, ◌∙◌}
use Rattle.std.specs.Fmt.{decimal}
use Rattle.hs_texts.proofs.Joining.{figure_is}
use Rattle.hs_texts.proofs.comparisons.append_figure.Goals as goal

pub returns : goal.returns
returns c =
    c.in_ok-append_number.ensures
    ∙ ap (λ (t : List ℕ). (t ++ 32 ∷ []) ++ decimal c.args.number) c.in_ok-append_name.ensures
    ∙ figure_is c.args.line.now.items c.args.label.now (decimal c.args.number)
