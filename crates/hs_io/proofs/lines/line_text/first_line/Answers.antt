use Rattle.std.proofs.Common.{◌+◌, ℕ, List, ◌∷◌, take, drop, sym, ◌∙◌, ap}
use Rattle.hs_io.specs.Lines.{physical_lines}
use Rattle.hs_io.proofs.Cuts.{physical_lines-step}
use Rattle.hs_io.proofs.lines.line_text.first_line.Goals as goal

pub returns-clause-lines : goal.returns-clause-lines
returns-clause-lines c =
    let text = c.args.text.now in
    let end = c.first_cut-end.result in
    physical_lines-step text c.requires
    ∙ (ap (λ (n : ℕ). take n text ∷ physical_lines (drop (n + 1) text)) (sym c.first_cut-end.ensures.place)
    ∙ ap (λ (list : List ℕ). take end text ∷ physical_lines list) (sym c.after.ensures))
