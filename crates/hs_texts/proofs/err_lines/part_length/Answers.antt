use Rattle.std.proofs.Common.{ap, ◌∙◌, codes}
use Rattle.std.proofs.lemmas.Result.{IfOk-weaker}
use Rattle.std.specs.Fmt.{decimal}
use Rattle.hs_texts.specs.ErrLines.{as_line}
use Rattle.hs_texts.proofs.Joining.{three_pairs}
use Rattle.hs_texts.proofs.err_lines.part_length.Goals as goal

pub returns : goal.returns
returns c =
    IfOk-weaker c.numbered_line.result _ _ (λ line is. is ∙ ap as_line (three_pairs (codes "hsdec: part ") (decimal c.args.part) (codes " has ") (decimal c.args.found) (codes " labels, not ") (decimal c.args.states))) c.numbered_line.ensures
