use Rattle.std.proofs.Common.{ap, ◌∙◌, codes}
use Rattle.std.proofs.lemmas.Result.{IfOk-weaker}
use Rattle.std.specs.Fmt.{decimal}
use Rattle.hs_texts.specs.ErrLines.{as_line}
use Rattle.hs_texts.proofs.Joining.{two_pairs_and}
use Rattle.hs_texts.proofs.err_lines.part_name.Goals as goal

pub returns : goal.returns
returns c =
    IfOk-weaker c.numbered_line.result _ _ (λ line is. is ∙ ap as_line (two_pairs_and (codes "hsdec: part ") (decimal c.args.part) (codes " has a name of ") (decimal c.args.bytes) (codes " bytes"))) c.numbered_line.ensures
