use Rattle.std.proofs.Common.{ℕ, List, ◌++◌, ap, ◌∙◌, codes}
use Rattle.std.proofs.lemmas.Result.{IfOk-weaker}
use Rattle.hs_texts.specs.ErrLines.{as_line}
use Rattle.hs_texts.proofs.Joining.{four_pieces}
use Rattle.hs_texts.proofs.err_lines.cover_leaves.Goals as goal

pub returns : goal.returns
returns c =
    let block = c.as_bytes.ensures.value ∙ c.in_ok-block.ensures.ok in
    IfOk-weaker c.line_of.result _ _ (λ line is. is ∙ ap as_line (four_pieces (codes "hsdec: cover block ") c.as_bytes.result.now (codes " leaves at symbol ") c.args.symbol.now ∙ ap (λ (b : List ℕ). codes "hsdec: cover block " ++ b ++ codes " leaves at symbol " ++ c.args.symbol.now) block)) c.line_of.ensures
