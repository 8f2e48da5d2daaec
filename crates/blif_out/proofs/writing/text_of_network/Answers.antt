use Rattle.std.proofs.Common.{ℕ, List, ◌++◌, ap, ◌∙◌}
use Rattle.blif_out.specs.NetText.{net_text}
use Rattle.blif_out.proofs.NetworkTexts.{text_is}
use Rattle.blif_out.proofs.writing.text_of_network.Goals as goal

pub returns : goal.returns
returns c =
    text_is c.args.design.now c.args.made.now.comments c.args.made.now.network _ c.requires.made.comments c.requires.made.network c.requires.design
    (c.in_ok-append_network.ensures ∙ ap (λ (t : List ℕ). t ++ net_text c.args.design.now c.args.made.now.network) (c.in_ok-text.ensures.items ∙ c.as_slice.ensures))
