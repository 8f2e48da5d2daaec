use Rattle.std.proofs.Common.{ℕ, List, ◌++◌, ap, ◌∙◌}
use Rattle.std.specs.Fmt.{decimal}
use Rattle.std.specs.List.{flat_map}
use Rattle.list_facts.specs.Laws.Appending.{text_more}
use Rattle.blif_out.specs.Inner.Pieces.{comma_number}
use Rattle.blif_out.proofs.Appending.{joined-is}
use Rattle.blif_out.proofs.fields.append_joined.Goals as goal

pub returns : goal.returns
returns c =
    text_more c.args.text.now.items _ _ (decimal c.args.first) (flat_map comma_number c.args.others.now) (c.in_ok-append_number.ensures ∙ ap (λ (n : ℕ). c.args.text.now.items ++ decimal n) c.from.ensures) c.in_ok-append_others.ensures
    ∙ ap (λ (t : List ℕ). c.args.text.now.items ++ t) (joined-is c.args.first c.args.others.now)
