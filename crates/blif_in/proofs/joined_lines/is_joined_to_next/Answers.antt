use Rattle.std.proofs.Common.{sym, ap, ◌∙◌}
use Rattle.net_core.specs.JoinedLines.{ends_in_backslash}
use Rattle.blif_in.proofs.Lines.{continued_at}
use Rattle.blif_in.proofs.joined_lines.is_joined_to_next.Goals as goal

pub returns-in-len1-up : goal.returns-in-len1-up
returns-in-len1-up c =
    c.ends_backslashed.ensures ∙ ap ends_in_backslash c.bytes.ensures ∙ sym (continued_at c.args.fields.now c.field-item.result c.in-len1-up.len_at_least c.field-item.is)
