use Rattle.std.proofs.Common.{ℕ, List, ◌++◌, ap, ◌∙◌}
use Rattle.std.specs.List.{flat_map}
use Rattle.list_facts.specs.Laws.Appending.{text_more}
use Rattle.blif_out.specs.Inner.Pieces.{row_line}
use Rattle.blif_out.proofs.Whole.{gate_lines-are}
use Rattle.blif_out.proofs.network_text.append_gate.Goals as goal

pub returns : goal.returns
returns c =
    text_more c.args.text.now.items _ _ _ _ c.in_ok-append_gate_names.ensures (c.in_ok-append_rows.ensures ∙ ap (λ (rows : List (List ℕ)). c.append_gate_names.new.text.items ++ flat_map row_line rows) c.as_slice.ensures)
    ∙ ap (λ (t : List ℕ). c.args.text.now.items ++ t) (gate_lines-are c.args.gate.now)
