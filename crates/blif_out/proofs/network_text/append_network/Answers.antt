use Rattle.std.proofs.Common.{ℕ, List, [], ◌∷◌, ◌++◌, ap, ◌∙◌, codes}
use Rattle.std.specs.List.{flat_map}
use Rattle.hs_io.specs.Spelling.{ended, line_text}
use Rattle.list_facts.specs.Laws.Appending.{text_more}
use Rattle.net_core.specs.declared.Gate.{Gate}
use Rattle.net_core.specs.declared.Latch.{Latch}
use Rattle.net_core.specs.Words.{model_word}
use Rattle.blif_out.specs.Inner.Pieces.{latch_line, gate_lines}
use Rattle.blif_out.proofs.Whole.{net_text-is}
use Rattle.blif_out.proofs.network_text.append_network.Goals as goal

pub returns : goal.returns
returns c =
    let start : List ℕ = c.args.text.now.items in
    let model = c.in_ok-append_model.ensures ∙ ap (λ (name : List ℕ). start ++ ended (line_text (model_word ∷ name ∷ []))) c.bytes.ensures in
    let signals = text_more start _ _ _ _ model c.in_ok-append_signals.ensures in
    let latches = text_more start _ _ _ _ signals (c.in_ok-append_latches.ensures ∙ ap (λ (latches : List Latch). c.append_signals.new.text.items ++ flat_map (latch_line c.args.design.now) latches) c.as_slice.ensures) in
    let gates = text_more start _ _ _ _ latches (c.in_ok-append_gates.ensures ∙ ap (λ (gates : List Gate). c.append_latches.new.text.items ++ flat_map gate_lines gates) c.as_slice-2.ensures) in
    text_more start _ _ _ (codes ".end\n") gates c.in_ok-extend_from_slice.ensures.items
    ∙ ap (λ (t : List ℕ). start ++ t) (net_text-is c.args.design.now c.args.net.now)
