use Rattle.std.proofs.Common.{ℕ, List, ◌++◌, length, ap, ◌∙◌}
use Rattle.std.specs.List.{enumerate_from, flat_map, zip}
use Rattle.list_facts.specs.Laws.Appending.{text_more}
use Rattle.state_codes.specs.declared.split.Part.{Part}
use Rattle.blif_out.specs.declared.header.Header.{Header}
use Rattle.blif_out.specs.declared.header.LatchNote.{LatchNote}
use Rattle.blif_out.specs.Inner.Pieces.{part_line, state_line, note_line}
use Rattle.blif_out.proofs.Whole.{head_text-is}
use Rattle.blif_out.proofs.header_text.append_header.Goals as goal

pub returns : goal.returns
returns c =
    let start : List ℕ = c.args.text.now.items in
    let H : Header = c.args.header.now in
    let classes = text_more start _ _ _ _ c.in_ok-append_kind.ensures c.in_ok-append_classes.ensures in
    let parts_put = c.in_ok-append_parts.ensures ∙ ap (λ (parts : List Part). c.append_classes.new.text.items ++ flat_map part_line (enumerate_from 0 parts)) c.as_slice.ensures in
    let states_put =
    c.in_ok-append_states.ensures
    ∙ ap (λ (words : List ℕ). c.append_parts.new.text.items ++ flat_map (state_line (length c.as_slice-latches.result.now)) (zip H.states words)) c.as_slice-2.ensures
    ∙ ap (λ (latches : List LatchNote). c.append_parts.new.text.items ++ flat_map (state_line (length latches)) (zip H.states H.words)) c.as_slice-latches.ensures in
    let notes_put = c.in_ok-append_notes.ensures ∙ ap (λ (latches : List LatchNote). c.append_states.new.text.items ++ flat_map note_line (enumerate_from 0 latches)) c.as_slice-latches.ensures in
    let parts = text_more start _ _ _ _ classes parts_put in
    let states = text_more start _ _ _ _ parts states_put in
    text_more start _ _ _ _ states notes_put
    ∙ ap (λ (t : List ℕ). start ++ t) (head_text-is H)
