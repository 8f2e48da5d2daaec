use Rattle.std.proofs.Common.{◌≡◌, ℕ, List, [], ◌∷◌, ◌++◌, map, sym, ap, ◌∙◌}
use Rattle.std.specs.Prelude.{codes}
use Rattle.std.proofs.lemmas.Grind.{flat_map-append}
use Rattle.std.proofs.lemmas.Result.{on_ok_weaker}
use Rattle.list_facts.specs.Laws.Appending.{text_more}
use Rattle.hs_io.specs.Spelling.{ended, line_text, spelled}
use Rattle.kiss2.specs.Inner.Parts.{count_lines, head_lines, table_lines}
use Rattle.kiss2.specs.KissText.{fields_of_row}
use Rattle.kiss2.proofs.Written.{spelled_parts, when_ok}
use Rattle.kiss2.proofs.writer.append_file.Goals as goal

pub returns : goal.returns
returns c =
    let start = c.args.text.now.items in
    let file = c.args.file.now in
    let head = c.append_head.new.text.items in
    let counts = c.append_counts.new.text.items in
    let rows = c.append_rows.new.text.items in
    let end = c.extend_from_slice.new.self.items in
    let line = λ (fields : List (List ℕ)). ended (line_text fields) in
    let lines = map (fields_of_row file.states file.outputs) file.rows in
    let put : rows ≡ counts ++ spelled lines = c.in_ok-append_rows.ensures ∙ ap (λ list. counts ++ spelled (map (fields_of_row file.states file.outputs) list)) c.as_slice.ensures in
    on_ok_weaker c.extend_from_slice.result
    (λ last.
    text_more start head end (spelled (head_lines file)) (spelled (count_lines file) ++ spelled (table_lines file)) c.in_ok-append_head.ensures
    (text_more head counts end (spelled (count_lines file)) (spelled (table_lines file)) c.in_ok-append_counts.ensures
    (text_more counts rows end (spelled lines) (codes ".e\n") put last ∙ ap (λ t. counts ++ t) (sym (flat_map-append line lines ((codes ".e" ∷ []) ∷ [])))))
    ∙ ap (λ t. start ++ t) (sym (spelled_parts (head_lines file) (count_lines file) (table_lines file))))
    (when_ok c.extend_from_slice.result _ _ _ c.extend_from_slice.ensures.items)
