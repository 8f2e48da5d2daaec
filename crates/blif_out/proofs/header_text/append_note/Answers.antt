use Rattle.std.proofs.Common.{ℕ, List, [], ◌∷◌, ◌++◌, ap, ◌∙◌, codes}
use Rattle.std.specs.Fmt.{decimal}
use Rattle.list_facts.specs.Laws.Appending.{text_more}
use Rattle.hs_io.specs.Spelling.{spaced, line_text}
use Rattle.partition.specs.Text.{labels_text}
use Rattle.blif_out.proofs.Appending.{field_more}
use Rattle.blif_out.proofs.header_text.append_note.Goals as goal

pub returns : goal.returns
returns c =
    let start : List ℕ = c.args.text.now.items in
    let mark : List ℕ = codes "#" in
    let number : List ℕ = decimal c.args.number in
    let part : List ℕ = decimal c.args.latch.now.part in
    let from : List ℕ = labels_text c.args.latch.now.from in
    let to : List ℕ = labels_text c.args.latch.now.to in
    let one = field_more start _ _ mark (codes "latch" ∷ []) number c.in_ok-extend_from_slice.ensures.items c.in_ok-append_number_field.ensures in
    let two = field_more start _ _ mark (codes "latch" ∷ number ∷ []) (codes "part") one c.in_ok-append_field.ensures in
    let three = field_more start _ _ mark (codes "latch" ∷ number ∷ codes "part" ∷ []) part two (c.in_ok-append_number_field-2.ensures ∙ ap (λ (n : ℕ). c.append_field.new.text.items ++ spaced (decimal n)) c.from.ensures) in
    let four = field_more start _ _ mark (codes "latch" ∷ number ∷ codes "part" ∷ part ∷ []) (codes "from") three c.in_ok-append_field-2.ensures in
    let five = field_more start _ _ mark (codes "latch" ∷ number ∷ codes "part" ∷ part ∷ codes "from" ∷ []) from four c.in_ok-append_partition_field.ensures in
    let six = field_more start _ _ mark (codes "latch" ∷ number ∷ codes "part" ∷ part ∷ codes "from" ∷ from ∷ []) (codes "to") five c.in_ok-append_field-3.ensures in
    let seven = field_more start _ _ mark (codes "latch" ∷ number ∷ codes "part" ∷ part ∷ codes "from" ∷ from ∷ codes "to" ∷ []) to six c.in_ok-append_partition_field-2.ensures in
    text_more start _ _ (line_text (mark ∷ codes "latch" ∷ number ∷ codes "part" ∷ part ∷ codes "from" ∷ from ∷ codes "to" ∷ to ∷ [])) (10 ∷ []) seven c.in_ok-push.ensures.items
