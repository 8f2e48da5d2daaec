use Rattle.std.proofs.Common.{ℕ, List, [], ◌∷◌, ◌++◌, ap, ◌∙◌, codes}
use Rattle.std.specs.Fmt.{decimal}
use Rattle.list_facts.specs.Laws.Appending.{text_more}
use Rattle.hs_io.specs.Spelling.{spaced, line_text}
use Rattle.partition.specs.Text.{labels_text}
use Rattle.blif_out.specs.Head.{numbers_text}
use Rattle.blif_out.proofs.Appending.{field_more}
use Rattle.blif_out.proofs.header_text.append_part.Goals as goal

pub returns : goal.returns
returns c =
    let start : List ℕ = c.args.text.now.items in
    let mark : List ℕ = codes "#" in
    let number : List ℕ = decimal c.args.number in
    let own : List ℕ = labels_text c.args.part.now.partition in
    let carrier : List ℕ = labels_text c.args.part.now.carrier in
    let reads : List ℕ = numbers_text c.args.part.now.reads in
    let one = field_more start _ _ mark (codes "part" ∷ []) number c.in_ok-extend_from_slice.ensures.items c.in_ok-append_number_field.ensures in
    let two = field_more start _ _ mark (codes "part" ∷ number ∷ []) own one c.in_ok-append_partition_field.ensures in
    let three = field_more start _ _ mark (codes "part" ∷ number ∷ own ∷ []) (codes "carrier") two c.in_ok-append_field.ensures in
    let four = field_more start _ _ mark (codes "part" ∷ number ∷ own ∷ codes "carrier" ∷ []) carrier three c.in_ok-append_partition_field-2.ensures in
    let five = field_more start _ _ mark (codes "part" ∷ number ∷ own ∷ codes "carrier" ∷ carrier ∷ []) (codes "reads") four c.in_ok-append_field-2.ensures in
    let six = field_more start _ _ mark (codes "part" ∷ number ∷ own ∷ codes "carrier" ∷ carrier ∷ codes "reads" ∷ []) reads five (c.in_ok-append_numbers_field.ensures ∙ ap (λ (numbers : List ℕ). c.append_field-2.new.text.items ++ spaced (numbers_text numbers)) c.as_slice.ensures) in
    text_more start _ _ (line_text (mark ∷ codes "part" ∷ number ∷ own ∷ codes "carrier" ∷ carrier ∷ codes "reads" ∷ reads ∷ [])) (10 ∷ []) six c.in_ok-push.ensures.items
