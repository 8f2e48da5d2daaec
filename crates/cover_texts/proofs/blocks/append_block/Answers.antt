use Rattle.std.proofs.Common.{◌≡◌, ℕ, ◌<◌, List, [], ◌∷◌, ◌++◌, length, refl, ap, ◌∙◌, codes, arith}
use Rattle.std.specs.Fmt.{decimal}
use Rattle.list_facts.specs.Laws.Appending.{text_more}
use Rattle.blif_out.specs.Head.{numbers_text}
use Rattle.blif_out.proofs.Appending.{field_more}
use Rattle.hs_io.specs.Spelling.{line_text, spaced}
use Rattle.partition.specs.Text.{labels_text}
use Rattle.cover_texts.proofs.blocks.append_block.Goals as goal

-- numbers of which there are some are written as labels
as_labels : (numbers : List ℕ) → 0 < length numbers → numbers_text numbers ≡ labels_text numbers
as_labels [] some = absurd (omega (arith, some))
as_labels (number ∷ numbers) some = refl

pub returns : goal.returns
returns c =
    let start : List ℕ = c.args.text.now.items in
    let mark : List ℕ = codes "#" in
    let number : List ℕ = decimal c.args.number in
    let states : List ℕ = labels_text c.args.states.now in
    let listed = c.in_ok-append_numbers_field.ensures ∙ ap (λ (t : List ℕ). c.append_number_field.new.text.items ++ spaced t) (as_labels c.args.states.now c.requires) in
    let one = field_more start _ _ mark (codes "block" ∷ []) number c.in_ok-extend_from_slice.ensures.items c.in_ok-append_number_field.ensures in
    let two = field_more start _ _ mark (codes "block" ∷ number ∷ []) states one listed in
    text_more start _ _ (line_text (mark ∷ codes "block" ∷ number ∷ states ∷ [])) (10 ∷ []) two c.in_ok-push.ensures.items
