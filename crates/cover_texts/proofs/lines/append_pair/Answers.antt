use Rattle.std.proofs.Common.{ℕ, List, [], ◌∷◌, ◌++◌, get_or, ap, ◌∙◌, codes}
use Rattle.std.specs.Fmt.{decimal}
use Rattle.list_facts.specs.Laws.Appending.{text_more}
use Rattle.blif_out.specs.Head.{bit_text, bits_of}
use Rattle.blif_out.proofs.Appending.{field_more}
use Rattle.hs_io.specs.Spelling.{line_text, spaced}
use Rattle.cover_texts.proofs.Appending.{name_there}
use Rattle.cover_texts.proofs.lines.append_pair.Goals as goal

pub returns : goal.returns
returns c =
    let start : List ℕ = c.args.text.now.items in
    let mark : List ℕ = codes "#" in
    let name : List ℕ = get_or c.args.states.now c.args.pair.1 [] in
    let number : List ℕ = decimal c.args.pair.0 in
    let bits : List ℕ = bit_text (bits_of c.args.bits c.args.word) in
    let named = c.in_ok-append_field.ensures ∙ ap (λ (n : List ℕ). c.extend_from_slice.new.self.items ++ spaced n) (name_there c.args.states.now c.args.pair.1 c.from.result c.name.result.now c.from.ensures c.name.ensures) in
    let numbered = c.in_ok-append_number_field.ensures ∙ ap (λ (n : ℕ). c.append_field.new.text.items ++ spaced (decimal n)) c.from-2.ensures in
    let one = field_more start _ _ mark (codes "code" ∷ []) name c.in_ok-extend_from_slice.ensures.items named in
    let two = field_more start _ _ mark (codes "code" ∷ name ∷ []) number one numbered in
    let three = field_more start _ _ mark (codes "code" ∷ name ∷ number ∷ []) bits two c.in_ok-append_code_field.ensures in
    text_more start _ _ (line_text (mark ∷ codes "code" ∷ name ∷ number ∷ bits ∷ [])) (10 ∷ []) three c.in_ok-push.ensures.items
