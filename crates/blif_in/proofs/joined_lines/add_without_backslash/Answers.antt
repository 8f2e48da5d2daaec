use Rattle.std.proofs.Common.{◌-◌, ◌++◌, [], ◌∷◌, List, ℕ, append_assoc, length, take, sym, ap, ◌∙◌}
use Rattle.std.proofs.lemmas.Result.{on_ok_weaker}
use Rattle.hs_io.specs.Lines.{fields_in}
use Rattle.blif_in.proofs.Lines.{without_at}
use Rattle.blif_in.proofs.joined_lines.add_without_backslash.Goals as goal

pub returns : goal.returns
returns c =
    let fields = c.args.fields.now in
    let before = c.args.short.now in
    let front = take (length fields - 1) fields in
    on_ok_weaker c.add_shortened.result
    (λ added. added
    ∙ ap (λ (xs : List (List ℕ)). xs ++ fields_in (take (length c.bytes.result.now - 1) c.bytes.result.now ∷ [])) c.in_ok-add_fields.ensures
    ∙ append_assoc before front _
    ∙ ap (λ (xs : List (List ℕ)). before ++ xs) (ap (λ (text : List ℕ). front ++ fields_in (take (length text - 1) text ∷ [])) c.bytes.ensures ∙ sym (without_at fields c.last-item.result c.in-len1-up.len_at_least c.last-item.is)))
    c.add_shortened.ensures
