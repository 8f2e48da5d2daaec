use Rattle.std.proofs.Common.{ℕ, List, [], ◌∷◌, ◌++◌, get_or, sym, ap, ◌∙◌, arith, append_assoc}
use Rattle.std.proofs.lemmas.List.{get_or_default}
use Rattle.std.specs.Fmt.{decimal}
use Rattle.hs_io.specs.Spelling.{spaced}
use Rattle.list_facts.specs.Laws.Appending.{item_more, all_items}
use Rattle.hs_texts.proofs.Joining.{spaced-is}
use Rattle.hs_texts.proofs.reports.append_numbers.Goals as goal

pub loop-number-preserved : goal.loop-number-preserved
loop-number-preserved c =
    let numbers = c.args.numbers.now in
    let i = c.loop-number.number-index in
    let number = get_or numbers i 0 in
    item_more (λ number. spaced (decimal number)) c.args.text.now.items c.loop-number.text.items c.append_number.new.line.items numbers i number c.loop-number-test.true (get_or_default numbers i number 0 c.loop-number-test.true) c.loop-number.invariant (c.in_ok-append_number.ensures ∙ append_assoc c.loop-number.text.items (32 ∷ []) (decimal number))

pub returns : goal.returns
returns c =
    all_items (λ number. spaced (decimal number)) c.args.text.now.items c.loop-number.text.items c.args.numbers.now c.loop-number.number-index (omega (arith, c.loop-number-test.false)) c.loop-number.invariant
    ∙ ap (λ (t : List ℕ). c.args.text.now.items ++ t) (sym (spaced-is c.args.numbers.now))
