use Rattle.std.proofs.Common.{ℕ, List, [], ◌++◌, get_or, ap, ◌∙◌, arith, append_assoc}
use Rattle.std.proofs.lemmas.List.{get_or_default}
use Rattle.std.specs.Fmt.{decimal}
use Rattle.list_facts.specs.Laws.Appending.{item_more, all_items}
use Rattle.hs_texts.specs.ErrLines.{as_line}
use Rattle.hs_texts.proofs.err_lines.numbered_line.Goals as goal

pub loop-words-preserved : goal.loop-words-preserved
loop-words-preserved c =
    let numbers = c.args.numbers.now in
    let i = c.loop-words.words-index in
    let pair = get_or numbers i (record { ref_ptr = (0, 0); now = [] }, 0) in
    item_more (λ pair. pair.0.now ++ decimal pair.1) [] c.loop-words.line.items c.append_number.new.line.items numbers i pair c.loop-words-test.true (get_or_default numbers i pair _ c.loop-words-test.true) c.loop-words.invariant (c.in_ok-append_number.ensures ∙ append_assoc c.loop-words.line.items pair.0.now (decimal pair.1))

pub returns : goal.returns
returns c =
    c.in_ok-push.ensures.items
    ∙ ap as_line (c.in_ok-extend_from_slice.ensures.items
    ∙ ap (λ (t : List ℕ). t ++ c.args.rest.now) (all_items (λ pair. pair.0.now ++ decimal pair.1) [] c.loop-words.line.items c.args.numbers.now c.loop-words.words-index (omega (arith, c.loop-words-test.false)) c.loop-words.invariant))
