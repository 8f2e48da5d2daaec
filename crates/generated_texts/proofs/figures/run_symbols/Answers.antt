use Rattle.std.proofs.Common.{◌≡◌, ℕ, List, [], ◌∷◌, ◌++◌, ◌%◌, ◌^◌, map, sym, ap, ◌∙◌, arith}
use Rattle.std.specs.List.{range_with_len}
use Rattle.std.proofs.lemmas.List.FromFn.{map-range_with_len_more}
use Rattle.generated_texts.proofs.figures.run_symbols.Goals as goal

pub loop-number-preserved : goal.loop-number-preserved
loop-number-preserved c =
    c.in_ok-push.ensures.items
    ∙ ap (λ (numbers : List ℕ). numbers ++ (c.loop-number.number % c.symbol_count-count.result) ∷ []) c.loop-number.invariant
    ∙ ap (λ (count : ℕ). map (λ j. j % 2 ^ c.args.inputs) (range_with_len 0 c.loop-number.number) ++ (c.loop-number.number % count) ∷ []) c.symbol_count-count.ensures
    ∙ sym (map-range_with_len_more (λ j. j % 2 ^ c.args.inputs) 0 c.loop-number.number c.loop-number.number (omega arith))

pub returns : goal.returns
returns c =
    let at_end : c.loop-number.number ≡ 1000 = omega (arith, c.loop-number-test.false, c.loop-number.auto.number-end) in
    c.loop-number.invariant ∙ ap (λ (n : ℕ). map (λ j. j % 2 ^ c.args.inputs) (range_with_len 0 n)) at_end
