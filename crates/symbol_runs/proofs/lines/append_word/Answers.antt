use Rattle.std.proofs.Common.{Bool, List, [], ◌∷◌, ◌++◌, map, sym, ap, ◌∙◌, arith}
use Rattle.std.specs.List.{range_with_len}
use Rattle.std.proofs.lemmas.List.FromFn.{map-range_with_len_more}
use Rattle.cubes.specs.Symbol.{bit}
use Rattle.symbol_runs.proofs.lines.append_word.Goals as goal

pub loop-place-preserved : goal.loop-place-preserved
loop-place-preserved c =
    c.in_ok-push.ensures.items
    ∙ ap (λ (bits : List Bool). bits ++ c.bit.result ∷ []) c.loop-place.invariant
    ∙ ap (λ (b : Bool). map (bit c.args.word) (range_with_len 0 c.loop-place.place) ++ b ∷ []) c.bit.ensures
    ∙ sym (map-range_with_len_more (bit c.args.word) 0 c.loop-place.place c.loop-place.place (omega arith))
