-- The digits of an output, one more at a time.
use Rattle.std.proofs.Common.{◌≡◌, ℕ, ◌+◌, List, [], ◌∷◌, ◌++◌, map, sym, ap, ◌∙◌, arith, append_assoc}
use Rattle.std.specs.List.{range_with_len}
use Rattle.std.proofs.lemmas.List.{map-append}
use Rattle.std.proofs.lemmas.List.FromFn.{map-range_with_len_more}
use Rattle.cubes.specs.Symbol.{bit, digit}
use Rattle.machine_reports.specs.OutputTexts.{output_digits}

digits_more : (word place : ℕ) → output_digits (place + 1) word ≡ output_digits place word ++ digit (bit word place) ∷ []
digits_more word place =
    ap (map digit) (map-range_with_len_more (bit word) 0 place place (omega arith)) ∙ map-append digit (map (bit word) (range_with_len 0 place)) (bit word place ∷ [])

pub digit_more : (start text new : List ℕ) (word place d : ℕ) → text ≡ start ++ output_digits place word → new ≡ text ++ d ∷ [] → d ≡ digit (bit word place) → new ≡ start ++ output_digits (place + 1) word
digit_more start text new word place d before pushed is =
    pushed
    ∙ ap (λ (t : List ℕ). t ++ d ∷ []) before
    ∙ append_assoc start (output_digits place word) (d ∷ [])
    ∙ ap (λ (c : ℕ). start ++ (output_digits place word ++ c ∷ [])) is
    ∙ ap (λ (t : List ℕ). start ++ t) (sym (digits_more word place))
