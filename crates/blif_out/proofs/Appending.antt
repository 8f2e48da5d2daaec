-- One append after another.
use Rattle.std.proofs.Common.{◌≡◌, ℕ, ◌+◌, List, [], ◌∷◌, ◌++◌, sym, ap, ◌∙◌, arith, append-nil}
use Rattle.std.specs.Fmt.{decimal}
use Rattle.std.specs.Int.{bit_at}
use Rattle.std.specs.List.{flat_map}
use Rattle.std.proofs.lemmas.List.{flat_map_more}
use Rattle.std.proofs.lemmas.List.FromFn.{map-range_with_len_more}
use Rattle.list_facts.specs.Laws.Appending.{text_more}
use Rattle.hs_io.specs.Spelling.{spaced, line_text}
use Rattle.partition.specs.Text.{labels_text}
use Rattle.blif_out.specs.Head.{bits_of}
use Rattle.blif_out.specs.Inner.Pieces.{comma_number}

-- a line with one field more
pub field_more : (start text new first : List ℕ) (fields : List (List ℕ)) (field : List ℕ) → text ≡ start ++ line_text (first ∷ fields) → new ≡ text ++ spaced field → new ≡ start ++ line_text (first ∷ (fields ++ field ∷ []))
field_more start text new first fields field before pushed =
    text_more start text new (line_text (first ∷ fields)) (spaced field) before pushed
    ∙ ap (λ (t : List ℕ). start ++ t) (flat_map_more spaced first fields field)

-- numbers joined by commas, as they are appended
pub joined-is : (first : ℕ) (others : List ℕ) → decimal first ++ flat_map comma_number others ≡ labels_text (first ∷ others)
joined-is first [] = append-nil (decimal first)
joined-is first (next ∷ others) = ap (λ (t : List ℕ). decimal first ++ 44 ∷ t) (joined-is next others)

-- one bit more
pub bit_more : (start text new : List ℕ) (i word digit : ℕ) → text ≡ start ++ bits_of i word → new ≡ text ++ digit ∷ [] → digit ≡ 48 + bit_at word i → new ≡ start ++ bits_of (i + 1) word
bit_more start text new i word digit before pushed is =
    text_more start text new (bits_of i word) (digit ∷ []) before pushed
    ∙ ap (λ (d : ℕ). start ++ (bits_of i word ++ d ∷ [])) is
    ∙ ap (λ (t : List ℕ). start ++ t) (sym (map-range_with_len_more (λ j. 48 + bit_at word j) 0 i i (omega arith)))
