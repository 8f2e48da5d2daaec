-- A text is cut piece by piece.
use Rattle.std.proofs.Common.{◌≡◌, ℕ, ◌+◌, ◌<◌, ◌≤◌, inl, inr, Bool, List, [], ◌∷◌, ◌++◌, length, take, drop, append-nil, sym, ◌∙◌, refl, ap, arith}
use Rattle.std.specs.List.{slice_split, position_or_len}
use Rattle.std.proofs.lemmas.Bool.{cases_lt}
use Rattle.std.proofs.lemmas.Bool.Decides.{nat_tests}
use Rattle.std.proofs.lemmas.List.{take_all, drop_all}
use Rattle.std.proofs.lemmas.List.Splits.{slice_split_none, slice_split_first, length-slice_split}
use Rattle.std.proofs.lemmas.List.Sums.{fails_before_first}
use Rattle.std.proofs.lemmas.List.Elements.{filter-append}
use Rattle.hs_io.specs.Laws.Spelled.{lines_of_pieces-cons}
use Rattle.hs_io.specs.Lines.{fields_in, fields_of, is_field, is_blank, ends_line, lines_of_pieces, physical_lines}

-- where no byte cuts it, the text is one piece
pub slice_split_uncut : (p : ℕ → Bool) (xs : List ℕ) → length xs ≤ position_or_len p xs → slice_split p xs ≡ xs ∷ []
slice_split_uncut p xs past = slice_split_none p xs (λ k d lt. fails_before_first p xs k d (omega arith))

-- the last piece is a line where it is not empty
pub lines_of_pieces-last : (piece : List ℕ) → 0 < length piece → lines_of_pieces (piece ∷ []) ≡ piece ∷ []
lines_of_pieces-last [] some = absurd (omega arith)
lines_of_pieces-last (x ∷ xs) some = grind (arith, nat_tests)

-- the first line of a text, and the lines of what stands after it
pub physical_lines-step : (xs : List ℕ) → 0 < length xs → let n = position_or_len ends_line xs in physical_lines xs ≡ take n xs ∷ physical_lines (drop (n + 1) xs)
physical_lines-step xs some =
    let n = position_or_len ends_line xs in
    elim (cases_lt n (length xs)) [
      | inl inside ↦ rw (slice_split_first ends_line xs 0 inside) (lines_of_pieces-cons (take n xs) (slice_split ends_line (drop (n + 1) xs)) (omega (arith, length-slice_split ends_line (drop (n + 1) xs))))
      | inr past ↦
          let whole : take n xs ≡ xs = take_all n xs past in
          let none : drop (n + 1) xs ≡ [] = drop_all (n + 1) xs (omega arith) in
          rw (slice_split_uncut ends_line xs past, whole, none) (lines_of_pieces-last xs some)
    ]

-- the first run of a text is a field where it is not empty, and then come the fields of what stands after it
pub fields_of-step : (xs : List ℕ) → let n = position_or_len is_blank xs in fields_of xs ≡ fields_in (take n xs ∷ []) ++ fields_of (drop (n + 1) xs)
fields_of-step xs =
    let n = position_or_len is_blank xs in
    elim (cases_lt n (length xs)) [
      | inl inside ↦ rw (slice_split_first is_blank xs 0 inside) (filter-append is_field (take n xs ∷ []) (slice_split is_blank (drop (n + 1) xs)))
      | inr past ↦
          let whole : take n xs ≡ xs = take_all n xs past in
          let none : drop (n + 1) xs ≡ [] = drop_all (n + 1) xs (omega arith) in
          rw (slice_split_uncut is_blank xs past, whole, none) (sym (append-nil (fields_in (xs ∷ []))))
    ]

-- one run that is not empty
pub fields_in_one : (run : List ℕ) → 0 < length run → fields_in (run ∷ []) ≡ run ∷ []
fields_in_one [] some = absurd (omega arith)
fields_in_one (b ∷ bs) some = grind (arith, nat_tests)

pub fields_in_none : (run : List ℕ) → length run ≡ 0 → fields_in (run ∷ []) ≡ []
fields_in_none [] none = refl
fields_in_none (b ∷ bs) none = absurd (omega arith)

-- the run before the first blank, and the fields after it
pub first_run : (text : List ℕ) (end : ℕ) (rest : List ℕ) → end ≡ position_or_len is_blank text → 0 < length (take end text) → rest ≡ drop (end + 1) text → fields_of text ≡ take end text ∷ fields_of rest
first_run text end rest place some is =
    fields_of-step text
    ∙ (ap (λ (n : ℕ). fields_in (take n text ∷ []) ++ fields_of (drop (n + 1) text)) (sym place)
    ∙ (ap (λ fs. fs ++ fields_of (drop (end + 1) text)) (fields_in_one (take end text) some)
    ∙ ap (λ (list : List ℕ). take end text ∷ fields_of list) (sym is)))

-- a blank that comes first is passed
pub past_blank : (text : List ℕ) (end : ℕ) (rest : List ℕ) → end ≡ position_or_len is_blank text → length (take end text) ≡ 0 → rest ≡ drop (end + 1) text → fields_of text ≡ fields_of rest
past_blank text end rest place none is =
    fields_of-step text
    ∙ (ap (λ (n : ℕ). fields_in (take n text ∷ []) ++ fields_of (drop (n + 1) text)) (sym place)
    ∙ (ap (λ fs. fs ++ fields_of (drop (end + 1) text)) (fields_in_none (take end text) none)
    ∙ ap fields_of (sym is)))
