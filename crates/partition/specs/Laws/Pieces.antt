-- Texts and their pieces between commas.
use Rattle.std.proofs.Common.{◌≡◌, ◌≢◌, ℕ, suc, ◌+◌, ◌^◌, ◌<◌, ◌≤◌, ◌==◌, Bool, false, List, [], ◌∷◌, ◌++◌, length, get_or, take, map, refl, sym, ap, ◌∙◌, arith}
use Rattle.std.proofs.lemmas.Bool.{ne_eqb}
use Rattle.std.proofs.lemmas.List.{append_assoc, take_more, length-take-le}
use Rattle.std.proofs.lemmas.List.Sums.{count_by-le-length}
use Rattle.std.proofs.lemmas.List.Elements.{All-from_get_or}
use Rattle.std.proofs.lemmas.List.Splits.{slice_split_none, slice_split_at, length-slice_split, join_with_byte-slice_split}
use Rattle.std.specs.List.{join_with_byte, All}
use Rattle.std.specs.Fmt.{decimal}
use Rattle.partition.specs.Text.{labels_text, pieces_of}
use Rattle.partition.specs.Laws.Numerals.{no_comma}

abbrev comma : ℕ → Bool
comma byte = byte == 44

lacks : (text : List ℕ) → ((k : ℕ) → k < length text → get_or text k 0 ≢ 44) → All (λ byte. comma byte ≡ false) text
lacks text none = All-from_get_or (λ byte. comma byte ≡ false) text 0 (λ k within. ne_eqb (get_or text k 0) 44 (none k within))

-- a text without a comma is one piece
pub pieces_none : (text : List ℕ) → ((k : ℕ) → k < length text → get_or text k 0 ≢ 44) → pieces_of text ≡ text ∷ []
pieces_none text none = slice_split_none comma text (lacks text none)

-- a comma ends the first piece
pub pieces_at : (front rest : List ℕ) → ((k : ℕ) → k < length front → get_or front k 0 ≢ 44) → pieces_of (front ++ 44 ∷ rest) ≡ front ∷ pieces_of rest
pieces_at front rest none = slice_split_at comma front 44 rest (lacks front none) refl

-- there are at most as many pieces as bytes and one more, and there is a piece
pub length-pieces_of-le : (text : List ℕ) → length (pieces_of text) ≤ length text + 1
length-pieces_of-le text = omega (arith, length-slice_split comma text, count_by-le-length comma text)

pub some_piece : (text : List ℕ) → 0 < length (pieces_of text)
some_piece text = omega (arith, length-slice_split comma text)

-- a text is that of the labels that its pieces spell
pub labels_text-pieces : (text labels : List ℕ) → pieces_of text ≡ map decimal labels → text ≡ labels_text labels
labels_text-pieces text labels spelled = sym (join_with_byte-slice_split 44 text) ∙ ap (join_with_byte 44) spelled

-- the pieces of a partition's text are its labels
pub pieces_of-labels_text : (labels : List ℕ) → 0 < length labels → ((place : ℕ) → place < length labels → get_or labels place 0 < 2 ^ 64) → pieces_of (labels_text labels) ≡ map decimal labels
pieces_of-labels_text [] some small = absurd (omega arith)
pieces_of-labels_text (label ∷ []) some small = pieces_none (decimal label) (no_comma label (small 0 (omega arith)))
pieces_of-labels_text (label ∷ next ∷ labels) some small =
    pieces_at (decimal label) (labels_text (next ∷ labels)) (no_comma label (small 0 (omega arith))) ∙ ap (λ (pieces : List (List ℕ)). decimal label ∷ pieces) (pieces_of-labels_text (next ∷ labels) (omega arith) (λ place within. small (suc place) (omega arith)))

-- the text of one label more
pub labels_text-push : (labels : List ℕ) (label : ℕ) → 0 < length labels → labels_text (labels ++ label ∷ []) ≡ labels_text labels ++ 44 ∷ decimal label
labels_text-push [] label some = absurd (omega arith)
labels_text-push (first ∷ []) label some = refl
labels_text-push (first ∷ next ∷ labels) label some =
    ap (λ (end : List ℕ). decimal first ++ 44 ∷ end) (labels_text-push (next ∷ labels) label (omega arith)) ∙ sym (append_assoc (decimal first) (44 ∷ labels_text (next ∷ labels)) (44 ∷ decimal label))

pub labels_text-take-none : (labels : List ℕ) (s : ℕ) → s < length labels → s ≡ 0 → labels_text (take (s + 1) labels) ≡ decimal (get_or labels s 0)
labels_text-take-none labels s within none = ap labels_text (take_more labels s 0 within ∙ ap (λ (k : ℕ). take k labels ++ get_or labels s 0 ∷ []) none)

pub labels_text-take-more : (labels : List ℕ) (s : ℕ) → s < length labels → 0 < s → labels_text (take (s + 1) labels) ≡ labels_text (take s labels) ++ 44 ∷ decimal (get_or labels s 0)
labels_text-take-more labels s within some = ap labels_text (take_more labels s 0 within) ∙ labels_text-push (take s labels) (get_or labels s 0) (omega (arith, length-take-le s labels (omega arith)))
