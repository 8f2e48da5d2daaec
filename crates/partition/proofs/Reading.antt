-- How a partition is read from its text, piece by piece, and why a text has one fault or none.
use Rattle.std.proofs.Common.{◌≡◌, ◌≢◌, ℕ, ◌+◌, ◌<◌, ◌≤◌, ◌⊎◌, max, List, [], ◌∷◌, ◌++◌, Some, length, get_or, take, drop, map, refl, sym, ap, ◌∙◌, subst, inl, inr, arith}
use Rattle.std.proofs.lemmas.List.{length_push, map_push, append_assoc, append-nil, length-append, length-map, get_or-map, get_or_append_left, take_all, take-append-le, get_or_at, drop_all, drop_more}
use Rattle.std.proofs.lemmas.Option.{slice_get-get_or, same_Some}
use Rattle.std.specs.List.{slice_get}
use Rattle.std.specs.Fmt.{decimal}
use Rattle.partition.specs.Partition.{blocks_of, IsNumbered, IsPartition, IsStateCount}
use Rattle.partition.specs.Text.{labels_text, pieces_of, FirstBadPiece, OtherLength}
use Rattle.partition.specs.Laws.Labels.{blocks_of-push, IsNumbered-none, IsNumbered-push, blocks_of-le}
use Rattle.partition.specs.Laws.Pieces.{length-pieces_of-le, some_piece, labels_text-pieces}

-- After so many pieces: the labels that they spell, of which the first n are kept, and the pieces that are left.
pub record IsReading (text : List ℕ) (n : ℕ) (labels : List ℕ) (found blocks : ℕ) (left : List (List ℕ)) : Type 0 where
  pub all : List ℕ
  pub numbered : IsNumbered all
  pub size : length all ≡ found
  pub count : blocks ≡ blocks_of all
  pub kept : labels ≡ take n all
  pub pieces : pieces_of text ≡ map decimal all ++ left

pub reading_none : (text : List ℕ) (n : ℕ) → IsReading text n [] 0 0 (pieces_of text)
reading_none text n = record { all = []; numbered = IsNumbered-none; size = refl; count = refl; kept = sym (take_all n [] (omega arith)); pieces = refl }

-- one piece more, which spells a label that may stand there
pub reading_step : (text : List ℕ) (n : ℕ) (labels labels' : List ℕ) (found blocks blocks' : ℕ) (piece : List ℕ) (left : List (List ℕ)) (label : ℕ) → IsReading text n labels found blocks (piece ∷ left) → piece ≡ decimal label → label ≤ blocks → blocks' ≡ max blocks (label + 1)
    → ((found < n) × (labels' ≡ labels ++ label ∷ [])) ⊎ ((n ≤ found) × (labels' ≡ labels))
    → IsReading text n labels' (found + 1) blocks' left
reading_step text n labels labels' found blocks blocks' piece left label so_far spelled low more keeps = record {
  all = so_far.all ++ label ∷ [];
  numbered = IsNumbered-push so_far.all label so_far.numbered (omega (arith, so_far.count));
  size = length_push so_far.all label ∙ ap (λ (k : ℕ). k + 1) so_far.size;
  count = omega (arith, more, so_far.count, blocks_of-push so_far.all label);
  kept = kept keeps;
  pieces = so_far.pieces ∙ ap (λ (p : List ℕ). map decimal so_far.all ++ p ∷ left) spelled ∙ sym (append_assoc (map decimal so_far.all) (decimal label ∷ []) left) ∙ ap (λ (front : List (List ℕ)). front ++ left) (sym (map_push decimal so_far.all label));
}
  where
    kept : ((found < n) × (labels' ≡ labels ++ label ∷ [])) ⊎ ((n ≤ found) × (labels' ≡ labels)) → labels' ≡ take n (so_far.all ++ label ∷ [])
    kept (inl few) = few.1 ∙ ap (λ (front : List ℕ). front ++ label ∷ []) (so_far.kept ∙ take_all n so_far.all (omega (arith, few.0, so_far.size))) ∙ sym (take_all n (so_far.all ++ label ∷ []) (omega (arith, few.0, so_far.size, length_push so_far.all label)))
    kept (inr enough) = enough.1 ∙ so_far.kept ∙ sym (take-append-le n so_far.all (label ∷ []) (omega (arith, enough.0, so_far.size)))

-- what the pieces in front spell
front_spells : (text all : List ℕ) (more : List (List ℕ)) → pieces_of text ≡ map decimal all ++ more → (place : ℕ) → place < length all → slice_get (pieces_of text) place ≡ Some (decimal (get_or all place 0))
front_spells text all more is place within =
    let inside : place < length (map decimal all) = omega (arith, length-map all decimal) in
    ap (λ (pieces : List (List ℕ)). slice_get pieces place) is ∙ slice_get-get_or (map decimal all ++ more) place [] (omega (arith, length-append (map decimal all) more)) ∙ ap (λ (piece : List ℕ). Some piece) (get_or_append_left (map decimal all) more [] place inside ∙ get_or-map decimal all place 0 [] within)

-- the piece after those
next_piece : (text all : List ℕ) (piece : List ℕ) (more : List (List ℕ)) → pieces_of text ≡ map decimal all ++ piece ∷ more → slice_get (pieces_of text) (length all) ≡ Some piece
next_piece text all piece more is =
    let size : length (map decimal all) ≡ length all = length-map all decimal in
    ap (λ (pieces : List (List ℕ)). slice_get pieces (length all)) is ∙ slice_get-get_or (map decimal all ++ piece ∷ more) (length all) [] (omega (arith, length-append (map decimal all) (piece ∷ more))) ∙ ap (λ (p : List ℕ). Some p) (get_or_at (map decimal all) piece more [] (length all) size)

-- the next piece is no label that may stand there
pub reading_bad : (text : List ℕ) (n : ℕ) (labels : List ℕ) (found blocks : ℕ) (piece : List ℕ) (left : List (List ℕ)) → IsReading text n labels found blocks (piece ∷ left) → ((label : ℕ) → label ≤ blocks → piece ≢ decimal label) → FirstBadPiece text found
reading_bad text n labels found blocks piece left so_far bad =
    let is : pieces_of text ≡ map decimal so_far.all ++ piece ∷ left = so_far.pieces in
    let here : slice_get (pieces_of text) found ≡ Some piece = subst (λ (k : ℕ). slice_get (pieces_of text) k ≡ Some piece) so_far.size (next_piece text so_far.all piece left is) in
    record {
      labels = so_far.all;
      size = so_far.size;
      begins = record { numbered = so_far.numbered; spelled = front_spells text so_far.all (piece ∷ left) is };
      within = omega (arith, so_far.size, ap length is, length-append (map decimal so_far.all) (piece ∷ left), length-map so_far.all decimal);
      bad = λ label low spells. bad label (omega (arith, so_far.count)) (same_Some piece (decimal label) (sym here ∙ spells));
    }

-- all pieces are read
whole_text : (text : List ℕ) (n : ℕ) (labels : List ℕ) (found blocks : ℕ) → (so_far : IsReading text n labels found blocks []) → text ≡ labels_text so_far.all
whole_text text n labels found blocks so_far = labels_text-pieces text so_far.all (so_far.pieces ∙ append-nil (map decimal so_far.all))

reading_some : (text : List ℕ) (n : ℕ) (labels : List ℕ) (found blocks : ℕ) → IsReading text n labels found blocks [] → 0 < found
reading_some text n labels found blocks so_far =
    omega (arith, some_piece text, so_far.size, ap length (so_far.pieces ∙ append-nil (map decimal so_far.all)), length-map so_far.all decimal)

pub reading_other : (text : List ℕ) (n : ℕ) (labels : List ℕ) (found blocks : ℕ) → IsReading text n labels found blocks [] → found ≢ n → OtherLength n text found
reading_other text n labels found blocks so_far other = record {
  labels = so_far.all;
  size = so_far.size;
  some = reading_some text n labels found blocks so_far;
  other = other;
  numbered = so_far.numbered;
  spelled = whole_text text n labels found blocks so_far;
}

pub record IsRead (n : ℕ) (text labels : List ℕ) (blocks : ℕ) : Type 0 where
  pub lawful : IsPartition n labels
  pub count : blocks ≡ blocks_of labels
  pub spelled : text ≡ labels_text labels

pub reading_all : (text : List ℕ) (n : ℕ) (labels : List ℕ) (found blocks : ℕ) → IsStateCount n → IsReading text n labels found blocks [] → found ≡ n → IsRead n text labels blocks
reading_all text n labels found blocks states so_far same =
    let is : so_far.all ≡ labels = sym (so_far.kept ∙ take_all n so_far.all (omega (arith, so_far.size))) in
    subst (λ (xs : List ℕ). IsRead n text xs blocks) is record {
      lawful = record { count = states; length = so_far.size ∙ same; numbered = so_far.numbered };
      count = so_far.count;
      spelled = whole_text text n labels found blocks so_far;
    }

-- there are at most as many labels as bytes
pub reading_short : (text : List ℕ) (n : ℕ) (labels : List ℕ) (found blocks : ℕ) (piece : List ℕ) (left : List (List ℕ)) → IsReading text n labels found blocks (piece ∷ left) → found ≤ length text
reading_short text n labels found blocks piece left so_far =
    omega (arith, length-pieces_of-le text, so_far.size, ap length so_far.pieces, length-append (map decimal so_far.all) (piece ∷ left), length-map so_far.all decimal)

-- no label so far is above their number
pub reading_blocks : (text : List ℕ) (n : ℕ) (labels : List ℕ) (found blocks : ℕ) (left : List (List ℕ)) → IsReading text n labels found blocks left → blocks ≤ found
reading_blocks text n labels found blocks left so_far = omega (arith, so_far.count, so_far.size, blocks_of-le so_far.all so_far.numbered)

-- the pieces that a split gives in turn
pub reading_turn : (text : List ℕ) (n : ℕ) (labels : List ℕ) (found blocks count : ℕ) (piece : List ℕ) → found ≡ count → (count < length (pieces_of text)) × (piece ≡ get_or (pieces_of text) count piece)
    → IsReading text n labels found blocks (drop found (pieces_of text)) → IsReading text n labels found blocks (piece ∷ drop (found + 1) (pieces_of text))
reading_turn text n labels found blocks count piece same turn so_far =
    let pieces : List (List ℕ) = pieces_of text in
    let here : get_or pieces found piece ≡ piece = ap (λ (k : ℕ). get_or pieces k piece) same ∙ sym turn.1 in
    subst (λ (left : List (List ℕ)). IsReading text n labels found blocks left) (drop_more pieces found piece (omega (arith, turn.0)) ∙ ap (λ (p : List ℕ). p ∷ drop (found + 1) pieces) here) so_far

pub reading_end : (text : List ℕ) (n : ℕ) (labels : List ℕ) (found blocks : ℕ) → length (pieces_of text) ≤ found → IsReading text n labels found blocks (drop found (pieces_of text)) → IsReading text n labels found blocks []
reading_end text n labels found blocks whole so_far =
    subst (λ (left : List (List ℕ)). IsReading text n labels found blocks left) (drop_all found (pieces_of text) whole) so_far
