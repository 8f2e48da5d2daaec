-- Reading the pieces of PARTS one after another: those so far tell partitions, or one of them is the first that tells none.
use Rattle.std.proofs.Common.{◌≡◌, inl, inr, ℕ, ◌+◌, ◌<◌, ◌≤◌, List, [], ◌∷◌, ◌++◌, Some, get_or, length, slice_get, take, refl, sym, ◌∙◌, subst, arith}
use Rattle.std.specs.List.{AllZip}
use Rattle.std.proofs.lemmas.List.{get_or-take, length-append, length-take-le, take_all}
use Rattle.std.proofs.lemmas.List.Elements.{all_zip_more}
use Rattle.std.proofs.lemmas.Option.{get_or_from_slice_get, slice_get_read}
use Rattle.answers.specs.declared.refusals.Refusal.{Refusal}
use Rattle.answers.specs.Cause.{CallsForNone}
use Rattle.answers.specs.Outcome.{IsStop}
use Rattle.operands.specs.PartFaults.{BadPartAt, BadParts, IsFirstBadPart}
use Rattle.operands.specs.Laws.Parts.{parts_are_not_bad, piece_tells}
use Rattle.operands.specs.PartTexts.{ArePartTexts, IsTextOfPartition, texts_of_parts}

-- the first pieces are the texts of these partitions
pub record HaveBeenRead (n : ℕ) (text : List ℕ) (ps : List (List ℕ)) (count : ℕ) : Type 0 where
  pub counted : length ps ≡ count
  pub told : AllZip (IsTextOfPartition n) (take count (texts_of_parts text)) ps

pub read_more : (n : ℕ) (text : List ℕ) (ps new : List (List ℕ)) (count : ℕ) (piece p : List ℕ) → HaveBeenRead n text ps count → count < length (texts_of_parts text) → piece ≡ get_or (texts_of_parts text) count piece → IsTextOfPartition n piece p → new ≡ ps ++ p ∷ []
    → HaveBeenRead n text new (count + 1)
read_more n text ps new count piece p so_far within at told pushed =
    subst (λ (list : List (List ℕ)). HaveBeenRead n text list (count + 1)) (sym pushed)
    (record { counted = simp (length-append, so_far.counted); told = all_zip_more (IsTextOfPartition n) (texts_of_parts text) ps count piece p within at so_far.told told })

-- a piece among the first ones
front_at : (pieces : List (List ℕ)) (count i : ℕ) (earlier : List ℕ) → i < count → count ≤ length pieces → slice_get pieces i ≡ Some earlier → slice_get (take count pieces) i ≡ Some earlier
front_at pieces count i earlier before within at =
    let size : length (take count pieces) ≡ count = length-take-le count pieces within in
    slice_get_read (take count pieces) count i earlier (sym size) before (sym (get_or-take count pieces i earlier before ∙ get_or_from_slice_get pieces i earlier earlier at))

first_bad : (n : ℕ) (text : List ℕ) (ps : List (List ℕ)) (count : ℕ) (piece : List ℕ) (refusal : Refusal) → HaveBeenRead n text ps count → count < length (texts_of_parts text) → piece ≡ get_or (texts_of_parts text) count piece → BadPartAt count n piece refusal
    → IsFirstBadPart n text count refusal
first_bad n text ps count piece refusal so_far within at bad =
    record {
      piece = piece;
      at = slice_get_read (texts_of_parts text) (length (texts_of_parts text)) count piece refl within at;
      bad = bad;
      before = λ i earlier below here. piece_tells n (take count (texts_of_parts text)) ps so_far.told i earlier (front_at (texts_of_parts text) count i earlier below (omega (arith, within)) here);
    }

-- a piece that is refused is the first bad one
pub refused : (n : ℕ) (text : List ℕ) (ps : List (List ℕ)) (count part : ℕ) (piece : List ℕ) (refusal : Refusal) → HaveBeenRead n text ps count → count < length (texts_of_parts text) → piece ≡ get_or (texts_of_parts text) count piece → part ≡ length ps
    → IsStop (BadPartAt part n piece) refusal → IsStop (BadParts n text) refusal
refused n text ps count part piece refusal so_far within at numbered (inl wanting) = inl wanting
refused n text ps count part piece refusal so_far within at numbered (inr bad) =
    inr (count, first_bad n text ps count piece refusal so_far within at (subst (λ (number : ℕ). BadPartAt number n piece refusal) (numbered ∙ so_far.counted) bad))

-- all pieces are read
read_all : (n : ℕ) (text : List ℕ) (ps : List (List ℕ)) (count : ℕ) → HaveBeenRead n text ps count → count ≡ length (texts_of_parts text) → ArePartTexts n text ps
read_all n text ps count so_far all =
    subst (λ (pieces : List (List ℕ)). AllZip (IsTextOfPartition n) pieces ps) (take_all count (texts_of_parts text) (omega (arith, all))) so_far.told

pub accepted : (n : ℕ) (text : List ℕ) (ps : List (List ℕ)) (count : ℕ) → HaveBeenRead n text ps count → count ≡ length (texts_of_parts text) → CallsForNone (BadParts n text) × ArePartTexts n text ps
accepted n text ps count so_far all =
    let told = read_all n text ps count so_far all in
    (parts_are_not_bad n text ps told, told)
