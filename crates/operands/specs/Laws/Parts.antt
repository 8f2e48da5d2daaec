-- Laws of the operands PART and PARTS: they give partitions in only one way, and if they do they are not refused.
use Rattle.std.proofs.Common.{◌≡◌, ℕ, zero, suc, ◌+◌, ◌<◌, ◌≤◌, ◌==◌, inl, inr, All, List, [], ◌∷◌, Some, length, slice_get, count_by, refl, sym, ap, ◌∙◌, subst, arith}
use Rattle.std.specs.List.{AllZip}
use Rattle.std.proofs.lemmas.List.Elements.{All-nil, All-cons}
use Rattle.std.proofs.lemmas.List.Splits.{length-slice_split}
use Rattle.answers.specs.Cause.{CallsForNone}
use Rattle.answers.specs.Laws.Causes.{IsOf}
use Rattle.answers.specs.Refusal.{answer_of}
use Rattle.answers.specs.declared.numbers.Answer.TheVariants as answers
use Rattle.partition.specs.declared.PartFail.TheVariants.{BadText, WrongLength}
use Rattle.partition.specs.Partition.{IsPartition}
use Rattle.partition.specs.Laws.Labels.{IsPartition-of}
use Rattle.partition.specs.Laws.Texts.{partition_once}
use Rattle.partition.specs.Laws.Faults.{no_fault_of_partition}
use Rattle.operands.specs.PartFaults.{BadPart, BadPartAt, BadParts}
use Rattle.operands.specs.PartTexts.{ArePartTexts, IsTextOfPartition, texts_of_parts}

-- ---- one answer
pub bad_part_at_is_of : (part states : ℕ) (text : List ℕ) → IsOf answers.PartRefused (BadPartAt part states text)
bad_part_at_is_of part states text refusal (inl (place, is, bad)) = ap answer_of is
bad_part_at_is_of part states text refusal (inr (found, is, other)) = ap answer_of is

pub bad_part_is_of : (states : ℕ) (text : List ℕ) → IsOf answers.PartRefused (BadPart states text)
bad_part_is_of states text = bad_part_at_is_of 0 states text

pub bad_parts_is_of : (states : ℕ) (text : List ℕ) → IsOf answers.PartRefused (BadParts states text)
bad_parts_is_of states text refusal (part, first) = bad_part_at_is_of part states first.piece refusal first.bad

-- ---- the text of a partition is not refused
pub text_is_not_bad : (part states : ℕ) (text p : List ℕ) → IsTextOfPartition states text p → CallsForNone (BadPartAt part states text)
text_is_not_bad part states text p (lawful, is) refusal (inl (place, same, bad)) = no_fault_of_partition states text p (BadText place) lawful is bad
text_is_not_bad part states text p (lawful, is) refusal (inr (found, same, other)) = no_fault_of_partition states text p (WrongLength found) lawful is other

pub part_is_not_bad : (states : ℕ) (text p : List ℕ) → IsTextOfPartition states text p → CallsForNone (BadPart states text)
part_is_not_bad states text p is = text_is_not_bad 0 states text p is

-- each piece of PARTS gives a partition
pub piece_tells : (states : ℕ) (pieces ps : List (List ℕ)) → AllZip (IsTextOfPartition states) pieces ps → (number : ℕ) (piece : List ℕ) → slice_get pieces number ≡ Some piece → (p : List ℕ) × IsTextOfPartition states piece p
piece_tells states [] ps all number piece at = cc
piece_tells states (first ∷ pieces) [] all number piece at = absurd all
piece_tells states (first ∷ pieces) (p ∷ ps) all zero piece at =
    let same : Some first ≡ Some piece = at in
    (p, subst (λ (text : List ℕ). IsTextOfPartition states text p) (let e : first ≡ piece = cc in e) all.0)
piece_tells states (first ∷ pieces) (p ∷ ps) all (suc number) piece at = piece_tells states pieces ps all.1 number piece at

pub parts_are_not_bad : (states : ℕ) (text : List ℕ) (ps : List (List ℕ)) → ArePartTexts states text ps → CallsForNone (BadParts states text)
parts_are_not_bad states text ps all refusal (part, first) =
    let told = piece_tells states (texts_of_parts text) ps all part first.piece first.at in
    text_is_not_bad part states first.piece told.0 told.1 refusal first.bad

-- ---- they give only one partition, or one list of them
pub one_part : (states : ℕ) (text p q : List ℕ) → IsTextOfPartition states text p → IsTextOfPartition states text q → p ≡ q
one_part states text p q (lawful, is) (other_lawful, other_is) =
    partition_once p q (IsPartition-of (sym lawful.length) lawful) (IsPartition-of (sym other_lawful.length) other_lawful) (sym is ∙ other_is)

pieces_once : (states : ℕ) (pieces ps qs : List (List ℕ)) → AllZip (IsTextOfPartition states) pieces ps → AllZip (IsTextOfPartition states) pieces qs → ps ≡ qs
pieces_once states [] [] [] one other = refl
pieces_once states [] (p ∷ ps) qs one other = absurd one
pieces_once states [] [] (q ∷ qs) one other = absurd other
pieces_once states (piece ∷ pieces) [] qs one other = absurd one
pieces_once states (piece ∷ pieces) (p ∷ ps) [] one other = absurd other
pieces_once states (piece ∷ pieces) (p ∷ ps) (q ∷ qs) one other =
    ap (λ (first : List ℕ). first ∷ ps) (one_part states piece p q one.0 other.0) ∙ ap (λ (rest : List (List ℕ)). q ∷ rest) (pieces_once states pieces ps qs one.1 other.1)

pub one_list_of_parts : (states : ℕ) (text : List ℕ) (ps qs : List (List ℕ)) → ArePartTexts states text ps → ArePartTexts states text qs → ps ≡ qs
one_list_of_parts states text ps qs one other = pieces_once states (texts_of_parts text) ps qs one other

-- ---- the partitions that they give are lawful
lawful_of : (states : ℕ) (pieces ps : List (List ℕ)) → AllZip (IsTextOfPartition states) pieces ps → All (IsPartition states) ps
lawful_of states [] [] all = All-nil (IsPartition states)
lawful_of states [] (p ∷ ps) all = absurd all
lawful_of states (piece ∷ pieces) [] all = absurd all
lawful_of states (piece ∷ pieces) (p ∷ ps) all = All-cons (IsPartition states) p ps all.0.0 (lawful_of states pieces ps all.1)

pub parts_are_lawful : (states : ℕ) (text : List ℕ) (ps : List (List ℕ)) → ArePartTexts states text ps → All (IsPartition states) ps
parts_are_lawful states text ps all = lawful_of states (texts_of_parts text) ps all

-- ---- the number of partitions is one more than that of slashes
counted : (states : ℕ) (pieces ps : List (List ℕ)) → AllZip (IsTextOfPartition states) pieces ps → length ps ≡ length pieces
counted states [] [] all = refl
counted states [] (p ∷ ps) all = absurd all
counted states (piece ∷ pieces) [] all = absurd all
counted states (piece ∷ pieces) (p ∷ ps) all = ap suc (counted states pieces ps all.1)

pub parts_are_counted : (states : ℕ) (text : List ℕ) (ps : List (List ℕ)) → ArePartTexts states text ps → length ps ≡ count_by (λ byte. byte == 47) text + 1
parts_are_counted states text ps all = counted states (texts_of_parts text) ps all ∙ length-slice_split (λ byte. byte == 47) text

-- so at most 255 slashes give at least one partition and at most 256
pub parts_are_few : (states : ℕ) (text : List ℕ) (ps : List (List ℕ)) → count_by (λ byte. byte == 47) text ≤ 255 → ArePartTexts states text ps → (0 < length ps) × (length ps ≤ 256)
parts_are_few states text ps few all =
    let count = parts_are_counted states text ps all in
    (omega (arith, count), omega (arith, count, few))
