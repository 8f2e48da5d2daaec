-- Laws of the parts that are given.
use Rattle.std.proofs.Common.{◌≡◌, ℕ, ◌+◌, ◌<◌, ◌≤◌, ◌==◌, List, length, count_by, arith}
use Rattle.std.proofs.lemmas.List.Splits.{length-slice_split}
use Rattle.operands.specs.PartTexts.{ArePartTexts, texts_of_parts}
use Rattle.operands.specs.Laws.Parts.{parts_are_counted}
use Rattle.split_texts.specs.GivenParts.{HasFewParts}

-- at most 255 slashes make few parts
pub few_parts : (text : List ℕ) → count_by (λ byte. byte == 47) text ≤ 255 → HasFewParts text
few_parts text few = omega (arith, length-slice_split (λ byte. byte == 47) text, few)

-- few parts are at least one and at most 256 partitions
pub few_partitions : (n : ℕ) (text : List ℕ) (ps : List (List ℕ)) → HasFewParts text → ArePartTexts n text ps → (0 < length ps) × (length ps ≤ 256)
few_partitions n text ps few all =
    let pieces : length (texts_of_parts text) ≡ count_by (λ byte. byte == 47) text + 1 = length-slice_split (λ byte. byte == 47) text in
    let count : length ps ≡ count_by (λ byte. byte == 47) text + 1 = parts_are_counted n text ps all in
    (omega (arith, count), omega (arith, count, pieces, few))
