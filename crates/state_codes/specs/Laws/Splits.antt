-- The parts of splits of the two plain kinds are lawful.
use Rattle.std.proofs.Common.{◌≡◌, ℕ, suc, ◌+◌, List, [], ◌∷◌, ◌++◌, length, ap, refl, arith}
use Rattle.std.proofs.lemmas.List.Elements.{All-nil, All-cons, All-head, All-tail}
use Rattle.std.specs.List.{All}
use Rattle.partition.specs.Partition.{IsPartition}
use Rattle.state_codes.specs.declared.split.Part.{Part}
use Rattle.state_codes.specs.Split.{IsPart, others, given_parts}

pub given_parts-lawful : (n count j : ℕ) (partitions : List (List ℕ)) → All (IsPartition n) partitions → All (IsPart n) (given_parts count j partitions)
given_parts-lawful n count j [] all = All-nil (IsPart n)
given_parts-lawful n count j (partition ∷ partitions) all =
    let lawful : IsPartition n partition = All-head (IsPartition n) partition partitions all in
    All-cons (IsPart n) (record { partition = partition; carrier = partition; reads = others count j }) (given_parts count (suc j) partitions)
    (record { partition = lawful; carrier = lawful; above = λ s t held. held })
    (given_parts-lawful n count (suc j) partitions (All-tail (IsPartition n) partition partitions all))

-- one more partition adds one part
pub given_parts-push : (count j i : ℕ) (partitions : List (List ℕ)) (partition : List ℕ) → i ≡ j + length partitions
    → given_parts count j (partitions ++ partition ∷ []) ≡ given_parts count j partitions ++ record { partition = partition; carrier = partition; reads = others count i } ∷ []
given_parts-push count j i [] partition at = ap (λ (k : ℕ). record { partition = partition; carrier = partition; reads = others count k } ∷ []) (omega arith)
given_parts-push count j i (first ∷ partitions) partition at =
    ap (λ (rest : List Part). record { partition = first; carrier = first; reads = others count j } ∷ rest) (given_parts-push count (suc j) i partitions partition (omega arith))

-- there are as many parts as partitions
pub given_parts-length : (count j : ℕ) (partitions : List (List ℕ)) → length (given_parts count j partitions) ≡ length partitions
given_parts-length count j [] = refl
given_parts-length count j (partition ∷ partitions) = ap suc (given_parts-length count (suc j) partitions)
