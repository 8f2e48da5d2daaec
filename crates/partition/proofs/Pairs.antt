-- A number for each pair of blocks: equal numbers are equal pairs, which makes the meet.
use Rattle.std.proofs.Common.{◌≡◌, ℕ, ◌+◌, ◌*◌, ◌<◌, ◌≤◌, List, length, get_or, sym, ap, ◌∙◌, arith}
use Rattle.std.proofs.lemmas.Nat.{mul-add-lt, same_from_place}
use Rattle.std.proofs.Math.Nat.{mul-le-mul}
use Rattle.partition.specs.Partition.{blocks_of, IsPartition, SameTogether}
use Rattle.partition.specs.MeetAndJoin.{IsMeet}
use Rattle.partition.specs.Laws.Labels.{label-lt-blocks_of, blocks_of-le, IsPartition-of}

-- a number of a pair is below the product of the numbers of blocks
pub pair_lt : (p q : List ℕ) (s : ℕ) → s < length p → s < length q → get_or p s 0 * blocks_of q + get_or q s 0 < blocks_of p * blocks_of q
pair_lt p q s in_p in_q =
    omega (arith, mul-add-lt (get_or p s 0) (blocks_of q) (get_or q s 0) (blocks_of p) (label-lt-blocks_of p s in_p) (label-lt-blocks_of q s in_q))

-- that product is at most 65536
pub pairs_few : (n : ℕ) (p q : List ℕ) → IsPartition n p → IsPartition n q → blocks_of p * blocks_of q ≤ 65536
pairs_few n p q left right =
    mul-le-mul {n₂ = 256} {m₂ = 256} (omega (arith, blocks_of-le p left.numbered, left.length, left.count.1)) (omega (arith, blocks_of-le q right.numbered, right.length, right.count.1))

-- labels for the pairs are the meet
pub pairs_are_meet : (p q values r : List ℕ) → IsPartition (length p) p → IsPartition (length p) q → length values ≡ length p → ((s : ℕ) → s < length p → get_or values s 0 ≡ get_or p s 0 * blocks_of q + get_or q s 0) → IsPartition (length values) r → SameTogether values r → IsMeet p q r
pairs_are_meet p q values r left right size pairs lawful same = record {
  lawful = IsPartition-of size lawful;
  together = λ s t. (
    (λ held.
        let was = (same s t).1 held in
        let in_s : s < length p = omega (arith, was.0) in
        let in_t : t < length p = omega (arith, was.1) in
        let both = same_from_place (get_or p s 0) (get_or q s 0) (get_or p t 0) (get_or q t 0) (blocks_of q) (label-lt-blocks_of q s (omega (arith, right.length))) (label-lt-blocks_of q t (omega (arith, right.length))) (sym (pairs s in_s) ∙ was.2 ∙ pairs t in_t) in
        ((in_s, in_t, both.0), (omega (arith, right.length), omega (arith, right.length), both.1))),
    (λ held. (same s t).0 (omega (arith, held.0.0), omega (arith, held.0.1), pairs s held.0.0 ∙ ap (λ (a : ℕ). a * blocks_of q + get_or q s 0) held.0.2 ∙ ap (λ (b : ℕ). get_or p t 0 * blocks_of q + b) held.1.2 ∙ sym (pairs t held.0.1))),
  );
}
