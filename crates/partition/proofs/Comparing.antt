-- How one pass over the states tells whether one partition is at or below another.
use Rattle.std.proofs.Common.{◌≡◌, ℕ, ◌+◌, ◌<◌, ◌≤◌, ◌≢◌, List, length, get_or, set, take, refl, sym, ap, ◌∙◌, subst, inl, inr, arith}
use Rattle.std.proofs.lemmas.List.{get_or-set_same, get_or-set_other, length-set}
use Rattle.std.proofs.lemmas.Bool.{cases_eq}
use Rattle.partition.specs.Partition.{blocks_of, IsNumbered, Le}
use Rattle.partition.specs.Laws.Labels.{blocks_of-take-more, label-lt-blocks_of-take, block_stands, label-le}

-- after the first s states: how many blocks of p came, and the block of q in which each of them lies
pub record IsAbove (p q above : List ℕ) (blocks s : ℕ) : Type 0 where
  pub count : blocks ≡ blocks_of (take s p)
  pub room : length above ≡ 256
  pub kept : (t : ℕ) → t < s → get_or above (get_or p t 0) 0 ≡ get_or q t 0

pub above_none : (p q above : List ℕ) → length above ≡ 256 → IsAbove p q above 0 0
above_none p q above room = record { count = refl; room = room; kept = λ t within. absurd (omega arith) }

-- state s begins a block of p
pub above_new : (p q above : List ℕ) (blocks s : ℕ) → IsNumbered p → s < length p → length p ≤ 256 → IsAbove p q above blocks s → get_or p s 0 ≡ blocks → IsAbove p q (set above (get_or p s 0) (get_or q s 0)) (blocks + 1) (s + 1)
above_new p q above blocks s numbered within small so_far new =
    let inside : get_or p s 0 < length above = omega (arith, label-le p numbered s within, so_far.room) in
    record {
      count = omega (arith, blocks_of-take-more p s within, so_far.count, new);
      room = length-set above (get_or p s 0) (get_or q s 0) ∙ so_far.room;
      kept = λ t below. elim (cases_eq t s) [
        | inl at ↦ subst (λ (u : ℕ). get_or (set above (get_or p s 0) (get_or q s 0)) (get_or p u 0) 0 ≡ get_or q u 0) (sym at) (get_or-set_same above (get_or p s 0) (get_or q s 0) 0 inside)
        | inr other ↦ let earlier : t < s = omega arith in
            get_or-set_other above (get_or p s 0) (get_or p t 0) (get_or q s 0) 0 (λ same. let low : get_or p t 0 < blocks_of (take s p) = label-lt-blocks_of-take p t s earlier (omega arith) in absurd (omega (arith, same, new, so_far.count))) ∙ so_far.kept t earlier
      ];
    }

-- state s lies in a block of p that came, and in the block of q that was found for it
pub above_old : (p q above : List ℕ) (blocks s : ℕ) → IsNumbered p → s < length p → IsAbove p q above blocks s → get_or p s 0 ≢ blocks → get_or above (get_or p s 0) 0 ≡ get_or q s 0 → IsAbove p q above blocks (s + 1)
above_old p q above blocks s numbered within so_far old same = record {
  count = omega (arith, blocks_of-take-more p s within, so_far.count, numbered s within);
  room = so_far.room;
  kept = λ t below. elim (cases_eq t s) [
    | inl at ↦ subst (λ (u : ℕ). get_or above (get_or p u 0) 0 ≡ get_or q u 0) (sym at) same
    | inr other ↦ so_far.kept t (omega arith)
  ];
}

-- no state was found in another block
pub above_all : (p q above : List ℕ) (blocks : ℕ) → length q ≡ length p → IsAbove p q above blocks (length p) → Le p q
above_all p q above blocks lengths all s t held =
    (omega (arith, held.0), omega (arith, held.1), sym (all.kept s held.0) ∙ ap (λ (block : ℕ). get_or above block 0) held.2 ∙ all.kept t held.1)

-- state s is in another block of q than a state with which it is together in p
pub above_fails : (p q above : List ℕ) (blocks s : ℕ) → IsNumbered p → s < length p → IsAbove p q above blocks s → get_or p s 0 ≢ blocks → get_or above (get_or p s 0) 0 ≢ get_or q s 0 → Le p q → ⊥
above_fails p q above blocks s numbered within so_far old differs le =
    let earlier = block_stands p numbered s (omega arith) (get_or p s 0) (omega (arith, numbered s within, so_far.count)) in
    let t : ℕ = earlier.0 in
    let before : t < s = earlier.1 in
    let together = le t s (omega arith, within, earlier.2) in
    differs (sym (ap (λ (block : ℕ). get_or above block 0) earlier.2) ∙ so_far.kept t before ∙ together.2)
