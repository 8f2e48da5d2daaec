-- The least state of a block.
use Rattle.std.proofs.Common.{◌≡◌, ◌≢◌, ℕ, ◌<◌, ◌≤◌, ◌==◌, List, length, get_or, refl, sym, ap, ◌∙◌, inl, inr, arith}
use Rattle.std.proofs.lemmas.Bool.{cases_lt, eq-eqb, eqb-true, ne_eqb, false≢true}
use Rattle.std.proofs.lemmas.List.Sums.{position_or_len_is, passes_at_first, fails_before_first}
use Rattle.std.specs.List.{position_or_len}
use Rattle.partition.specs.Partition.{Together}
use Rattle.partition.specs.NestedBlocks.{least_of}

-- no state of a block is below its least
pub least_of-le : (q : List ℕ) (s t : ℕ) → get_or q t 0 ≡ get_or q s 0 → least_of q s ≤ t
least_of-le q s t same =
    elim (cases_lt t (least_of q s)) [
      | inl below ↦ absurd (false≢true (sym (fails_before_first (λ label. label == get_or q s 0) q t 0 below) ∙ eq-eqb (get_or q t 0) (get_or q s 0) same))
      | inr above ↦ above
    ]

-- a state that begins a block is its least
pub least_of-first : (q : List ℕ) (s : ℕ) → s < length q → ((t : ℕ) → t < s → get_or q t 0 ≢ get_or q s 0) → least_of q s ≡ s
least_of-first q s within new =
    position_or_len_is (λ label. label == get_or q s 0) q s 0 (omega arith) (λ t below. ne_eqb (get_or q t 0) (get_or q s 0) (new t below)) (λ inside. eq-eqb (get_or q s 0) (get_or q s 0) refl)

-- the states of a block have one least
pub least_of-same : (q : List ℕ) (s t : ℕ) → get_or q s 0 ≡ get_or q t 0 → least_of q s ≡ least_of q t
least_of-same q s t same = ap (λ (block : ℕ). position_or_len (λ label. label == block) q) same

-- it has the label of the block
pub least_holds : (p : List ℕ) (s : ℕ) → s < length p → get_or p (least_of p s) 0 ≡ get_or p s 0
least_holds p s within =
    let least : least_of p s ≤ s = least_of-le p s s refl in
    eqb-true (get_or p (least_of p s) 0) (get_or p s 0) (passes_at_first (λ label. label == get_or p s 0) p 0 (omega arith))

pub least_of-together : (p : List ℕ) (s : ℕ) → s < length p → Together p (least_of p s) s
least_of-together p s within =
    let low : least_of p s ≤ s = least_of-le p s s refl in
    (omega arith, within, least_holds p s within)
