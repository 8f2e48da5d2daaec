-- How many blocks the parts have, and that the first part is not trivial.
use Rattle.std.proofs.Common.{◌≡◌, ℕ, zero, suc, ◌+◌, ◌<◌, ◌==◌, Bool, cond, List, [], ◌∷◌, ◌++◌, All, length, get_or, map, sum_by, take, refl, sym, ap, ◌∙◌, inl, inr, arith}
use Rattle.std.proofs.lemmas.Bool.{cases_lt, eq-eqb, ne_eqb}
use Rattle.std.proofs.lemmas.List.{get_or_default, map-append, take_all}
use Rattle.std.proofs.lemmas.List.Elements.{All-get_or}
use Rattle.std.proofs.lemmas.List.Sums.{sum_by-append, sum_by-cons}
use Rattle.std.proofs.lemmas.Option.{slice_get_within, slice_get-get_or}
use Rattle.partition.specs.Partition.{IsNontrivial, IsOne, IsZero, Together, blocks_of}
use Rattle.partition.specs.NestedBlocks.{IsLargestSize, size_of}
use Rattle.partition.specs.Laws.Labels.{block_stands, label-lt-blocks_of}
use Rattle.cover_split.specs.StateCover.{IsBlock, IsStateCover, block_at}
use Rattle.cover_split.specs.Expansion.{IsPair, pairs_from, pairs_of, pairs_with}
use Rattle.cover_split.specs.Parts.{IsByBlock, IsLongest}
use Rattle.cover_split.specs.Laws.Pairs.{pair_at, pair_has, some_pair, start_of}
use Rattle.cover_split.proofs.PartLemmas.{label_is, labels_of}

-- how many of the pairs are of block j
abbrev count : ℕ → List (ℕ × ℕ) → ℕ
count j pairs = sum_by (λ label. cond (label == j) 1 0) (map (λ (pair : ℕ × ℕ). pair.0) pairs)

count-append : (j : ℕ) (xs ys : List (ℕ × ℕ)) → count j (xs ++ ys) ≡ count j xs + count j ys
count-append j xs ys =
    ap (sum_by (λ (label : ℕ). cond (label == j) 1 0)) (map-append (λ (pair : ℕ × ℕ). pair.0) xs ys)
    ∙ sum_by-append (λ (label : ℕ). cond (label == j) 1 0) (map (λ (pair : ℕ × ℕ). pair.0) xs) (map (λ (pair : ℕ × ℕ). pair.0) ys)

count_cons : (j b s : ℕ) (pairs : List (ℕ × ℕ)) → count j ((b, s) ∷ pairs) ≡ cond (b == j) 1 0 + count j pairs
count_cons j b s pairs = sum_by-cons (λ (label : ℕ). cond (label == j) 1 0) b (map (λ (pair : ℕ × ℕ). pair.0) pairs)

count_own : (b : ℕ) (block : List ℕ) → count b (pairs_with b block) ≡ length block
count_own b [] = refl
count_own b (s ∷ block) = omega (arith, count_cons b b s (pairs_with b block), ap {B = ℕ} (λ (t : Bool). cond t 1 0) (eq-eqb b b refl), count_own b block)

count_other : (b j : ℕ) (block : List ℕ) → (b ≡ j → ⊥) → count j (pairs_with b block) ≡ 0
count_other b j [] apart = refl
count_other b j (s ∷ block) apart = omega (arith, count_cons j b s (pairs_with b block), ap {B = ℕ} (λ (t : Bool). cond t 1 0) (ne_eqb b j apart), count_other b j block apart)

count_later : (b j : ℕ) (blocks : List (List ℕ)) → j < b → count j (pairs_from b blocks) ≡ 0
count_later b j [] low = refl
count_later b j (block ∷ blocks) low =
    omega (arith, count-append j (pairs_with b block) (pairs_from (suc b) blocks), count_other b j block (λ same. omega arith), count_later (suc b) j blocks (omega arith))

count_from : (b j : ℕ) (blocks : List (List ℕ)) → count (b + j) (pairs_from b blocks) ≡ length (block_at blocks j)
count_from b j [] = refl
count_from b zero (block ∷ blocks) =
    let e : b + 0 ≡ b = omega arith in
    let here : count (b + 0) (pairs_from b (block ∷ blocks)) ≡ count b (pairs_from b (block ∷ blocks)) = ap (λ (n : ℕ). count n (pairs_from b (block ∷ blocks))) e in
    omega (arith, here, count-append b (pairs_with b block) (pairs_from (suc b) blocks), count_own b block, count_later (suc b) b blocks (omega arith))
count_from b (suc j) (block ∷ blocks) =
    let e : b + suc j ≡ suc b + j = omega arith in
    let there : count (b + suc j) (pairs_from b (block ∷ blocks)) ≡ count (suc b + j) (pairs_from b (block ∷ blocks)) = ap (λ (n : ℕ). count n (pairs_from b (block ∷ blocks))) e in
    omega (
      arith,
      there,
      count-append (suc b + j) (pairs_with b block) (pairs_from (suc b) blocks),
      count_other b (suc b + j) block (λ same. omega arith),
      count_from (suc b) j blocks,
    )

-- a block has as many pairs as states
size_is : (blocks : List (List ℕ)) (j : ℕ) → size_of (labels_of blocks) j ≡ length (block_at blocks j)
unfolding labels_of pairs_of
size_is blocks j = let e : j ≡ 0 + j = omega arith in ap (λ (n : ℕ). count n (pairs_from 0 blocks)) e ∙ count_from 0 j blocks

pub longest : (blocks : List (List ℕ)) (p : List ℕ) (size : ℕ) → p ≡ labels_of blocks → IsLargestSize p size → IsLongest blocks size
longest blocks p size is it = record {
  block = it.block;
  reached = sym (size_is blocks it.block) ∙ ap (λ (xs : List ℕ). size_of xs it.block) (sym is) ∙ it.reached;
  longest = λ other. omega (arith, size_is blocks other, ap (λ (xs : List ℕ). size_of xs other) is, it.largest other);
}

module _ (n : ℕ) (blocks : List (List ℕ)) (cover : IsStateCover n blocks) (p : List ℕ) (is : IsByBlock blocks p) where
  -- a state of a block
  pair_in : (j k : ℕ) → k < length (block_at blocks j) → IsPair blocks (start_of blocks j + k) j (get_or (block_at blocks j) k 0)
  pair_in j k within = pair_at blocks j k (get_or (block_at blocks j) k 0) (slice_get-get_or (block_at blocks j) k 0 within)

  first_pair : (j : ℕ) → j < length blocks → IsPair blocks (start_of blocks j + 0) j (get_or (block_at blocks j) 0 0)
  first_pair j within = pair_in j 0 (All-get_or (IsBlock n) blocks j [] within cover.lawful).some

  some_block : 0 < length blocks
  some_block = let state = cover.each 0 (omega (arith, cover.count.0)) in omega (arith, state.1)

  pub front_count : p ≡ labels_of blocks → blocks_of p ≡ length blocks
  front_count same =
      elim (cases_lt (blocks_of p) (length blocks)) [
        | inl few ↦
            let i = start_of blocks (blocks_of p) + 0 in
            let pair = first_pair (blocks_of p) few in
            let inside : i < length p = omega (arith, slice_get_within (pairs_of blocks) i (blocks_of p, get_or (block_at blocks (blocks_of p)) 0 0) pair, is.lawful.length) in
            let label : get_or p i 0 ≡ blocks_of p = ap (λ (xs : List ℕ). get_or xs i 0) same ∙ label_is blocks i (blocks_of p) (get_or (block_at blocks (blocks_of p)) 0 0) 0 pair in
            absurd (omega (arith, label-lt-blocks_of p i inside, label))
        | inr enough ↦
            elim (cases_lt (length blocks) (blocks_of p)) [
              | inl more ↦
                  let whole : blocks_of (take (length p) p) ≡ blocks_of p = ap blocks_of (take_all (length p) p (omega arith)) in
                  let it = block_stands p is.lawful.numbered (length p) (omega arith) (length blocks) (omega (arith, more, whole)) in
                  let pair = some_pair blocks it.0 (omega (arith, it.1, is.lawful.length)) in
                  let label : get_or p it.0 0 ≡ pair.0 = ap (λ (xs : List ℕ). get_or xs it.0 0) same ∙ label_is blocks it.0 pair.0 pair.1 0 pair.2 in
                  absurd (omega (arith, label, it.2, (pair_has blocks it.0 pair.0 pair.1 pair.2).0))
              | inr level ↦ omega arith
            ]
      ]

  not_zero : IsZero p → ⊥
  not_zero zero' = cover.rich (inr single) where
    single : All (λ block. length block < 2) blocks
    single k d within =
        elim (cases_lt (length (get_or blocks k d)) 2) [
          | inl one ↦ one
          | inr two ↦
              let same : length (get_or blocks k d) ≡ length (block_at blocks k) = ap length (get_or_default blocks k d [] within) in
              let one = pair_in k 0 (omega (arith, same)) in
              let other = pair_in k 1 (omega (arith, same)) in
              let held : Together p (start_of blocks k + 0) (start_of blocks k + 1) =
              (is.together (start_of blocks k + 0) k (get_or (block_at blocks k) 0 0) (start_of blocks k + 1) k (get_or (block_at blocks k) 1 0) one other).1 refl in
              let equal : start_of blocks k + 0 ≡ start_of blocks k + 1 = zero' (start_of blocks k + 0) (start_of blocks k + 1) held in
              absurd (omega arith)
        ]

  not_one : IsOne p → ⊥
  not_one all =
      cover.rich (inl (elim (cases_lt 1 (length blocks)) [
        | inl two ↦
            let i = start_of blocks 0 + 0 in
            let k = start_of blocks 1 + 0 in
            let s = get_or (block_at blocks 0) 0 0 in
            let t = get_or (block_at blocks 1) 0 0 in
            let one = first_pair 0 (omega arith) in
            let other = first_pair 1 two in
            let inside : i < length p = omega (arith, slice_get_within (pairs_of blocks) i (0, s) one, is.lawful.length) in
            let inside_too : k < length p = omega (arith, slice_get_within (pairs_of blocks) k (1, t) other, is.lawful.length) in
            let same : 0 ≡ 1 = (is.together i 0 s k 1 t one other).0 (all i k inside inside_too) in
            absurd (omega arith)
        | inr few ↦ omega (arith, some_block)
      ]))

  pub front_nontrivial : IsNontrivial p
  front_nontrivial = (not_zero, not_one)
