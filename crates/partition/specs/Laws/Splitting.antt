-- States that are related are put together, one state after another.
use Rattle.std.proofs.Common.{◌≡◌, ℕ, ◌+◌, ◌<◌, ◌≤◌, ◌⊎◌, ◌∙◌, List, take, length, get_or, sym, subst, refl, inl, inr, arith}
use Rattle.std.proofs.lemmas.Bool.{cases_eq}
use Rattle.partition.specs.Partition.{blocks_of, IsPartition, IsZero, Together}
use Rattle.partition.specs.MergedBlocks.{IsMerged}
use Rattle.partition.specs.RelationBlocks.{AreRelated, IsSearched, IsSplitBy, IsSplitUpTo}
use Rattle.partition.specs.Laws.Labels.{IsPartition-of, block_stands, blocks_of-take-more}
use Rattle.partition.specs.Laws.Chains.{together_turned}
use Rattle.partition.specs.Laws.Merging.{merged_above, merged_held}

-- the split up to no state
pub split_none : (R : ℕ → ℕ → Type 0) (n : ℕ) (zero : List ℕ) → IsPartition n zero → IsZero zero → IsSplitUpTo R n 0 zero
split_none R n zero lawful is = record {
  lawful = lawful;
  related = λ s t held. inl (is s t held);
  kept = λ s t in_s in_t related. absurd (omega arith);
}

-- the split up to all states
pub split_all : (R : ℕ → ℕ → Type 0) (n count : ℕ) (p : List ℕ) → n ≡ count → IsSplitUpTo R n count p → IsSplitBy R n p
split_all R n count p size so_far = subst (λ (k : ℕ). IsSplitUpTo R n k p) (sym size) so_far

module _ (R : ℕ → ℕ → Type 0) (turned : (s t : ℕ) → R s t → R t s) (on : (s t u : ℕ) → R s t → R t u → R s u) where
  same_on : (s t u : ℕ) → (s ≡ t) ⊎ R s t → (t ≡ u) ⊎ R t u → (s ≡ u) ⊎ R s u
  same_on s t u (inl one) (inl two) = inl (one ∙ two)
  same_on s t u (inl one) (inr two) = inr (subst (λ (w : ℕ). R w u) (sym one) two)
  same_on s t u (inr one) (inl two) = inr (subst (λ (w : ℕ). R s w) two one)
  same_on s t u (inr one) (inr two) = inr (on s t u one two)

  module _ (n s first : ℕ) (p r : List ℕ) (in_s : s < n) (below : first < s) (like : R first s) (so_far : IsSplitUpTo R n s p) (is : IsMerged p first s r) where
    related : (t u : ℕ) → Together r t u → (t ≡ u) ⊎ R t u
    related t u held =
        elim ((is.together t u).0 held) [
          | inl old ↦ so_far.related t u old
          | inr new ↦
              elim new [
                | inl way ↦ same_on t first u (so_far.related t first way.0) (same_on first s u (inr like) (so_far.related s u way.1))
                | inr way ↦ same_on t s u (so_far.related t s way.0) (same_on s first u (inr (turned first s like)) (so_far.related first u way.1))
              ]
        ]

    joined : Together r first s
    joined = merged_held p r first s (omega (arith, so_far.lawful.length)) (omega (arith, so_far.lawful.length)) is

    -- an earlier state that is related to s is together with s
    with_this : (t : ℕ) → t < s → R t s → Together r t s
    with_this t earlier both =
        let held = merged_above p r first s is t first (so_far.kept t first earlier below (on t s first both (turned first s like))) in
        (held.0, joined.1, held.2 ∙ joined.2)

    put : (t u : ℕ) → t < s + 1 → u < s + 1 → R t u → Together r t u
    put t u in_t in_u both =
        elim (cases_eq t s) [
          | inl t_at ↦
              elim (cases_eq u s) [
                | inl u_at ↦ subst (λ (w : ℕ). Together r w u) (sym t_at) (subst (λ (w : ℕ). Together r s w) (sym u_at) (joined.1, joined.1, refl))
                | inr u_other ↦
                    subst (λ (w : ℕ). Together r w u) (sym t_at)
                    (together_turned r u s (with_this u (omega arith) (turned s u (subst (λ (w : ℕ). R w u) t_at both))))
              ]
          | inr t_other ↦
              elim (cases_eq u s) [
                | inl u_at ↦ subst (λ (w : ℕ). Together r t w) (sym u_at) (with_this t (omega arith) (subst (λ (w : ℕ). R t w) u_at both))
                | inr u_other ↦ merged_above p r first s is t u (so_far.kept t u (omega arith) (omega arith) both)
              ]
        ]

    -- the split up to s, where s is related to an earlier state
    pub split_joined : IsSplitUpTo R n (s + 1) r
    split_joined = record { lawful = IsPartition-of so_far.lawful.length is.lawful; related = related; kept = put }

  module _ (n s : ℕ) (p : List ℕ) (in_s : s < n) (none : (t : ℕ) → t < s → R t s → ⊥) (so_far : IsSplitUpTo R n s p) where
    inside : s < length p
    inside = omega (arith, so_far.lawful.length)

    put_alone : (t u : ℕ) → t < s + 1 → u < s + 1 → R t u → Together p t u
    put_alone t u in_t in_u both =
        elim (cases_eq t s) [
          | inl t_at ↦
              elim (cases_eq u s) [
                | inl u_at ↦ subst (λ (w : ℕ). Together p w u) (sym t_at) (subst (λ (w : ℕ). Together p s w) (sym u_at) (inside, inside, refl))
                | inr u_other ↦ absurd (none u (omega arith) (turned s u (subst (λ (w : ℕ). R w u) t_at both)))
              ]
          | inr t_other ↦
              elim (cases_eq u s) [
                | inl u_at ↦ absurd (none t (omega arith) (subst (λ (w : ℕ). R t w) u_at both))
                | inr u_other ↦ so_far.kept t u (omega arith) (omega arith) both
              ]
        ]

    -- the split up to s, where s is not related to an earlier state
    pub split_alone : IsSplitUpTo R n (s + 1) p
    split_alone = record { lawful = so_far.lawful; related = so_far.related; kept = put_alone }

pub searched_none : (R : ℕ → ℕ → Type 0) (p : List ℕ) (s : ℕ) → IsSearched R p s 0 0
searched_none R p s = record { count = refl; none = λ u within. absurd (omega arith) }

none_more : (R : ℕ → ℕ → Type 0) (s t : ℕ) → ((u : ℕ) → u < t → R u s → ⊥) → (R t s → ⊥) → (u : ℕ) → u < t + 1 → R u s → ⊥
none_more R s t before here u within related =
    elim (cases_eq u t) [
      | inl at ↦ here (subst (λ (w : ℕ). R w s) at related)
      | inr other ↦ before u (omega arith) related
    ]

-- the search goes past the least state of a block, which is not related to s
pub searched_first : (R : ℕ → ℕ → Type 0) (p : List ℕ) (s t blocks : ℕ) → t < length p → get_or p t 0 ≡ blocks → (R t s → ⊥) → IsSearched R p s t blocks → IsSearched R p s (t + 1) (blocks + 1)
searched_first R p s t blocks within new apart so_far = record {
  count = omega (arith, so_far.count, blocks_of-take-more p t within);
  none = none_more R s t so_far.none apart;
}

-- the search goes past another state of a block, which is related to s only if an earlier one is
pub searched_later : (R : ℕ → ℕ → Type 0) (on : (s t u : ℕ) → R s t → R t u → R s u) (n : ℕ) (p : List ℕ) (s t blocks : ℕ) → IsPartition n p → AreRelated R p → t < length p → (get_or p t 0 ≡ blocks → ⊥) → IsSearched R p s t blocks → IsSearched R p s (t + 1) blocks
searched_later R on n p s t blocks lawful related within old so_far =
    let low : get_or p t 0 ≤ blocks_of (take t p) = lawful.numbered t within in
    let below : get_or p t 0 < blocks_of (take t p) = omega (arith, so_far.count) in
    let earlier = block_stands p lawful.numbered t (omega arith) (get_or p t 0) below in
    record {
      count = omega (arith, so_far.count, blocks_of-take-more p t within);
      none = none_more R s t so_far.none (λ here. elim (related earlier.0 t (omega arith, within, earlier.2)) [
        | inl same ↦ so_far.none earlier.0 earlier.1 (subst (λ (w : ℕ). R w s) (sym same) here)
        | inr like ↦ so_far.none earlier.0 earlier.1 (on earlier.0 t s like here)
      ]);
    }
