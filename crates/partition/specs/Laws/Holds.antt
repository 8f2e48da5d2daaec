-- Two blocks can be put together, and two states can be held together with nothing else.
use Rattle.std.proofs.Common.{◌≡◌, ℕ, ◌<◌, inl, inr, max, min, List, length, map, get_or, refl, sym, subst, arith}
use Rattle.std.proofs.lemmas.Bool.{cases_eq}
use Rattle.std.proofs.lemmas.Grind.{get_or_default_zero}
use Rattle.std.proofs.lemmas.List.{get_or-map, length-map}
use Rattle.partition.specs.Inner.RemovedLabel.{relabelled}
use Rattle.partition.specs.Laws.Chains.{together_turned}
use Rattle.partition.specs.Laws.Extremes.{zero_of_is_partition, zero_of_is_zero}
use Rattle.partition.specs.Laws.Labels.{IsPartition-of}
use Rattle.partition.specs.Laws.Merging.{merged_held}
use Rattle.partition.specs.Laws.Relabelling.{merged_already, put_together}
use Rattle.partition.specs.MergedBlocks.{IsMerged}
use Rattle.partition.specs.Partition.{IsHold, IsPartition, IsStateCount, Le, Together, zero_of}

-- two blocks can be put together
pub merged_stands : (p : List ℕ) (s t : ℕ) → IsPartition (length p) p → s < length p → t < length p → (r : List ℕ) × IsMerged p s t r
merged_stands p s t lawful in_s in_t =
    elim (cases_eq (get_or p s 0) (get_or p t 0)) [
      | inl same ↦ (p, merged_already p s t lawful (in_s, in_t, same))
      | inr two ↦
          let a = get_or p s 0 in
          let b = get_or p t 0 in
          let r = map (relabelled (min a b) (max a b)) p in (
            r,
            (put_together p p r s t a b (min a b) (max a b) lawful refl (length-map p (relabelled (min a b) (max a b))) in_s in_t
                (sym (get_or_default_zero p s a in_s)) (sym (get_or_default_zero p t b in_t)) two refl refl
                (λ k within. get_or-map (relabelled (min a b) (max a b)) p k 0 0 within)).merged,
          )
    ]

-- some partition holds two states together and nothing else
pub hold_exists : (n s t : ℕ) → IsStateCount n → s < t → t < n → (hold : List ℕ) × IsHold n s t hold
hold_exists n s t count order within = (
  merged.0,
  record {
    lawful = IsPartition-of lawful.length merged.1.lawful;
    held = merged_held (zero_of n) merged.0 s t in_s in_t merged.1;
    nothing_else = λ u v held. elim ((merged.1.together u v).0 held) [
      | inl same ↦ inl (zero_of_is_zero n u v same)
      | inr two ↦ elim two [
        | inl both ↦ inr (inl (zero_of_is_zero n u s both.0, sym (zero_of_is_zero n t v both.1)))
        | inr both ↦ inr (inr (zero_of_is_zero n u t both.0, sym (zero_of_is_zero n s v both.1)))
      ]
    ];
  },
)
  where
    lawful : IsPartition n (zero_of n)
    lawful = zero_of_is_partition n count

    in_s : s < length (zero_of n)
    in_s = omega (arith, lawful.length)

    in_t : t < length (zero_of n)
    in_t = omega (arith, lawful.length)

    merged : (r : List ℕ) × IsMerged (zero_of n) s t r
    merged = merged_stands (zero_of n) s t (IsPartition-of (sym lawful.length) lawful) in_s in_t

-- what holds s and t together and nothing else is below each partition that holds them together
pub hold_below : (n s t : ℕ) (hold p : List ℕ) → IsHold n s t hold → length p ≡ n → Together p s t → Le hold p
hold_below n s t hold p is size held u v together =
    elim (is.nothing_else u v together) [
      | inl same ↦ subst (λ (k : ℕ). Together p u k) same (omega (arith, together.0, is.lawful.length), omega (arith, together.0, is.lawful.length), refl)
      | inr rest ↦ elim rest [
        | inl (first, second) ↦ subst (λ (k : ℕ). Together p u k) (sym second) (subst (λ (k : ℕ). Together p k t) (sym first) held)
        | inr (first, second) ↦ subst (λ (k : ℕ). Together p u k) (sym second) (subst (λ (k : ℕ). Together p k s) (sym first) (together_turned p s t held))
      ]
    ]
