-- The labels of a partition when one of them goes, and two blocks that are put together by it.
use Rattle.std.proofs.Common.{◌≡◌, ◌≢◌, ℕ, zero, suc, ◌+◌, ◌-◌, ◌<◌, ◌≤◌, ◌⊎◌, inl, inr, max, min, List, length, take, get_or, cond, ltb, sym, ap, ◌∙◌, subst, arith}
use Rattle.std.proofs.lemmas.Bool.{cases_eq, cases_lt}
use Rattle.std.proofs.lemmas.Bool.Decides.{nat_tests}
use Rattle.std.proofs.lemmas.List.{take_all}
use Rattle.std.proofs.lemmas.Grind.{get_or_default_zero}
use Rattle.partition.specs.Partition.{blocks_of, IsNumbered, IsPartition, Together}
use Rattle.partition.specs.MergedBlocks.{IsMerged}
use Rattle.partition.specs.Inner.RemovedLabel.{relabelled}
use Rattle.partition.specs.Laws.Labels.{blocks_of-take-suc, label-lt-blocks_of}

-- how many labels are left of so many
abbrev left_of : (gone count : ℕ) → ℕ
left_of gone count = cond (ltb gone count) (count - 1) count

left_of-more : (kept gone label count : ℕ) → kept < gone → label ≤ count
    → max (left_of gone count) (relabelled kept gone label + 1) ≡ left_of gone (max count (label + 1))
left_of-more kept gone label count order small = grind (arith, nat_tests)

relabelled-le : (kept gone label count : ℕ) → kept < gone → label ≤ count → relabelled kept gone label ≤ left_of gone count
relabelled-le kept gone label count order small = grind (arith, nat_tests)

relabelled-gone : (kept gone label : ℕ) → label ≡ gone → relabelled kept gone label ≡ kept
relabelled-gone kept gone label at = grind (arith, nat_tests)

relabelled-kept : (kept gone label : ℕ) → kept < gone → label ≡ kept → relabelled kept gone label ≡ kept
relabelled-kept kept gone label order at = grind (arith, nat_tests)

-- two labels that become equal are equal, or are the two
relabelled-same : (kept gone a b : ℕ) → kept < gone → relabelled kept gone a ≡ relabelled kept gone b
    → (a ≡ b) ⊎ (((a ≡ kept) × (b ≡ gone)) ⊎ ((a ≡ gone) × (b ≡ kept)))
relabelled-same kept gone a b order same =
    elim (cases_eq a b) [
      | inl one ↦ inl one
      | inr two ↦
          elim (cases_eq a gone) [
            | inl at ↦ inr (inr (at, grind (arith, nat_tests)))
            | inr other ↦ inr (inl (grind (arith, nat_tests), grind (arith, nat_tests)))
          ]
    ]

left_of-one : (gone count : ℕ) → gone < count → left_of gone count ≡ count - 1
left_of-one gone count below = grind (arith, nat_tests)

-- each label is the new one of what it was
abbrev pub Relabels : List ℕ → (kept gone : ℕ) → List ℕ → Type 0
Relabels p kept gone r = (s : ℕ) → s < length p → get_or r s 0 ≡ relabelled kept gone (get_or p s 0)

module _ (p r : List ℕ) (kept gone : ℕ) (numbered : IsNumbered p) (order : kept < gone) (size : length r ≡ length p) (each : Relabels p kept gone r) where
  blocks_of-front : (s : ℕ) → s ≤ length p → blocks_of (take s r) ≡ left_of gone (blocks_of (take s p))
  blocks_of-front zero within = grind (arith, nat_tests)
  blocks_of-front (suc s) within =
      let here : s < length p = omega arith in
      let old : blocks_of (take (suc s) p) ≡ max (blocks_of (take s p)) (get_or p s 0 + 1) = blocks_of-take-suc p s here in
      let new : blocks_of (take (suc s) r) ≡ max (blocks_of (take s r)) (get_or r s 0 + 1) = blocks_of-take-suc r s (omega arith) in
      rw (new, old, blocks_of-front s (omega arith), each s here) (left_of-more kept gone (get_or p s 0) (blocks_of (take s p)) order (numbered s here))

  relabelled_numbered : IsNumbered r
  relabelled_numbered s within =
      let here : s < length p = omega arith in
      rw (each s here, blocks_of-front s (omega arith)) (relabelled-le kept gone (get_or p s 0) (blocks_of (take s p)) order (numbered s here))

  pub relabelled_blocks : gone < blocks_of p → blocks_of r + 1 ≡ blocks_of p
  relabelled_blocks below =
      let whole : blocks_of (take (length p) r) ≡ left_of gone (blocks_of (take (length p) p)) = blocks_of-front (length p) (omega arith) in
      let is : blocks_of r ≡ left_of gone (blocks_of p) = rw (take_all (length p) r (omega arith), take_all (length p) p (omega arith)) at whole in
      omega (arith, is, left_of-one gone (blocks_of p) below)

  pub relabelled_merged : IsPartition (length p) p → (s t : ℕ) → s < length p → t < length p
      → ((get_or p s 0 ≡ kept) × (get_or p t 0 ≡ gone)) ⊎ ((get_or p s 0 ≡ gone) × (get_or p t 0 ≡ kept)) → IsMerged p s t r
  relabelled_merged lawful s t in_s in_t ends = record {
    lawful = record { count = lawful.count; length = size; numbered = relabelled_numbered };
    together = λ u v. (apart u v, joined u v);
  }
    where
      new : (u : ℕ) → u < length p → get_or r u 0 ≡ relabelled kept gone (get_or p u 0)
      new u within = each u within

      two : (u v : ℕ) → u < length p → v < length p → ((get_or p u 0 ≡ kept) × (get_or p v 0 ≡ gone)) ⊎ ((get_or p u 0 ≡ gone) × (get_or p v 0 ≡ kept))
          → (Together p u s × Together p t v) ⊎ (Together p u t × Together p s v)
      two u v in_u in_v both =
          elim ends [
            | inl straight ↦
                elim both [
                  | inl up ↦ inl ((in_u, in_s, omega arith), (in_t, in_v, omega arith))
                  | inr down ↦ inr ((in_u, in_t, omega arith), (in_s, in_v, omega arith))
                ]
            | inr turned ↦
                elim both [
                  | inl up ↦ inr ((in_u, in_t, omega arith), (in_s, in_v, omega arith))
                  | inr down ↦ inl ((in_u, in_s, omega arith), (in_t, in_v, omega arith))
                ]
          ]

      apart : (u v : ℕ) → Together r u v → Together p u v ⊎ ((Together p u s × Together p t v) ⊎ (Together p u t × Together p s v))
      apart u v held =
          let in_u : u < length p = omega arith in
          let in_v : v < length p = omega arith in
          elim (relabelled-same kept gone (get_or p u 0) (get_or p v 0) order (sym (each u in_u) ∙ held.2 ∙ each v in_v)) [
            | inl one ↦ inl (in_u, in_v, one)
            | inr both ↦ inr (two u v in_u in_v both)
          ]

      -- of the two labels both become the one that is kept
      kept_s : relabelled kept gone (get_or p s 0) ≡ kept
      kept_s = elim ends [ inl straight ↦ relabelled-kept kept gone _ order straight.0 | inr turned ↦ relabelled-gone kept gone _ turned.0 ]

      kept_t : relabelled kept gone (get_or p t 0) ≡ kept
      kept_t = elim ends [ inl straight ↦ relabelled-gone kept gone _ straight.1 | inr turned ↦ relabelled-kept kept gone _ order turned.1 ]

      becomes : (u w : ℕ) → Together p u w → get_or r u 0 ≡ relabelled kept gone (get_or p w 0)
      becomes u w held = each u held.0 ∙ ap (relabelled kept gone) held.2

      joined : (u v : ℕ) → Together p u v ⊎ ((Together p u s × Together p t v) ⊎ (Together p u t × Together p s v)) → Together r u v
      joined u v (inl held) = (omega (arith, held.0), omega (arith, held.1), becomes u v held ∙ sym (each v held.1))
      joined u v (inr (inl both)) =
          (omega (arith, both.0.0), omega (arith, both.1.1), becomes u s both.0 ∙ kept_s ∙ sym kept_t ∙ ap (relabelled kept gone) both.1.2 ∙ sym (each v both.1.1))
      joined u v (inr (inr both)) =
          (omega (arith, both.0.0), omega (arith, both.1.1), becomes u t both.0 ∙ kept_t ∙ sym kept_s ∙ ap (relabelled kept gone) both.1.2 ∙ sym (each v both.1.1))

-- states that are together already
pub merged_already : (p : List ℕ) (s t : ℕ) → IsPartition (length p) p → Together p s t → IsMerged p s t p
merged_already p s t lawful held = record {
  lawful = lawful;
  together = λ u v. ((λ both. inl both), (λ any. joined u v any));
}
  where
    joined : (u v : ℕ) → Together p u v ⊎ ((Together p u s × Together p t v) ⊎ (Together p u t × Together p s v)) → Together p u v
    joined u v (inl both) = both
    joined u v (inr (inl both)) = (both.0.0, both.1.1, both.0.2 ∙ held.2 ∙ both.1.2)
    joined u v (inr (inr both)) = (both.0.0, both.1.1, both.0.2 ∙ sym held.2 ∙ both.1.2)

-- the lesser and the greater of two labels
labels_are_ends : (a b : ℕ) → a ≢ b → (((a ≡ min a b) × (b ≡ max a b)) ⊎ ((a ≡ max a b) × (b ≡ min a b)))
labels_are_ends a b two =
    elim (cases_lt a b) [
      | inl less ↦ inl (omega arith, omega arith)
      | inr more ↦ inr (omega arith, omega arith)
    ]

-- two blocks put together, and their number; the labels before are read through a slice
pub record IsPutTogether (p : List ℕ) (s t : ℕ) (r : List ℕ) : Type 0 where
  pub merged : IsMerged p s t r
  pub blocks : blocks_of r + 1 ≡ blocks_of p

pub put_together : (p q r : List ℕ) (s t a b kept gone : ℕ) → IsPartition (length p) p → q ≡ p → length r ≡ length q → s < length p → t < length p
    → a ≡ get_or p s a → b ≡ get_or p t b → a ≢ b → kept ≡ min a b → gone ≡ max a b → Relabels q kept gone r → IsPutTogether p s t r
put_together p q r s t a b kept gone lawful same size in_s in_t reads_a reads_b two is_kept is_gone each =
    let at_s : get_or p s 0 ≡ a = sym (get_or_default_zero p s a in_s) ∙ sym reads_a in
    let at_t : get_or p t 0 ≡ b = sym (get_or_default_zero p t b in_t) ∙ sym reads_b in
    let order : kept < gone = omega arith in
    let long : length r ≡ length p = size ∙ ap length same in
    let all : Relabels p kept gone r = subst (λ (xs : List ℕ). Relabels xs kept gone r) same each in
    record {
      merged = relabelled_merged p r kept gone lawful.numbered order long all lawful s t in_s in_t
          (elim (labels_are_ends a b two) [
            | inl straight ↦ inl (at_s ∙ straight.0 ∙ sym is_kept, at_t ∙ straight.1 ∙ sym is_gone)
            | inr turned ↦ inr (at_s ∙ turned.0 ∙ sym is_gone, at_t ∙ turned.1 ∙ sym is_kept)
          ]);
      blocks = relabelled_blocks p r kept gone lawful.numbered order long all (omega (arith, label-lt-blocks_of p s in_s, label-lt-blocks_of p t in_t));
    }
