-- One bit of every word, set state by state.
use Rattle.std.proofs.Common.{◌≡◌, ℕ, ◌+◌, ◌*◌, ◌%◌, ◌^◌, ◌<◌, ◌≤◌, ◌==◌, cond, inl, inr, List, length, get_or, set, bit_or, sym, ap, ◌∙◌, subst, arith, w64}
use Rattle.std.proofs.lemmas.Bool.{cases_eq, cond-true, cond-false, eq-eqb, ne_eqb}
use Rattle.std.proofs.lemmas.List.{get_or-set_same, get_or-set_other}
use Rattle.std.proofs.lemmas.Nat.Bits.{bit_at_set_same, bit_at_set_other}
use Rattle.std.specs.Int.{bit_at}

-- after the first s states: their words have the label's bit, and the others are as they were
pub record IsSetting (at weight : ℕ) (labels old words : List ℕ) (s : ℕ) : Type 0 where
  pub done : (k : ℕ) → k < s → bit_at (get_or old k 0) at ≡ 0 → (i : ℕ) → bit_at (get_or words k 0) i ≡ cond (i == at) (bit_at (get_or labels k 0) weight) (bit_at (get_or old k 0) i)
  pub left : (k : ℕ) → s ≤ k → get_or words k 0 ≡ get_or old k 0

module _ (at weight : ℕ) (labels old words : List ℕ) (s : ℕ) (so_far : IsSetting at weight labels old words s) where
  -- the label has the bit, which is set
  pub setting_set : at < 64 → s < length words → bit_at (get_or labels s 0) weight ≡ 1 → IsSetting at weight labels old (set words s (bit_or (get_or words s 0) (1 * 2 ^ at % 2 ^ 64))) (s + 1)
  setting_set small within has = record {
    done = λ k below clear i. elim (cases_eq k s) [
      | inl here ↦ subst (λ (t : ℕ). bit_at (get_or (set words s (bit_or (get_or words s 0) (1 * 2 ^ at % 2 ^ 64))) t 0) i ≡ cond (i == at) (bit_at (get_or labels t 0) weight) (bit_at (get_or old t 0) i)) (sym here)
          (ap (λ (word : ℕ). bit_at word i) (get_or-set_same words s (bit_or (get_or words s 0) (1 * 2 ^ at % 2 ^ 64)) 0 within) ∙ set_here i)
      | inr other ↦ ap (λ (word : ℕ). bit_at word i) (get_or-set_other words s k (bit_or (get_or words s 0) (1 * 2 ^ at % 2 ^ 64)) 0 other) ∙ so_far.done k (omega arith) clear i
    ];
    left = λ k above. get_or-set_other words s k (bit_or (get_or words s 0) (1 * 2 ^ at % 2 ^ 64)) 0 (λ e. absurd (omega arith)) ∙ so_far.left k (omega arith);
  }
    where
      set_here : (i : ℕ) → bit_at (bit_or (get_or words s 0) (1 * 2 ^ at % 2 ^ 64)) i ≡ cond (i == at) (bit_at (get_or labels s 0) weight) (bit_at (get_or old s 0) i)
      set_here i = elim (cases_eq i at) [
        | inl e ↦ ap (bit_at (bit_or (get_or words s 0) (1 * 2 ^ at % 2 ^ 64))) e ∙ bit_at_set_same w64 (get_or words s 0) at small ∙ sym has ∙ sym (cond-true (i == at) (bit_at (get_or labels s 0) weight) (bit_at (get_or old s 0) i) (eq-eqb i at e))
        | inr ne ↦ bit_at_set_other w64 (get_or words s 0) at small i ne ∙ ap (λ (word : ℕ). bit_at word i) (so_far.left s (omega arith)) ∙ sym (cond-false (i == at) (bit_at (get_or labels s 0) weight) (bit_at (get_or old s 0) i) (ne_eqb i at ne))
      ]

  -- the label does not have the bit, which stays clear
  pub setting_keep : bit_at (get_or labels s 0) weight ≡ 0 → IsSetting at weight labels old words (s + 1)
  setting_keep lacks = record {
    done = λ k below clear i. elim (cases_eq k s) [
      | inl here ↦ subst (λ (t : ℕ). bit_at (get_or old t 0) at ≡ 0 → bit_at (get_or words t 0) i ≡ cond (i == at) (bit_at (get_or labels t 0) weight) (bit_at (get_or old t 0) i)) (sym here) (keep_here i) clear
      | inr other ↦ so_far.done k (omega arith) clear i
    ];
    left = λ k above. so_far.left k (omega arith);
  }
    where
      keep_here : (i : ℕ) → bit_at (get_or old s 0) at ≡ 0 → bit_at (get_or words s 0) i ≡ cond (i == at) (bit_at (get_or labels s 0) weight) (bit_at (get_or old s 0) i)
      keep_here i clear = elim (cases_eq i at) [
        | inl e ↦ ap (λ (word : ℕ). bit_at word i) (so_far.left s (omega arith)) ∙ ap (bit_at (get_or old s 0)) e ∙ clear ∙ sym lacks ∙ sym (cond-true (i == at) (bit_at (get_or labels s 0) weight) (bit_at (get_or old s 0) i) (eq-eqb i at e))
        | inr ne ↦ ap (λ (word : ℕ). bit_at word i) (so_far.left s (omega arith)) ∙ sym (cond-false (i == at) (bit_at (get_or labels s 0) weight) (bit_at (get_or old s 0) i) (ne_eqb i at ne))
      ]
