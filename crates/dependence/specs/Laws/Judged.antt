-- Candidates that are judged from the highest down.
use Rattle.std.proofs.Common.{◌≢◌, ℕ, ◌+◌, ◌^◌, ◌<◌, Bool, List, inl, inr, sym, subst, arith}
use Rattle.std.proofs.lemmas.Bool.{cases_eq, cases_order}
use Rattle.kiss_file.specs.declared.file.KissFile.{KissFile}
use Rattle.dependence.specs.SufficientBits.{InWord, PermitsValue}
use Rattle.dependence.specs.ReadRule.{Beside, IsReadRule, Without}
use Rattle.dependence.specs.Inner.Judgement.{AreJudgedFrom, IsBitDecided}
use Rattle.dependence.specs.Laws.Words.{bit_within}

-- a greater set permits what a smaller one permits
pub permits_more : (F : KissFile) (words : List ℕ) (R S : ℕ → Type 0) (value : ℕ → List Bool → Bool) → ((c : ℕ) → R c → S c) → PermitsValue F words R value → PermitsValue F words S value
permits_more F words R S value more permits s t x in_s in_t agree size = permits s t x in_s in_t (λ c is. agree c (more c is)) size

module _ (F : KissFile) (words : List ℕ) (value : ℕ → List Bool → Bool) (candidates set c kept : ℕ) where
  -- bits above c are the same before and after
  beside_kept : IsBitDecided F words value set c kept → (d : ℕ) → c < d → (e : ℕ) → Beside (InWord candidates) (InWord kept) d e → Beside (InWord candidates) (InWord set) d e
  beside_kept judged d above e is =
      elim is [
        | inl low ↦ inl low
        | inr high ↦ inr (high.0, (judged.others e (λ at. omega (arith, at, high.0))).0 high.1)
      ]

  kept_beside : IsBitDecided F words value set c kept → (d : ℕ) → c < d → (e : ℕ) → Beside (InWord candidates) (InWord set) d e → Beside (InWord candidates) (InWord kept) d e
  kept_beside judged d above e is =
      elim is [
        | inl low ↦ inl low
        | inr high ↦ inr (high.0, (judged.others e (λ at. omega (arith, at, high.0))).1 high.1)
      ]

  -- what stands beside c is the set without it
  without_beside : IsBitDecided F words value set c kept → ((d : ℕ) → InWord set d → InWord candidates d) → (e : ℕ) → Without (InWord set) c e → Beside (InWord candidates) (InWord kept) c e
  without_beside judged within e is =
      elim (cases_order e c) [
        | inl at ↦ absurd (is.1 at)
        | inr apart ↦ elim apart [
          | inl low ↦ inl (low, within e is.0)
          | inr high ↦ inr (high, (judged.others e is.1).1 is.0)
        ]
      ]

  beside_without : IsBitDecided F words value set c kept → ((d : ℕ) → d < c → InWord candidates d → InWord set d) → (e : ℕ) → Beside (InWord candidates) (InWord kept) c e → Without (InWord set) c e
  beside_without judged below e is =
      elim is [
        | inl low ↦ (below e low.0 low.1, (λ at. omega (arith, at, low.0)))
        | inr high ↦
            let other : e ≢ c = λ at. omega (arith, at, high.0) in
            ((judged.others e other).0 high.1, other)
      ]

  kept_within : IsBitDecided F words value set c kept → (d : ℕ) → InWord kept d → InWord set d
  kept_within judged d is =
      elim (cases_eq d c) [
        | inl at ↦ subst (InWord set) (sym at) (judged.within (subst (InWord kept) at is))
        | inr other ↦ (judged.others d other).0 is
      ]

  -- one more was judged
  pub judged_more : AreJudgedFrom F words value candidates set (c + 1) → IsBitDecided F words value set c kept → AreJudgedFrom F words value candidates kept c
  judged_more before judged = record {
    below = λ d low is. (judged.others d (λ at. omega (arith, at, low))).1 (before.below d (omega (arith, low)) is);
    within = λ d is. before.within d (kept_within judged d is);
    needed = λ d from is permits. elim (cases_eq d c) [
      | inl at ↦
          judged.needed (subst (InWord kept) at is)
          (permits_more F words (Beside (InWord candidates) (InWord kept) c) (Without (InWord set) c) value
          (beside_without judged (λ e low candidate. before.below e (omega (arith, low)) candidate))
          (subst (λ (e : ℕ). PermitsValue F words (Beside (InWord candidates) (InWord kept) e) value) at permits))
      | inr other ↦
          let above : c < d = omega (arith, from, other) in
          before.needed d (omega (arith, above)) (kept_within judged d is)
          (permits_more F words (Beside (InWord candidates) (InWord kept) d) (Beside (InWord candidates) (InWord set) d) value (beside_kept judged d above) permits)
    ];
    spared = λ d from candidate out. elim (cases_eq d c) [
      | inl at ↦
          let in_set : InWord set c = before.below c (omega arith) (subst (InWord candidates) at candidate) in
          let gone : InWord kept c → ⊥ = λ is. out (subst (InWord kept) (sym at) is) in
          subst (λ (e : ℕ). PermitsValue F words (Beside (InWord candidates) (InWord kept) e) value) (sym at)
          (permits_more F words (Without (InWord set) c) (Beside (InWord candidates) (InWord kept) c) value (without_beside judged before.within) (judged.spared in_set gone))
      | inr other ↦
          let above : c < d = omega (arith, from, other) in
          permits_more F words (Beside (InWord candidates) (InWord set) d) (Beside (InWord candidates) (InWord kept) d) value (kept_beside judged d above)
          (before.spared d (omega (arith, above)) candidate (λ is. out ((judged.others d other).1 is)))
    ];
  }

-- before the first judgement
pub judged_none : (F : KissFile) (words : List ℕ) (value : ℕ → List Bool → Bool) (candidates : ℕ) → candidates < 2 ^ 64 → AreJudgedFrom F words value candidates candidates 64
judged_none F words value candidates small = record {
  below = λ d low is. is;
  within = λ d is. is;
  needed = λ d from is permits. absurd (omega (arith, from, bit_within candidates d small is));
  spared = λ d from is out. absurd (out is);
}

-- all were judged
pub judged_all : (F : KissFile) (words : List ℕ) (value : ℕ → List Bool → Bool) (candidates set : ℕ) → AreJudgedFrom F words value candidates set 0 → IsReadRule F words (InWord candidates) (InWord set) value
judged_all F words value candidates set judged = record {
  candidates = judged.within;
  needed = λ c is permits. judged.needed c (omega arith) is permits;
  spared = λ c candidate out. judged.spared c (omega arith) candidate out;
}
