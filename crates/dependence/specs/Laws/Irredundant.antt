-- Where the candidates permit a value, the read ones do, and none of them can be left out.
use Rattle.std.proofs.Common.{◌≡◌, ◌≢◌, ◌⊎◌, ℕ, zero, suc, ◌<◌, ◌≤◌, Bool, true, false, List, inl, inr, sym, subst, refl, arith}
use Rattle.std.proofs.lemmas.Bool.{cases_eq, cases_order}
use Rattle.kiss_file.specs.declared.file.KissFile.{KissFile}
use Rattle.dependence.specs.SufficientBits.{PermitsValue}
use Rattle.dependence.specs.ReadRule.{Beside, IsIrredundant, IsReadRule, Without}
use Rattle.dependence.specs.Laws.Judged.{permits_more}

-- the candidates below c, and the read bits from it on
abbrev From : (ℕ → Type 0) → (ℕ → Type 0) → ℕ → ℕ → Type 0
From Candidate R c d = (d < c × Candidate d) ⊎ (c ≤ d × R d)

-- two values are equal or not
same_or_not : (a b : Bool) → (a ≡ b) ⊎ (a ≢ b)
same_or_not true true = inl refl
same_or_not true false = inr (λ e. (cc))
same_or_not false true = inr (λ e. (cc))
same_or_not false false = inl refl

module _ (F : KissFile) (words : List ℕ) (Candidate R : ℕ → Type 0) (value : ℕ → List Bool → Bool) (decided : (c : ℕ) → R c ⊎ (R c → ⊥)) (rule : IsReadRule F words Candidate R value) where
  -- a read bit is kept, and one that is not read is no loss
  one_down : (c : ℕ) → PermitsValue F words (From Candidate R (suc c)) value → PermitsValue F words (From Candidate R c) value
  one_down c permits =
      elim (decided c) [
        | inl read ↦ permits_more F words (From Candidate R (suc c)) (From Candidate R c) value (kept read) permits
        | inr out ↦ left_out out
      ] where
        kept : R c → (d : ℕ) → From Candidate R (suc c) d → From Candidate R c d
        kept read d is =
            elim is [
              | inl low ↦ elim (cases_eq d c) [
                | inl at ↦ inr (omega (arith, at), subst R (sym at) read)
                | inr other ↦ inl (omega (arith, low.0, other), low.1)
              ]
              | inr high ↦ inr (omega (arith, high.0), high.1)
            ]

        beside : (d : ℕ) → Beside Candidate R c d → From Candidate R c d
        beside d is =
            elim is [
              | inl low ↦ inl low
              | inr high ↦ inr (omega (arith, high.0), high.1)
            ]

        left_out : (R c → ⊥) → PermitsValue F words (From Candidate R c) value
        left_out out s t x in_s in_t agree size =
            elim (same_or_not (value s x) (value t x)) [
              | inl same ↦ same
              | inr differ ↦
                  permits s t x in_s in_t
                  (λ d is. elim is [
                    | inl low ↦ elim (cases_eq d c) [
                      | inl at ↦
                          absurd (differ (rule.spared c (subst Candidate at low.1) out s t x in_s in_t (λ e stands. agree e (beside e stands)) size))
                      | inr other ↦ agree d (inl (omega (arith, low.0, other), low.1))
                    ]
                    | inr high ↦ agree d (inr (omega (arith, high.0), high.1))
                  ])
                  size
            ]

  down_to : (c : ℕ) → PermitsValue F words (From Candidate R c) value → PermitsValue F words (From Candidate R 0) value
  down_to zero permits = permits
  down_to (suc c) permits = down_to c (one_down c permits)

  pub rule_least : (bits : ℕ) → ((c : ℕ) → Candidate c → c < bits) → PermitsValue F words Candidate value → IsIrredundant F words R value
  rule_least bits within permits = record {
    permits = permits_more F words (From Candidate R 0) R value
        (λ d is. elim is [ inl low ↦ absurd (omega (arith, low.0)) | inr high ↦ high.1 ])
        (down_to bits (permits_more F words Candidate (From Candidate R bits) value (λ d is. inl (within d is, is)) permits));
    none_to_spare = λ c read spare. rule.needed c read (permits_more F words (Without R c) (Beside Candidate R c) value
        (λ d is. elim (cases_order d c) [
          | inl at ↦ absurd (is.1 at)
          | inr apart ↦ elim apart [
            | inl low ↦ inl (low, rule.candidates d is.0)
            | inr high ↦ inr (high, is.0)
          ]
        ])
        spare);
  }
