-- Ascending lists of bits.
use Rattle.std.proofs.Common.{◌≡◌, ◌⊎◌, ℕ, zero, suc, ◌+◌, ◌<◌, ◌≤◌, Contains, List, [], ◌∷◌, length, get_or, inl, inr, sym, subst, refl, arith}
use Rattle.std.proofs.lemmas.Bool.{cases_eq}
use Rattle.std.specs.Int.{bit_at}
use Rattle.std.specs.List.Sorted.{IsStrictlyIncreasing}
use Rattle.dependence.specs.SufficientBits.{InWord}
use Rattle.least_codes.specs.Inner.Choice.{Ascend}

pub contains_head : (c : ℕ) (rest : List ℕ) → Contains (c ∷ rest) c
contains_head c rest = (0, omega arith, refl)

pub contains_later : (c : ℕ) (rest : List ℕ) (d : ℕ) → Contains rest d → Contains (c ∷ rest) d
contains_later c rest d is = (suc is.0, omega (arith, is.1), is.2)

pub contains_cases : (c : ℕ) (rest : List ℕ) (d : ℕ) → Contains (c ∷ rest) d → (c ≡ d) ⊎ Contains rest d
contains_cases c rest d (zero, within, is) = inl is
contains_cases c rest d (suc k, within, is) = inr (k, omega (arith, within), is)

pub ascend_lower : (low from : ℕ) (list : List ℕ) → low ≤ from → Ascend from list → Ascend low list
ascend_lower low from [] below ascend = tt
ascend_lower low from (c ∷ rest) below ascend = (omega (arith, ascend.0), ascend.1)

pub ascend_increasing : (from : ℕ) (list : List ℕ) → Ascend from list → IsStrictlyIncreasing list
ascend_increasing from [] ascend k within = absurd (omega (arith, within))
ascend_increasing from (c ∷ []) ascend k within = absurd (omega (arith, within))
ascend_increasing from (c ∷ (d ∷ rest)) ascend zero within = omega (arith, ascend.1.0)
ascend_increasing from (c ∷ (d ∷ rest)) ascend (suc k) within =
    let next : suc k + 1 ≡ suc (k + 1) = omega arith in
    let here : get_or (d ∷ rest) k 0 < get_or (d ∷ rest) (k + 1) 0 = ascend_increasing (c + 1) (d ∷ rest) ascend.1 k (omega (arith, within)) in
    subst (λ (j : ℕ). get_or (d ∷ rest) k 0 < get_or (c ∷ (d ∷ rest)) j 0) (sym next) here

increasing_rest : (c : ℕ) (rest : List ℕ) → IsStrictlyIncreasing (c ∷ rest) → IsStrictlyIncreasing rest
increasing_rest c rest up k within =
    let next : suc k + 1 ≡ suc (k + 1) = omega arith in
    subst (λ (j : ℕ). get_or rest k 0 < get_or (c ∷ rest) j 0) next (up (suc k) (omega (arith, within)))

pub increasing_ascend : (from : ℕ) (list : List ℕ) → IsStrictlyIncreasing list → (0 < length list → from ≤ get_or list 0 0) → Ascend from list
increasing_ascend from [] up low = tt
increasing_ascend from (c ∷ rest) up low =
    (low (omega arith), increasing_ascend (c + 1) rest (increasing_rest c rest up) (λ some. omega (arith, up 0 (omega (arith, some)))))

-- the candidates from a bit on
pub record Listing (candidates from gap : ℕ) : Type 0 where
  pub list : List ℕ
  pub ascend : Ascend from list
  pub each : (c : ℕ) → Contains list c → InWord candidates c
  pub all : (c : ℕ) → InWord candidates c → from ≤ c → Contains list c
  pub few : length list ≤ gap

pub listing : (candidates bits : ℕ) → ((c : ℕ) → InWord candidates c → c < bits) → (gap from : ℕ) → from + gap ≡ bits → Listing candidates from gap
listing candidates bits below zero from at = record {
  list = [];
  ascend = tt;
  each = λ c is. absurd (omega (arith, is.1));
  all = λ c is above. absurd (omega (arith, below c is));
  few = omega arith;
}
listing candidates bits below (suc gap) from at =
    let later : Listing candidates (from + 1) gap = listing candidates bits below gap (from + 1) (omega arith) in
    elim (cases_eq (bit_at candidates from) 1) [
      | inl in_set ↦ record {
        list = from ∷ later.list;
        ascend = (omega arith, later.ascend);
        each = λ c is. elim (contains_cases from later.list c is) [ inl at ↦ subst (InWord candidates) at in_set | inr rest ↦ later.each c rest ];
        all = λ c is above. elim (cases_eq from c) [ inl at ↦ (0, omega arith, at) | inr other ↦ contains_later from later.list c (later.all c is (omega (arith, above, other))) ];
        few = omega (arith, later.few);
      }
      | inr out ↦ record {
        list = later.list;
        ascend = ascend_lower from (from + 1) later.list (omega arith) later.ascend;
        each = later.each;
        all = λ c is above. elim (cases_eq from c) [ inl at ↦ absurd (out (subst (InWord candidates) (sym at) is)) | inr other ↦ later.all c is (omega (arith, above, other)) ];
        few = omega (arith, later.few);
      }
    ]
