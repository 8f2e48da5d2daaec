-- Two ascending lists walked side by side.
use Rattle.std.proofs.Common.{◌≡◌, ◌≢◌, ℕ, ◌+◌, ◌<◌, ◌≤◌, List, AllPairs, length, get_or, sym, ap, ◌∙◌, inl, inr, arith}
use Rattle.std.proofs.lemmas.Bool.{cases_lt}
use Rattle.std.proofs.lemmas.List.{get_or_default}
use Rattle.cover_split.specs.Inner.Holders.{AreIn}

-- the first `found` of the one list are among the first `seen` of the other, and the next one is not
pub record IsWalked (first second : List ℕ) (found seen : ℕ) : Type 0 where
  pub counted : found ≤ length first
  pub there : (k : ℕ) → k < found → (i : ℕ) × (i < seen) × (get_or second i 0 ≡ get_or first k 0)
  pub next : found < length first → (i : ℕ) → i < seen → get_or second i 0 ≢ get_or first found 0

pub walked_none : (first second : List ℕ) → IsWalked first second 0 0
walked_none first second = record {
  counted = omega arith;
  there = λ k within. absurd (omega arith);
  next = λ some i within. absurd (omega arith);
}

module _ (first second : List ℕ) (up : AllPairs (λ s t. s < t) first) (also : AllPairs (λ s t. s < t) second) where
  -- the next number of the other list is the next of the first
  pub walked_found : (found seen : ℕ) → IsWalked first second found seen → seen < length second → found < length first → get_or first found 0 ≡ get_or second seen 0
      → IsWalked first second (found + 1) (seen + 1)
  walked_found found seen so_far inside some same = record {
    counted = omega arith;
    there = there;
    next = next;
  } where
    there : (k : ℕ) → k < found + 1 → (i : ℕ) × (i < seen + 1) × (get_or second i 0 ≡ get_or first k 0)
    there k within =
        elim (cases_lt k found) [
          | inl old ↦ let it = so_far.there k old in (it.0, omega arith, it.2)
          | inr last ↦ let here : found ≡ k = omega arith in (seen, omega arith, sym same ∙ ap (λ (j : ℕ). get_or first j 0) here)
        ]

    next : found + 1 < length first → (i : ℕ) → i < seen + 1 → get_or second i 0 ≢ get_or first (found + 1) 0
    next more i within is =
        let higher : get_or first found 0 < get_or first (found + 1) 0 = up found (found + 1) 0 (omega arith) more in
        elim (cases_lt i seen) [
          | inl old ↦ omega (arith, also i seen 0 old inside)
          | inr last ↦ let here : i ≡ seen = omega arith in omega (arith, ap (λ (j : ℕ). get_or second j 0) here)
        ]

  -- it is not
  pub walked_past : (found seen : ℕ) → IsWalked first second found seen → (found < length first → get_or first found 0 ≢ get_or second seen 0) → IsWalked first second found (seen + 1)
  walked_past found seen so_far other = record {
    counted = so_far.counted;
    there = λ k within. let it = so_far.there k within in (it.0, omega arith, it.2);
    next = λ some i within is.
        elim (cases_lt i seen) [
          | inl old ↦ so_far.next some i old is
          | inr last ↦ let here : i ≡ seen = omega arith in other some (sym is ∙ ap (λ (j : ℕ). get_or second j 0) here)
        ];
  }

-- at the end
pub all_found : (first second : List ℕ) (found seen : ℕ) → IsWalked first second found seen → seen ≤ length second → found ≡ length first → AreIn first second
all_found first second found seen so_far inside whole s (k, within, is) =
    let it = so_far.there k (omega arith) in
    (it.0, omega arith, get_or_default second it.0 s 0 (omega arith) ∙ it.2 ∙ get_or_default first k 0 s within ∙ is)

pub not_all_found : (first second : List ℕ) (found seen : ℕ) → IsWalked first second found seen → length second ≤ seen → AreIn first second → found ≡ length first
not_all_found first second found seen so_far past all =
    elim (cases_lt found (length first)) [
      | inl short ↦
          let it = all (get_or first found 0) (found, short, get_or_default first found (get_or first found 0) 0 short) in
          absurd (so_far.next short it.0 (omega arith) (get_or_default second it.0 0 (get_or first found 0) it.1 ∙ it.2))
      | inr whole ↦ omega (arith, so_far.counted)
    ]
