-- Lists of numbers of bits.
use Rattle.std.proofs.Common.{◌≡◌, ℕ, ◌+◌, ◌<◌, Contains, List, [], ◌∷◌, ◌++◌, length, get_or, inl, inr, sym, subst, arith}
use Rattle.std.proofs.lemmas.Bool.{cases_eq, cases_lt}
use Rattle.std.proofs.lemmas.List.{get_or_append_left, get_or_push, length_push}
use Rattle.std.proofs.lemmas.List.Elements.{Contains-append_left, Contains-get_or, Contains-push, Contains-push_cases}
use Rattle.std.specs.List.Sorted.{IsStrictlyIncreasing}
use Rattle.dependence.specs.SufficientBits.{InWord}
use Rattle.dependence.specs.BitLists.{AreListed}

pub listed_none : (set : ℕ) → AreListed [] set 0
listed_none set = record {
  each = λ d. ((λ is. absurd (omega (arith, is.1))), (λ is. absurd (omega (arith, is.0))));
  ascend = λ k within. absurd (omega (arith, within));
}

module _ (list : List ℕ) (set c : ℕ) (before : AreListed list set c) where
  -- bit c is none of the word's
  pub listed_past : (InWord set c → ⊥) → AreListed list set (c + 1)
  listed_past out = record {
    each = λ d. (
      (λ is. let known = (before.each d).0 is in (omega (arith, known.0), known.1)),
      (λ is. elim (cases_eq d c) [
        | inl at ↦ absurd (out (subst (InWord set) at is.1))
        | inr other ↦ (before.each d).1 (omega (arith, is.0, other), is.1)
      ]),
    );
    ascend = before.ascend;
  }

  -- bit c is one
  pub listed_with : InWord set c → AreListed (list ++ c ∷ []) set (c + 1)
  listed_with in_set = record {
    each = λ d. (
      (λ is. elim (Contains-push_cases list c d is) [
        | inl old ↦ let known = (before.each d).0 old in (omega (arith, known.0), known.1)
        | inr at ↦ (omega (arith, at), subst (InWord set) at in_set)
      ]),
      (λ is. elim (cases_eq d c) [
        | inl at ↦ subst (Contains (list ++ c ∷ [])) (sym at) (Contains-push list c)
        | inr other ↦ Contains-append_left list (c ∷ []) d ((before.each d).1 (omega (arith, is.0, other), is.1))
      ]),
    );
    ascend = ascending;
  } where
    ascending : IsStrictlyIncreasing (list ++ c ∷ [])
    ascending k within =
        let size : length (list ++ c ∷ []) ≡ length list + 1 = length_push list c in
        let here : k < length list = omega (arith, within, size) in
        let first : get_or (list ++ c ∷ []) k 0 ≡ get_or list k 0 = get_or_append_left list (c ∷ []) 0 k here in
        let low : get_or list k 0 < c = ((before.each (get_or list k 0)).0 (Contains-get_or list k 0 here)).0 in
        elim (cases_lt (k + 1) (length list)) [
          | inl inside ↦
              let second : get_or (list ++ c ∷ []) (k + 1) 0 ≡ get_or list (k + 1) 0 = get_or_append_left list (c ∷ []) 0 (k + 1) inside in
              omega (arith, first, second, before.ascend k inside)
          | inr last ↦
              let second : get_or (list ++ c ∷ []) (k + 1) 0 ≡ c = get_or_push list c 0 (k + 1) (omega (arith, last, here)) in
              omega (arith, first, second, low)
        ]
