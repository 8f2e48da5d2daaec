-- Lists of two states.
use Rattle.std.proofs.Common.{ℕ, ◌+◌, ◌<◌, ◌≤◌, Bool, Contains, List, [], ◌∷◌, ◌++◌, length, get_or, take, inl, inr, sym, subst, arith}
use Rattle.std.proofs.lemmas.Bool.{cases_eq}
use Rattle.std.proofs.lemmas.List.{take_more, take_all}
use Rattle.std.proofs.lemmas.List.Elements.{All-nil, All-push, All-weaker, Contains-append_left, Contains-push, Contains-push_cases}
use Rattle.kiss_file.specs.declared.file.KissFile.{KissFile}
use Rattle.dependence.specs.Bit.{GiveTheSame}
use Rattle.least_codes.specs.declared.two_states.TwoStates.{TwoStates}
use Rattle.least_codes.specs.Inner.StatePairs.{AreToldApart, AreApartOf, ArePairs, ArePairsUpTo, Differ, IsPair}

pub pairs_begun : (pairs : List TwoStates) (t : ℕ) → ArePairs pairs t → ArePairsUpTo pairs t 0
pairs_begun pairs t are = record {
  lawful = All-weaker (IsPair t) (IsPair (t + 1)) (λ pair is. (is.0, omega (arith, is.1))) pairs are.lawful;
  each = are.each;
  last = λ u below. absurd (omega arith);
}

-- t with one state more
pub pairs_more : (pairs : List TwoStates) (t s : ℕ) → s < t → ArePairsUpTo pairs t s → ArePairsUpTo (pairs ++ record { s = s; t = t } ∷ []) t (s + 1)
pairs_more pairs t s below are =
    let pair : TwoStates = record { s = s; t = t } in
    record {
      lawful = All-push (IsPair (t + 1)) pairs pair are.lawful (below, omega arith);
      each = λ u v before under. Contains-append_left pairs (pair ∷ []) (record { s = u; t = v }) (are.each u v before under);
      last = λ u before. elim (cases_eq u s) [
        | inl at ↦ subst (λ (w : ℕ). Contains (pairs ++ pair ∷ []) (record { s = w; t = t })) (sym at) (Contains-push pairs pair)
        | inr other ↦ Contains-append_left pairs (pair ∷ []) (record { s = u; t = t }) (are.last u (omega (arith, before, other)))
      ];
    }

pub pairs_done : (pairs : List TwoStates) (t s : ℕ) → t ≤ s → ArePairsUpTo pairs t s → ArePairs pairs (t + 1)
pairs_done pairs t s all are = record {
  lawful = are.lawful;
  each = λ u v before under. elim (cases_eq v t) [
    | inl at ↦ subst (λ (w : ℕ). Contains pairs (record { s = u; t = w })) (sym at) (are.last u (omega (arith, before, at, all)))
    | inr other ↦ are.each u v before (omega (arith, under, other))
  ];
}

module _ (F : KissFile) (value : ℕ → List Bool → Bool) where
  pub apart_none : AreApartOf F value [] []
  apart_none = record {
    lawful = All-nil (IsPair (length F.states));
    differ = All-nil (Differ F value);
    each = λ pair is. absurd (omega (arith, is.1));
  }

  module _ (pairs apart : List TwoStates) (i : ℕ) (d : TwoStates) (within : i < length pairs) (before : AreApartOf F value (take i pairs) apart) where
    -- a pair whose values are the same
    pub apart_same : GiveTheSame F value (get_or pairs i d).s (get_or pairs i d).t → AreApartOf F value (take (i + 1) pairs) apart
    apart_same same = record {
      lawful = before.lawful;
      differ = before.differ;
      each = λ pair is. elim (Contains-push_cases (take i pairs) (get_or pairs i d) pair (subst (λ (list : List TwoStates). Contains list pair) (take_more pairs i d within) is)) [
        | inl old ↦ before.each pair old
        | inr at ↦ inr (subst (λ (two : TwoStates). GiveTheSame F value two.s two.t) at same)
      ];
    }

    -- a pair whose values differ
    pub apart_differ : IsPair (length F.states) (get_or pairs i d) → Differ F value (get_or pairs i d) → AreApartOf F value (take (i + 1) pairs) (apart ++ get_or pairs i d ∷ [])
    apart_differ lawful differ = record {
      lawful = All-push (IsPair (length F.states)) apart (get_or pairs i d) before.lawful lawful;
      differ = All-push (Differ F value) apart (get_or pairs i d) before.differ differ;
      each = λ pair is. elim (Contains-push_cases (take i pairs) (get_or pairs i d) pair (subst (λ (list : List TwoStates). Contains list pair) (take_more pairs i d within) is)) [
        | inl old ↦ elim (before.each pair old) [
          | inl listed ↦ inl (Contains-append_left apart (get_or pairs i d ∷ []) pair listed)
          | inr same ↦ inr same
        ]
        | inr at ↦ inl (subst (Contains (apart ++ get_or pairs i d ∷ [])) at (Contains-push apart (get_or pairs i d)))
      ];
    }

  pub apart_all : (pairs apart : List TwoStates) (i : ℕ) → length pairs ≤ i → ArePairs pairs (length F.states) → AreApartOf F value (take i pairs) apart → AreToldApart F value apart
  apart_all pairs apart i all are before = record {
    lawful = before.lawful;
    differ = before.differ;
    each = λ s t below in_t. before.each (record { s = s; t = t }) (subst (λ (list : List TwoStates). Contains list (record { s = s; t = t })) (sym (take_all i pairs all)) (are.each s t below in_t));
  }
