-- Candidates that are chosen one after another.
use Rattle.std.proofs.Common.{◌≡◌, ◌⊎◌, ◌↔◌, ◌∙◌, ℕ, ◌+◌, ◌-◌, ◌<◌, List, [], ◌∷◌, length, inl, inr, ap, sym, subst, refl, arith}
use Rattle.std.proofs.lemmas.Bool.{cases_eq}
use Rattle.dependence.specs.SufficientBits.{InWord}
use Rattle.least_codes.specs.declared.choice.Question.{Question}
use Rattle.least_codes.specs.Inner.StatePairs.{TellsApart}
use Rattle.least_codes.specs.Inner.Choice.{And, AreChosen, Ascend, HasNone, IsFirstChoice, Tell}
use Rattle.least_codes.specs.LeastReads.{ListBefore}
use Rattle.least_codes.proofs.Ascending.{ascend_lower, contains_cases, contains_head, contains_later}
use Rattle.least_codes.proofs.Telling.{tells_more}

none_of_zero : (list : List ℕ) → length list ≡ 0 → list ≡ []
none_of_zero [] none = refl
none_of_zero (c ∷ rest) none = absurd (omega (arith, none))

none_chosen : (candidates from : ℕ) → AreChosen candidates from 0 []
none_chosen candidates from = record { size = refl; ascend = tt; each = λ c is. absurd (omega (arith, is.1)) }

-- the first of the chosen ones is this bit
record StartsWith (candidates from left : ℕ) (others : List ℕ) : Type 0 where
  rest : List ℕ
  is : others ≡ from ∷ rest
  of : AreChosen candidates (from + 1) (left - 1) rest
  first : InWord candidates from

chosen_cases : (candidates from left : ℕ) (others : List ℕ) → 0 < left → AreChosen candidates from left others → StartsWith candidates from left others ⊎ AreChosen candidates (from + 1) left others
chosen_cases candidates from left [] some of = absurd (omega (arith, of.size))
chosen_cases candidates from left (c ∷ rest) some of =
    elim (cases_eq c from) [
      | inl at ↦ inl (record {
        rest = rest;
        is = ap (λ (k : ℕ). k ∷ rest) at;
        of = record {
          size = omega (arith, of.size);
          ascend = subst (λ (k : ℕ). Ascend (k + 1) rest) at of.ascend.1;
          each = λ d is. of.each d (contains_later c rest d is);
        };
        first = subst (InWord candidates) at (of.each c (contains_head c rest));
      })
      | inr other ↦ inr (record { size = of.size; ascend = (omega (arith, of.ascend.0, other), of.ascend.1); each = of.each })
    ]

-- a list that begins with this bit is before one that begins with a later one
before_later : (candidates from left : ℕ) (rest others : List ℕ) → 0 < left → AreChosen candidates (from + 1) left others → ListBefore (from ∷ rest) others
before_later candidates from left rest [] some of = absurd (omega (arith, of.size))
before_later candidates from left rest (c ∷ others) some of = inl (omega (arith, of.ascend.0))

module _ (q : Question) (chosen : ℕ) where
  -- all are chosen
  pub found_done : (from : ℕ) → TellsApart q.words.now q.apart.now (InWord chosen) → IsFirstChoice q chosen from 0 chosen
  found_done from tells = record {
    rest = [];
    of = none_chosen q.candidates from;
    joined = λ c. ((λ is. inl is), (λ is. elim is [ inl in_chosen ↦ in_chosen | inr none ↦ absurd (omega (arith, none.1)) ]));
    tell = tells_more q.words.now q.apart.now (InWord chosen) (And chosen []) (λ c is. inl is) tells;
    first = λ others of tell. inl (none_of_zero others of.size);
  }

  pub none_done : (from : ℕ) → (TellsApart q.words.now q.apart.now (InWord chosen) → ⊥) → HasNone q chosen from 0
  none_done from not others of tell =
      let empty : others ≡ [] = none_of_zero others of.size in
      not (tells_more q.words.now q.apart.now (And chosen others) (InWord chosen)
      (λ c is. elim is [ inl in_chosen ↦ in_chosen | inr listed ↦ absurd (omega (arith, listed.1, of.size)) ])
      tell)

  -- there are no more candidates
  pub none_left : (from left : ℕ) → 0 < left → from ≡ q.bits → ((c : ℕ) → InWord q.candidates c → c < q.bits) → HasNone q chosen from left
  none_left from left some end below others of tell =
      elim (chosen_cases q.candidates from left others some of) [
        | inl starts ↦ absurd (omega (arith, below from starts.first))
        | inr later ↦ past others later
      ] where
        past : (others : List ℕ) → AreChosen q.candidates (from + 1) left others → ⊥
        past [] later = absurd (omega (arith, later.size))
        past (c ∷ rest) later = absurd (omega (arith, later.ascend.0, below c (later.each c (contains_head c rest))))

  module _ (from left : ℕ) (some : 0 < left) where
    -- no list that begins with this bit tells the states apart
    abbrev pub NoneHere : Type 0
    NoneHere = (rest : List ℕ) → InWord q.candidates from → AreChosen q.candidates (from + 1) (left - 1) rest → Tell q chosen (from ∷ rest) → ⊥

    pub found_later : (set : ℕ) → NoneHere → IsFirstChoice q chosen (from + 1) left set → IsFirstChoice q chosen from left set
    found_later set not found = record {
      rest = found.rest;
      of = record { size = found.of.size; ascend = ascend_lower from (from + 1) found.rest (omega arith) found.of.ascend; each = found.of.each };
      joined = found.joined;
      tell = found.tell;
      first = λ others of tell. elim (chosen_cases q.candidates from left others some of) [
        | inl starts ↦ absurd (not starts.rest starts.first starts.of (subst (Tell q chosen) starts.is tell))
        | inr later ↦ found.first others later tell
      ];
    }

    pub none_later : NoneHere → HasNone q chosen (from + 1) left → HasNone q chosen from left
    none_later not none others of tell =
        elim (chosen_cases q.candidates from left others some of) [
          | inl starts ↦ not starts.rest starts.first starts.of (subst (Tell q chosen) starts.is tell)
          | inr later ↦ none others later tell
        ]

    pub none_out : (InWord q.candidates from → ⊥) → NoneHere
    none_out out rest is of tell = out is

    module _ (wider : ℕ) (with : (d : ℕ) → InWord wider d ↔ (InWord chosen d ⊎ (d ≡ from))) where
      to_list : (rest : List ℕ) (d : ℕ) → And wider rest d → And chosen (from ∷ rest) d
      to_list rest d is =
          elim is [
            | inl wide ↦ elim ((with d).0 wide) [ inl in_chosen ↦ inl in_chosen | inr at ↦ inr (0, omega arith, sym at) ]
            | inr listed ↦ inr (contains_later from rest d listed)
          ]

      to_word : (rest : List ℕ) (d : ℕ) → And chosen (from ∷ rest) d → And wider rest d
      to_word rest d is =
          elim is [
            | inl in_chosen ↦ inl ((with d).1 (inl in_chosen))
            | inr listed ↦ elim (contains_cases from rest d listed) [
              | inl at ↦ inl ((with d).1 (inr (sym at)))
              | inr later ↦ inr later
            ]
          ]

      pub none_with : HasNone q wider (from + 1) (left - 1) → NoneHere
      none_with none rest is of tell =
          none rest of (tells_more q.words.now q.apart.now (And chosen (from ∷ rest)) (And wider rest) (to_word rest) tell)

      pub found_with : (set : ℕ) → InWord q.candidates from → IsFirstChoice q wider (from + 1) (left - 1) set → IsFirstChoice q chosen from left set
      found_with set is found = record {
        rest = from ∷ found.rest;
        of = record {
          size = omega (arith, found.of.size);
          ascend = (omega arith, found.of.ascend);
          each = λ c listed. elim (contains_cases from found.rest c listed) [
            | inl at ↦ subst (InWord q.candidates) at is
            | inr later ↦ found.of.each c later
          ];
        };
        joined = λ c. ((λ in_set. to_list found.rest c ((found.joined c).0 in_set)), (λ both. (found.joined c).1 (to_word found.rest c both)));
        tell = tells_more q.words.now q.apart.now (And wider found.rest) (And chosen (from ∷ found.rest)) (to_list found.rest) found.tell;
        first = λ others of tell. elim (chosen_cases q.candidates from left others some of) [
          | inl starts ↦ elim (found.first starts.rest starts.of (tells_more q.words.now q.apart.now (And chosen (from ∷ starts.rest)) (And wider starts.rest) (to_word starts.rest) (subst (Tell q chosen) starts.is tell))) [
            | inl same ↦ inl (starts.is ∙ ap (λ (list : List ℕ). from ∷ list) same)
            | inr before ↦ inr (subst (ListBefore (from ∷ found.rest)) (sym starts.is) (inr (refl, before)))
          ]
          | inr later ↦ inr (before_later q.candidates from left found.rest others some later)
        ];
      }
