-- Where the candidates permit a value, there are least reads among them.
use Rattle.std.proofs.Common.{◌≡◌, ◌⊎◌, ◌∙◌, ℕ, zero, suc, ◌+◌, ◌<◌, ◌≤◌, Bool, Contains, List, [], ◌∷◌, length, get_or, inl, inr, refl, ap, subst, sym, arith}
use Rattle.std.proofs.lemmas.Bool.{cases_eq, cases_lt}
use Rattle.std.proofs.lemmas.List.Elements.{All-contains, All-from_get_or, Contains-get_or}
use Rattle.kiss_file.specs.declared.file.KissFile.{KissFile}
use Rattle.dependence.specs.SufficientBits.{PermitsValue}
use Rattle.dependence.specs.Laws.Judged.{permits_more}
use Rattle.least_codes.specs.Inner.Choice.{Ascend}
use Rattle.least_codes.specs.LeastReads.{AreEnoughBits, AreLeastReads, ListBefore}
use Rattle.least_codes.proofs.Ascending.{ascend_increasing, ascend_lower, contains_cases, contains_head, contains_later, increasing_ascend}
use Rattle.least_codes.proofs.Deciding.{Decided, permits_decided}

module _ (Candidate : ℕ → Type 0) (decided : (c : ℕ) → Decided (Candidate c)) (bits : ℕ) (below : (c : ℕ) → Candidate c → c < bits) where
  -- this number of candidates from a bit on, ascending
  pub record AreSome (from left : ℕ) (list : List ℕ) : Type 0 where
    pub size : length list ≡ left
    pub ascend : Ascend from list
    pub each : (c : ℕ) → Contains list c → Candidate c

  -- of those that are so, the first
  pub record Found (P : List ℕ → Type 0) (from left : ℕ) : Type 0 where
    pub list : List ℕ
    pub some : AreSome from left list
    pub holds : P list
    pub first : (others : List ℕ) → AreSome from left others → P others → (others ≡ list) ⊎ ListBefore list others

  abbrev pub None : (List ℕ → Type 0) → ℕ → ℕ → Type 0
  None P from left = (others : List ℕ) → AreSome from left others → P others → ⊥

  none_of : (from : ℕ) → AreSome from 0 []
  none_of from = record { size = refl; ascend = tt; each = λ c is. absurd (omega (arith, is.1)) }

  some_rest : (from left c : ℕ) (rest : List ℕ) → AreSome from (suc left) (c ∷ rest) → AreSome (c + 1) left rest
  some_rest from left c rest some = record {
    size = omega (arith, some.size);
    ascend = some.ascend.1;
    each = λ d is. some.each d (contains_later c rest d is);
  }

  some_more : (from left c : ℕ) (rest : List ℕ) → from ≤ c → Candidate c → AreSome (c + 1) left rest → AreSome from (suc left) (c ∷ rest)
  some_more from left c rest low here some = record {
    size = ap suc some.size;
    ascend = (low, some.ascend);
    each = λ d is. elim (contains_cases c rest d is) [ inl at ↦ subst Candidate at here | inr later ↦ some.each d later ];
  }

  some_lower : (from left : ℕ) (list : List ℕ) → AreSome (from + 1) left list → AreSome from left list
  some_lower from left list some = record {
    size = some.size;
    ascend = ascend_lower from (from + 1) list (omega arith) some.ascend;
    each = some.each;
  }

  some_higher : (from left c : ℕ) (rest : List ℕ) → from < c → AreSome from left (c ∷ rest) → AreSome (from + 1) left (c ∷ rest)
  some_higher from left c rest above some = record {
    size = some.size;
    ascend = (omega (arith, above), some.ascend.1);
    each = some.each;
  }

  -- what is found later is the first where no list begins here
  later_found : (P : List ℕ → Type 0) (from left : ℕ) → ((rest : List ℕ) → AreSome from (suc left) (from ∷ rest) → P (from ∷ rest) → ⊥) → Found P (from + 1) (suc left) → Found P from (suc left)
  later_found P from left not_here found = record {
    list = found.list;
    some = some_lower from (suc left) found.list found.some;
    holds = found.holds;
    first = first_of;
  } where
    first_of : (others : List ℕ) → AreSome from (suc left) others → P others → (others ≡ found.list) ⊎ ListBefore found.list others
    first_of [] some holds = absurd (omega (arith, some.size))
    first_of (c ∷ rest) some holds =
        elim (cases_eq from c) [
          | inl at ↦ absurd (not_here rest (subst (λ (d : ℕ). AreSome from (suc left) (d ∷ rest)) (sym at) some) (subst (λ (d : ℕ). P (d ∷ rest)) (sym at) holds))
          | inr other ↦ found.first (c ∷ rest) (some_higher from (suc left) c rest (omega (arith, other, some.ascend.0)) some) holds
        ]

  later_none : (P : List ℕ → Type 0) (from left : ℕ) → ((rest : List ℕ) → AreSome from (suc left) (from ∷ rest) → P (from ∷ rest) → ⊥) → None P (from + 1) (suc left) → None P from (suc left)
  later_none P from left not_here none [] some holds = absurd (omega (arith, some.size))
  later_none P from left not_here none (c ∷ rest) some holds =
      elim (cases_eq from c) [
        | inl at ↦ not_here rest (subst (λ (d : ℕ). AreSome from (suc left) (d ∷ rest)) (sym at) some) (subst (λ (d : ℕ). P (d ∷ rest)) (sym at) holds)
        | inr other ↦ none (c ∷ rest) (some_higher from (suc left) c rest (omega (arith, other, some.ascend.0)) some) holds
      ]

  -- and what is found here is the first of all
  here_found : (P : List ℕ → Type 0) (from left : ℕ) → Candidate from → Found (λ rest. P (from ∷ rest)) (from + 1) left → Found P from (suc left)
  here_found P from left here found = record {
    list = from ∷ found.list;
    some = some_more from left from found.list (omega arith) here found.some;
    holds = found.holds;
    first = first_of;
  } where
    first_of : (others : List ℕ) → AreSome from (suc left) others → P others → (others ≡ from ∷ found.list) ⊎ ListBefore (from ∷ found.list) others
    first_of [] some holds = absurd (omega (arith, some.size))
    first_of (c ∷ rest) some holds =
        elim (cases_eq from c) [
          | inl at ↦
              let same : AreSome from (suc left) (from ∷ rest) = subst (λ (d : ℕ). AreSome from (suc left) (d ∷ rest)) (sym at) some in
              elim (found.first rest (some_rest from left from rest same) (subst (λ (d : ℕ). P (d ∷ rest)) (sym at) holds)) [
                | inl equal ↦ inl (ap (λ (d : ℕ). d ∷ rest) (sym at) ∙ ap (λ (list : List ℕ). from ∷ list) equal)
                | inr after ↦ inr (inr (at, after))
              ]
          | inr other ↦ inr (inl (omega (arith, other, some.ascend.0)))
        ]

  later : (P : List ℕ → Type 0) (from left : ℕ) → ((rest : List ℕ) → AreSome from (suc left) (from ∷ rest) → P (from ∷ rest) → ⊥) → Found P (from + 1) (suc left) ⊎ None P (from + 1) (suc left) → Found P from (suc left) ⊎ None P from (suc left)
  later P from left not_here sought =
      elim sought [
        | inl found ↦ inl (later_found P from left not_here found)
        | inr none ↦ inr (later_none P from left not_here none)
      ]

  seek : (gap from left : ℕ) → from + gap ≡ bits → (P : List ℕ → Type 0) → ((list : List ℕ) → Decided (P list)) → Found P from left ⊎ None P from left
  seek gap from zero at P decide =
      elim (decide []) [
        | inl holds ↦ inl (record { list = []; some = none_of from; holds = holds; first = λ others some also. inl (empty others some.size) })
        | inr not ↦ inr (λ others some holds. not (subst P (empty others some.size) holds))
      ]
    where
      empty : (others : List ℕ) → length others ≡ 0 → others ≡ []
      empty [] size = refl
      empty (c ∷ rest) size = absurd (omega (arith, size))
  seek zero from (suc left) at P decide = inr beyond where
    beyond : None P from (suc left)
    beyond [] some holds = absurd (omega (arith, some.size))
    beyond (c ∷ rest) some holds = absurd (omega (arith, some.ascend.0, at, below c (some.each c (contains_head c rest))))
  seek (suc gap) from (suc left) at P decide =
      elim (decided from) [
        | inl here ↦ elim (seek gap (from + 1) left (omega (arith, at)) (λ rest. P (from ∷ rest)) (λ rest. decide (from ∷ rest))) [
          | inl found ↦ inl (here_found P from left here found)
          | inr none ↦ later P from left (λ rest some holds. none rest (some_rest from left from rest some) holds) (seek gap (from + 1) (suc left) (omega (arith, at)) P decide)
        ]
        | inr out ↦ later P from left (λ rest some holds. out (some.each from (contains_head from rest))) (seek gap (from + 1) (suc left) (omega (arith, at)) P decide)
      ]

  -- the least number of candidates that are so
  pub record Fewest (P : List ℕ → Type 0) : Type 0 where
    pub size : ℕ
    pub found : Found P 0 size
    pub fewer : (less : ℕ) → less < size → None P 0 less

  by_size : (P : List ℕ → Type 0) → ((list : List ℕ) → Decided (P list)) → (k : ℕ) → Fewest P ⊎ ((size : ℕ) → size < k → None P 0 size)
  by_size P decide zero = inr (λ size less. absurd (omega (arith, less)))
  by_size P decide (suc k) =
      elim (by_size P decide k) [
        | inl least ↦ inl least
        | inr none ↦ elim (seek bits 0 k (omega arith) P decide) [
          | inl found ↦ inl (record { size = k; found = found; fewer = none })
          | inr not ↦ inr (λ size less. elim (cases_eq size k) [
            | inl at ↦ subst (None P 0) (sym at) not
            | inr other ↦ none size (omega (arith, less, other))
          ])
        ]
      ]

  -- all candidates, ascending
  pub record Listed (from : ℕ) : Type 0 where
    pub list : List ℕ
    pub some : AreSome from (length list) list
    pub all : (c : ℕ) → Candidate c → from ≤ c → Contains list c

  list_all : (gap from : ℕ) → from + gap ≡ bits → Listed from
  list_all zero from at = record { list = []; some = none_of from; all = λ c is above. absurd (omega (arith, at, above, below c is)) }
  list_all (suc gap) from at =
      let later : Listed (from + 1) = list_all gap (from + 1) (omega (arith, at)) in
      elim (decided from) [
        | inl here ↦ record {
          list = from ∷ later.list;
          some = some_more from (length later.list) from later.list (omega arith) here later.some;
          all = λ c is above. elim (cases_eq from c) [ inl same ↦ (0, omega arith, same) | inr other ↦ contains_later from later.list c (later.all c is (omega (arith, above, other))) ];
        }
        | inr out ↦ record {
          list = later.list;
          some = some_lower from (length later.list) later.list later.some;
          all = λ c is above. elim (cases_eq from c) [ inl same ↦ absurd (out (subst Candidate (sym same) is)) | inr other ↦ later.all c is (omega (arith, above, other)) ];
        }
      ]

  -- where all are so, some are fewest
  pub fewest_found : (P : List ℕ → Type 0) → ((list : List ℕ) → Decided (P list)) → ((list : List ℕ) → ((c : ℕ) → Candidate c → Contains list c) → P list) → Fewest P
  fewest_found P decide all =
      let listed : Listed 0 = list_all bits 0 (omega arith) in
      elim (by_size P decide (suc (length listed.list))) [
        | inl least ↦ least
        | inr none ↦ absurd (none (length listed.list) (omega arith) listed.list listed.some (all listed.list (λ c is. listed.all c is (omega arith))))
      ]

  pub least_reads_exist : (F : KissFile) (words : List ℕ) (value : ℕ → List Bool → Bool) → PermitsValue F words Candidate value → (reads : List ℕ) × AreLeastReads F words Candidate value reads
  least_reads_exist F words value permits = (
    least.found.list,
    record {
      fewest = record {
        enough = record {
          ascending = ascend_increasing 0 least.found.list least.found.some.ascend;
          candidates = All-from_get_or Candidate least.found.list 0 (λ k within. least.found.some.each (get_or least.found.list k 0) (Contains-get_or least.found.list k 0 within));
          permit = least.found.holds;
        };
        fewest = λ others enough. elim (cases_lt (length others) least.size) [
          | inl less ↦ absurd (least.fewer (length others) less others (some_of others enough) enough.permit)
          | inr more ↦ omega (arith, more, least.found.some.size)
        ];
      };
      first = λ others enough size. least.found.first others (subst (λ (k : ℕ). AreSome 0 k others) (size ∙ least.found.some.size) (some_of others enough)) enough.permit;
    },
  ) where
    least : Fewest (λ list. PermitsValue F words (Contains list) value)
    least = fewest_found (λ list. PermitsValue F words (Contains list) value) (permits_decided F words value) (λ list all. permits_more F words Candidate (Contains list) value all permits)

    some_of : (others : List ℕ) → AreEnoughBits F words Candidate value others → AreSome 0 (length others) others
    some_of others enough = record {
      size = refl;
      ascend = increasing_ascend 0 others enough.ascending (λ any. omega arith);
      each = λ c is. All-contains Candidate others c enough.candidates is;
    }
