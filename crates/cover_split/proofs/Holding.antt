-- Which blocks have a state, and blocks within one another.
use Rattle.std.proofs.Common.{◌≡◌, ◌≢◌, ℕ, ◌+◌, ◌<◌, ◌≤◌, List, [], ◌∷◌, ◌++◌, All, AllPairs, Contains, length, get_or, sym, ap, ◌∙◌, subst, inl, inr, arith}
use Rattle.std.proofs.lemmas.Bool.{cases_lt}
use Rattle.std.proofs.lemmas.List.{get_or_append_left, get_or_default, get_or_push, length_push}
use Rattle.std.proofs.lemmas.List.Elements.{All-get_or, Contains-append_left, Contains-get_or, Contains-push, Contains-push_cases}
use Rattle.cover_split.specs.StateCover.{Has, IsBlock, IsInSomeBlock, IsWithin, block_at}
use Rattle.cover_split.specs.Refusal.{IsFirstMissing}
use Rattle.cover_split.specs.Inner.Holders.{AreHolders, AreHoldersOf, AreIn, IsLeastAround}

pub no_holders : (blocks : List (List ℕ)) (s : ℕ) → AreHolders blocks s 0 []
no_holders blocks s = record {
  own = λ j there. absurd (omega (arith, there.1));
  each = λ j within has. absurd (omega arith);
  ascending = λ i j d before within. absurd (omega arith);
}

module _ (blocks : List (List ℕ)) (s count : ℕ) (holders : List ℕ) (so_far : AreHolders blocks s count holders) where
  -- the next block has it
  pub one_holder_more : Has blocks count s → AreHolders blocks s (count + 1) (holders ++ count ∷ [])
  one_holder_more has = record {
    own = own;
    each = each;
    ascending = ascending;
  } where
    own : (j : ℕ) → Contains (holders ++ count ∷ []) j → (j < count + 1) × Has blocks j s
    own j there =
        elim (Contains-push_cases holders count j there) [
          | inl old ↦ let it = so_far.own j old in (omega (arith, it.0), it.1)
          | inr last ↦ (omega arith, subst (λ (k : ℕ). Has blocks k s) last has)
        ]

    each : (j : ℕ) → j < count + 1 → Has blocks j s → Contains (holders ++ count ∷ []) j
    each j within it =
        elim (cases_lt j count) [
          | inl old ↦ Contains-append_left holders (count ∷ []) j (so_far.each j old it)
          | inr last ↦ let here : count ≡ j = omega arith in subst (Contains (holders ++ count ∷ [])) here (Contains-push holders count)
        ]

    ascending : AllPairs (λ i j. i < j) (holders ++ count ∷ [])
    ascending i j d before within =
        let first : get_or (holders ++ count ∷ []) i d ≡ get_or holders i d = get_or_append_left holders (count ∷ []) d i (omega (arith, length_push holders count)) in
        elim (cases_lt j (length holders)) [
          | inl old ↦ omega (arith, first, get_or_append_left holders (count ∷ []) d j old, so_far.ascending i j d before old)
          | inr last ↦
              let here : length holders ≡ j = omega (arith, length_push holders count) in
              omega (arith, first, get_or_push holders count d j here, (so_far.own (get_or holders i d) (Contains-get_or holders i d (omega arith))).0)
        ]

  -- it has not
  pub no_holder_more : (Has blocks count s → ⊥) → AreHolders blocks s (count + 1) holders
  no_holder_more lacks = record {
    own = λ j there. let it = so_far.own j there in (omega (arith, it.0), it.1);
    each = λ j within it.
        elim (cases_lt j count) [
          | inl old ↦ so_far.each j old it
          | inr last ↦ let here : j ≡ count = omega arith in absurd (lacks (subst (λ (k : ℕ). Has blocks k s) here it))
        ];
    ascending = so_far.ascending;
  }

-- ---- the lists of all states
module _ (blocks : List (List ℕ)) (n : ℕ) (lists : List (List ℕ)) (are : AreHoldersOf blocks n lists) where
  pub covered_from_some : (s : ℕ) → s < n → 0 < length (block_at lists s) → IsInSomeBlock blocks s
  covered_from_some s within some =
      let j = get_or (block_at lists s) 0 0 in
      let it = (are.right s within).own j (Contains-get_or (block_at lists s) 0 0 some) in
      (j, it.0, it.1)

  pub missing_from_none : (s : ℕ) → s < n → block_at lists s ≡ [] → IsInSomeBlock blocks s → ⊥
  missing_from_none s within none (j, inside, has) =
      let there = (are.right s within).each j inside has in
      omega (arith, there.1, ap length none)

  pub first_missing_from : (s : ℕ) → s < n → ((t : ℕ) → t < s → 0 < length (block_at lists t)) → block_at lists s ≡ [] → IsFirstMissing n blocks s
  first_missing_from s within before none = record {
    state = within;
    missing = missing_from_none s within none;
    before = λ t below. covered_from_some t (omega arith) (before t below);
  }

-- ---- blocks around block a, by the holders of its first state
abbrev pub first_of : List (List ℕ) → ℕ → ℕ
first_of blocks a = get_or (block_at blocks a) 0 0

pub record IsSearchedAround (blocks : List (List ℕ)) (a : ℕ) (holders : List ℕ) (count : ℕ) : Type 0 where
  pub none : (k : ℕ) → k < count → IsWithin blocks a (get_or holders k 0) → ⊥

module _ (blocks : List (List ℕ)) (a n : ℕ) (within : a < length blocks) (lawful : All (IsBlock n) blocks) where
  pub block_of : IsBlock n (block_at blocks a)
  block_of = All-get_or (IsBlock n) blocks a [] within lawful

  pub first_below : first_of blocks a < n
  first_below = All-get_or (λ s. s < n) (block_at blocks a) 0 0 block_of.some block_of.states

  has_first : Has blocks a (first_of blocks a)
  has_first = Contains-get_or (block_at blocks a) 0 0 block_of.some

  module _ (holders : List ℕ) (are : AreHolders blocks (first_of blocks a) (length blocks) holders) where
    -- a block that has all of block a is among the holders
    pub around_is_holder : (b : ℕ) → IsWithin blocks a b → Contains holders b
    around_is_holder b it = are.each b it.second (it.each (first_of blocks a) has_first)

    pub none_around : (count : ℕ) → length holders ≤ count → IsSearchedAround blocks a holders count → (b : ℕ) → IsWithin blocks a b → ⊥
    none_around count past so_far b it =
        let there = around_is_holder b it in
        so_far.none there.0 (omega (arith, there.1)) (subst (IsWithin blocks a) (sym (get_or_default holders there.0 0 b there.1 ∙ there.2)) it)

    pub least_found : (count : ℕ) → count < length holders → IsSearchedAround blocks a holders count → IsWithin blocks a (get_or holders count 0) → IsLeastAround blocks a (get_or holders count 0)
    least_found count inside so_far it = record {
      is_within = it;
      least = least;
    } where
      least : (c : ℕ) → c < get_or holders count 0 → IsWithin blocks a c → ⊥
      least c below other =
          let there = around_is_holder c other in
          let is : get_or holders there.0 0 ≡ c = get_or_default holders there.0 0 c there.1 ∙ there.2 in
          elim (cases_lt there.0 count) [
            | inl before ↦ so_far.none there.0 before (subst (IsWithin blocks a) (sym is) other)
            | inr from_on ↦
                elim (cases_lt count there.0) [
                  | inl behind ↦ omega (arith, is, are.ascending count there.0 0 behind there.1)
                  | inr same ↦ let here : count ≡ there.0 = omega arith in omega (arith, is, ap (λ (k : ℕ). get_or holders k 0) here)
                ]
          ]

pub around_none : (blocks : List (List ℕ)) (a : ℕ) (holders : List ℕ) → IsSearchedAround blocks a holders 0
around_none blocks a holders = record { none = λ k within. absurd (omega arith) }

pub around_more : (blocks : List (List ℕ)) (a : ℕ) (holders : List ℕ) (count : ℕ) → IsSearchedAround blocks a holders count → (IsWithin blocks a (get_or holders count 0) → ⊥)
    → IsSearchedAround blocks a holders (count + 1)
around_more blocks a holders count so_far lacks = record {
  none = λ k within.
      elim (cases_lt k count) [
        | inl old ↦ so_far.none k old
        | inr last ↦ let here : count ≡ k = omega arith in subst (λ (i : ℕ). IsWithin blocks a (get_or holders i 0) → ⊥) here lacks
      ];
}

-- ---- blocks within one another
module _ (blocks : List (List ℕ)) (a b : ℕ) (first second : List ℕ) (one : first ≡ block_at blocks a) (two : second ≡ block_at blocks b) where
  pub within_from_in : a < length blocks → b < length blocks → a ≢ b → AreIn first second → IsWithin blocks a b
  within_from_in inside also apart each = record {
    first = inside;
    second = also;
    two = apart;
    each = λ s has. subst (λ (xs : List ℕ). Contains xs s) two (each s (subst (λ (xs : List ℕ). Contains xs s) (sym one) has));
  }

  pub in_from_within : IsWithin blocks a b → AreIn first second
  in_from_within it s there = subst (λ (xs : List ℕ). Contains xs s) (sym two) (it.each s (subst (λ (xs : List ℕ). Contains xs s) one there))

-- ---- one list more
pub lists_more : (blocks : List (List ℕ)) (n : ℕ) (lists new : List (List ℕ)) (holders : List ℕ) → ((t : ℕ) → t < length lists → AreHolders blocks t (length blocks) (get_or lists t []))
    → AreHolders blocks (length lists) (length blocks) holders → new ≡ lists ++ holders ∷ [] → (t : ℕ) → t < length lists + 1 → AreHolders blocks t (length blocks) (get_or new t [])
lists_more blocks n lists new holders old last added t within =
    elim (cases_lt t (length lists)) [
      | inl before ↦
          subst (AreHolders blocks t (length blocks)) (sym (ap (λ (xs : List (List ℕ)). get_or xs t []) added ∙ get_or_append_left lists (holders ∷ []) [] t before)) (old t before)
      | inr here ↦
          let same : length lists ≡ t = omega arith in
          subst (AreHolders blocks t (length blocks)) (sym (ap (λ (xs : List (List ℕ)). get_or xs t []) added ∙ get_or_push lists holders [] t same))
          (subst (λ (k : ℕ). AreHolders blocks k (length blocks) holders) same last)
    ]
