-- M of a partition from the right sides of two states.
use Rattle.std.proofs.Common.{◌≡◌, ℕ, ◌+◌, ◌<◌, ◌≤◌, ◌⊎◌, ◌↔◌, All, Bool, Contains, IsTrue, List, [], ◌∷◌, ◌++◌, Some, get_or, length, slice_get, refl, sym, ap, ◌∙◌, subst, inl, inr, arith}
use Rattle.std.proofs.lemmas.Bool.{cases_eq, cases_lt}
use Rattle.std.proofs.lemmas.List.{get_or_append_left, get_or_push, length_push}
use Rattle.std.proofs.lemmas.List.Elements.{All-push, Contains-append_left, Contains-push}
use Rattle.std.proofs.lemmas.Option.{get_or_from_slice_get}
use Rattle.kiss_file.specs.declared.file.KissFile.{KissFile}
use Rattle.machine_table.specs.NextStates.{NeverLeaves}
use Rattle.partition.specs.Laws.Chains.{together_turned}
use Rattle.partition.specs.Laws.Labels.{IsPartition-of}
use Rattle.partition.specs.Laws.Merging.{merged_above, merged_held}
use Rattle.partition.specs.MergedBlocks.{IsMerged}
use Rattle.partition.specs.Partition.{IsPartition, IsZero, Le, Together}
use Rattle.partition.specs.RelationBlocks.{AreRelated}
use Rattle.pair_operators.specs.Extremes.{IsHigh}
use Rattle.pair_operators.specs.NextBlocks.{Goes}
use Rattle.pair_operators.specs.Laws.Going.{goes_each, goes_from, goes_in_pair, goes_itself, goes_on, goes_turned}
use Rattle.mm_lattice.specs.declared.placed_pairs.PlacedPair.{PlacedPair}
use Rattle.mm_lattice.specs.Generators.{IsRightOf}
use Rattle.mm_lattice.specs.Inner.PlacedPairs.{AreBelowUpTo, ArePlaced, HasPlace, HavePlaces, IsPlaced}
use Rattle.mm_lattice.proofs.Generating.{going_right}

-- Pairs: those of the states before t with each other, and of t with the states before s.
pub record IsPlacing (F : KissFile) (rights : List (List ℕ)) (t s : ℕ) (pairs : List PlacedPair) : Type 0 where
  pub placed : All (IsPlaced F rights) pairs
  pub before : HavePlaces t pairs
  pub here : (r : ℕ) → r < s → HasPlace r t pairs

pub placing_more : (F : KissFile) (rights : List (List ℕ)) (t s : ℕ) (pairs : List PlacedPair) (pair : PlacedPair) → IsPlacing F rights t s pairs → IsPlaced F rights pair → pair.s ≡ s → pair.t ≡ t → IsPlacing F rights t (s + 1) (pairs ++ pair ∷ [])
placing_more F rights t s pairs pair so_far is at_s at_t = record {
  placed = All-push (IsPlaced F rights) pairs pair so_far.placed is;
  before = λ a b order below. still a b (so_far.before a b order below);
  here = λ r less. elim (cases_lt r s) [
    | inl earlier ↦ still r t (so_far.here r earlier)
    | inr last ↦ (pair, Contains-push pairs pair, omega (arith, at_s), at_t)
  ];
}
  where
    still : (a b : ℕ) → HasPlace a b pairs → HasPlace a b (pairs ++ pair ∷ [])
    still a b has = (has.0, Contains-append_left pairs (pair ∷ []) has.0 has.1, has.2, has.3)

pub placing_done : (F : KissFile) (rights : List (List ℕ)) (t s : ℕ) (pairs : List PlacedPair) → IsPlacing F rights t s pairs → t ≤ s → HavePlaces (t + 1) pairs
placing_done F rights t s pairs so_far ended a b order below =
    elim (cases_lt b t) [
      | inl before ↦ so_far.before a b order before
      | inr last ↦ let at : t ≡ b = omega arith in subst (λ (n : ℕ). HasPlace a n pairs) at (so_far.here a (omega arith))
    ]

-- one more partition is compared with q
pub below_more : (rights : List (List ℕ)) (q : List ℕ) (count : ℕ) (below : List Bool) (right : List ℕ) (answer : Bool) → ((d : List ℕ) → get_or rights count d ≡ right) → IsTrue answer ↔ Le right q → AreBelowUpTo rights q count below → AreBelowUpTo rights q (count + 1) (below ++ answer ∷ [])
below_more rights q count below right answer here is so_far = record {
  size = omega (arith, length_push below answer, so_far.size);
  each = λ k d other within at. elim (cases_eq k count) [
    | inl last ↦
        let same : right ≡ other = sym (here right) ∙ subst (λ (n : ℕ). get_or rights n right ≡ other) last (get_or_from_slice_get rights k other right at) in
        subst (λ (r : List ℕ). IsTrue (get_or (below ++ answer ∷ []) k d) ↔ Le r q) same
        (subst (λ (b : Bool). IsTrue b ↔ Le right q) (sym (get_or_push below answer d k (so_far.size ∙ sym last))) is)
    | inr before ↦
        subst (λ (b : Bool). IsTrue b ↔ Le other q) (sym (get_or_append_left below (answer ∷ []) d k (omega (arith, so_far.size))))
        (so_far.each k d other (omega arith) at)
  ];
}

-- two states go together in q exactly where their right side is below it
pub goes_above_right : (F : KissFile) (q : List ℕ) (s t : ℕ) (right : List ℕ) → IsRightOf F s t right → Le right q → Goes F q s t
goes_above_right F q s t right is below = goes_from F q s t (λ x width. below _ _ ((going_right F s t right is).has x width))

pub right_below : (F : KissFile) (q : List ℕ) (s t : ℕ) (right : List ℕ) → IsPartition (length F.states) q → IsRightOf F s t right → Goes F q s t → Le right q
right_below F q s t right lawful is goes = (going_right F s t right is).least q lawful (goes_each F q s t goes)

-- A partition in which states that are together go together in q, and in which the states of the first pairs are
-- together if they go together in q.
pub record IsLeftSoFar (F : KissFile) (q : List ℕ) (pairs : List PlacedPair) (count : ℕ) (p : List ℕ) : Type 0 where
  pub lawful : IsPartition (length F.states) p
  pub related : AreRelated (Goes F q) p
  pub kept : (k : ℕ) (d : PlacedPair) → k < count → Goes F q (get_or pairs k d).s (get_or pairs k d).t → Together p (get_or pairs k d).s (get_or pairs k d).t

pub left_none : (F : KissFile) (q : List ℕ) (pairs : List PlacedPair) (zero : List ℕ) → IsPartition (length F.states) zero → IsZero zero → IsLeftSoFar F q pairs 0 zero
left_none F q pairs zero lawful is = record {
  lawful = lawful;
  related = λ s t held. inl (is s t held);
  kept = λ k d within goes. absurd (omega arith);
}

module _ (F : KissFile) (q : List ℕ) (pairs : List PlacedPair) (count : ℕ) (p : List ℕ) (pair : PlacedPair) (here : (d : PlacedPair) → get_or pairs count d ≡ pair) (so_far : IsLeftSoFar F q pairs count p) where
  -- the pair does not go together
  pub left_passed : (Goes F q pair.s pair.t → ⊥) → IsLeftSoFar F q pairs (count + 1) p
  left_passed apart = record {
    lawful = so_far.lawful;
    related = so_far.related;
    kept = λ k d within goes. elim (cases_eq k count) [
      | inl last ↦
          absurd (apart (subst (λ (x : PlacedPair). Goes F q x.s x.t) (here d) (subst (λ (n : ℕ). Goes F q (get_or pairs n d).s (get_or pairs n d).t) last goes)))
      | inr before ↦ so_far.kept k d (omega arith) goes
    ];
  }

  same_on : (s t u : ℕ) → (s ≡ t) ⊎ Goes F q s t → (t ≡ u) ⊎ Goes F q t u → (s ≡ u) ⊎ Goes F q s u
  same_on s t u (inl one) (inl two) = inl (one ∙ two)
  same_on s t u (inl one) (inr two) = inr (subst (λ (w : ℕ). Goes F q w u) (sym one) two)
  same_on s t u (inr one) (inl two) = inr (subst (λ (w : ℕ). Goes F q s w) two one)
  same_on s t u (inr one) (inr two) = inr (goes_on F q s t u one two)

  module _ (r : List ℕ) (in_s : pair.s < length F.states) (in_t : pair.t < length F.states) (like : Goes F q pair.s pair.t) (is : IsMerged p pair.s pair.t r) where
    merged_related : (t u : ℕ) → Together r t u → (t ≡ u) ⊎ Goes F q t u
    merged_related t u held =
        elim ((is.together t u).0 held) [
          | inl old ↦ so_far.related t u old
          | inr new ↦
              elim new [
                | inl way ↦ same_on t pair.s u (so_far.related t pair.s way.0) (same_on pair.s pair.t u (inr like) (so_far.related pair.t u way.1))
                | inr way ↦ same_on t pair.t u (so_far.related t pair.t way.0) (same_on pair.t pair.s u (inr (goes_turned F q pair.s pair.t like)) (so_far.related pair.s u way.1))
              ]
        ]

    -- the pair is merged
    pub left_merged : IsLeftSoFar F q pairs (count + 1) r
    left_merged = record {
      lawful = IsPartition-of so_far.lawful.length is.lawful;
      related = merged_related;
      kept = λ k d within goes. elim (cases_eq k count) [
        | inl last ↦
            subst (λ (n : ℕ). Together r (get_or pairs n d).s (get_or pairs n d).t) (sym last)
            (subst (λ (x : PlacedPair). Together r x.s x.t) (sym (here d))
            (merged_held p r pair.s pair.t (omega (arith, in_s, so_far.lawful.length)) (omega (arith, in_t, so_far.lawful.length)) is))
        | inr before ↦ merged_above p r pair.s pair.t is _ _ (so_far.kept k d (omega arith) goes)
      ];
    }

-- after all pairs it is M of q
pub left_all : (F : KissFile) (q : List ℕ) (rights : List (List ℕ)) (pairs : List PlacedPair) (count : ℕ) (p : List ℕ) → NeverLeaves F → length q ≡ length F.states → length pairs ≤ count → ArePlaced F rights pairs → IsLeftSoFar F q pairs count p → IsHigh F q p
left_all F q rights pairs count p stays size all are so_far = record {
  lawful = so_far.lawful;
  pair = λ s t x held long. elim (so_far.related s t held) [
    | inl same ↦ goes_each F q s t (subst (λ (u : ℕ). Goes F q s u) same (goes_itself F q s stays size (omega (arith, held.0, so_far.lawful.length)))) x long
    | inr goes ↦ goes_each F q s t goes x long
  ];
  greatest = λ other lawful pair s t held.
      put s t (omega (arith, held.0, lawful.length)) (omega (arith, held.1, lawful.length)) (goes_in_pair F other q s t pair held);
}
  where
    ordered : (s t : ℕ) → s < t → t < length F.states → Goes F q s t → Together p s t
    ordered s t order within goes =
        let has = are.each s t order within in
        let pair : PlacedPair = has.0 in
        let k : ℕ = has.1.0 in
        let read : get_or pairs k pair ≡ pair = has.1.2 in
        let go_pair : Goes F q pair.s pair.t = subst (λ (a : ℕ). Goes F q a pair.t) (sym has.2) (subst (λ (b : ℕ). Goes F q s b) (sym has.3) goes) in
        let held : Together p (get_or pairs k pair).s (get_or pairs k pair).t =
        so_far.kept k pair (omega (arith, has.1.1, all)) (subst (λ (x : PlacedPair). Goes F q x.s x.t) (sym read) go_pair) in
        subst (λ (a : ℕ). Together p a t) has.2 (subst (λ (b : ℕ). Together p pair.s b) has.3 (subst (λ (x : PlacedPair). Together p x.s x.t) read held))

    put : (s t : ℕ) → s < length F.states → t < length F.states → Goes F q s t → Together p s t
    put s t in_s in_t goes =
        elim (cases_lt s t) [
          | inl less ↦ ordered s t less in_t goes
          | inr more ↦ elim (cases_eq s t) [
            | inl same ↦ let inside : s < length p = omega (arith, in_s, so_far.lawful.length) in subst (λ (u : ℕ). Together p s u) same (inside, inside, refl)
            | inr other ↦ together_turned p t s (ordered t s (omega arith) in_s (goes_turned F q s t goes))
          ]
        ]
