-- How the blocks of some states are put together, and the join that this makes along the rows of a partition.
use Rattle.std.proofs.Common.{◌≡◌, ◌≢◌, ℕ, Bool, true, false, ◌||◌, ◌+◌, ◌*◌, ◌<◌, ◌≤◌, ◌⊎◌, List, length, get_or, refl, sym, ap, ◌∙◌, subst, inl, inr, arith}
use Rattle.std.proofs.lemmas.Bool.{cases_eq}
use Rattle.std.specs.Bool.{OnFalse}
use Rattle.partition.specs.Partition.{IsPartition, Together, Le}
use Rattle.partition.specs.MeetAndJoin.{IsJoin, Chain}
use Rattle.partition.specs.MergedBlocks.{IsMerged}
use Rattle.partition.specs.Laws.Labels.{IsPartition-of}
use Rattle.partition.specs.Laws.Merging.{merged_above, merged_held}
use Rattle.partition.specs.Laws.Chains.{chain_link, chain_on, chain_within, chain_keeps, together_turned}
use Rattle.partition.specs.Bits.{bit_of}
use Rattle.partition.specs.Inner.Rows.{Has, place_in, AreRows, Touches, JoinsStates}

together_on : (p : List ℕ) (s t u : ℕ) → Together p s t → Together p t u → Together p s u
together_on p s t u one two = (one.0, two.1, one.2 ∙ two.2)

-- r has the blocks of those of the states in one that are not left
pub record IsJoiningStates (p states : List ℕ) (s : ℕ) (left r : List ℕ) : Type 0 where
  pub lawful : IsPartition (length p) r
  pub above : Le p r
  pub within : (u v : ℕ) → Together r u v → Together p u v ⊎ (Touches p states u × Touches p states v)
  pub part : (t : ℕ) → Has left t → Has states t
  pub held : (t : ℕ) → Has states t → bit_of left t ≡ 0 → Together r s t

pub joining_first : (p states : List ℕ) (s : ℕ) → IsPartition (length p) p → IsJoiningStates p states s states p
joining_first p states s lawful = record {
  lawful = lawful;
  above = λ u v together. together;
  within = λ u v together. inl together;
  part = λ t on. on;
  held = λ t on gone. absurd (omega (arith, on, gone));
}

-- with the block of one state more
pub joining_step : (p states : List ℕ) (s t : ℕ) (left left' r r' : List ℕ) → IsJoiningStates p states s left r → Has states s → Has left t → s < length p → t < length p → IsMerged r s t r'
    → bit_of left' t ≡ 0 → ((u : ℕ) → u ≢ t → bit_of left' u ≡ bit_of left u) → IsJoiningStates p states s left' r'
joining_step p states s t left left' r r' so_far first on in_s in_t merged out others = record {
  lawful = IsPartition-of so_far.lawful.length merged.lawful;
  above = λ u v together. merged_above r r' s t merged u v (so_far.above u v together);
  within = λ u v together. elim ((merged.together u v).0 together) [
    | inl old ↦ so_far.within u v old
    | inr new ↦ elim new [
      | inl way ↦ inr (touches u s first (together_turned r u s way.0), touches v t (so_far.part t on) way.1)
      | inr way ↦ inr (touches u t (so_far.part t on) (together_turned r u t way.0), touches v s first way.1)
    ]
  ];
  part = λ u in_left. elim (cases_eq u t) [
    | inl at ↦ absurd (omega (arith, in_left, ap (bit_of left') at, out))
    | inr other ↦ so_far.part u (sym (others u other) ∙ in_left)
  ];
  held = λ u in_states gone. elim (cases_eq u t) [
    | inl at ↦ subst (Together r' s) (sym at) (merged_held r r' s t (omega (arith, so_far.lawful.length)) (omega (arith, so_far.lawful.length)) merged)
    | inr other ↦ merged_above r r' s t merged s u (so_far.held u in_states (sym (others u other) ∙ gone))
  ];
}
  where
    touches : (u a : ℕ) → Has states a → Together r a u → Touches p states u
    touches u a in_states together =
        elim (so_far.within a u together) [
          | inl old ↦ (a, in_states, old)
          | inr both ↦ both.1
        ]

-- none is left
pub joining_all : (p states : List ℕ) (s : ℕ) (left r : List ℕ) → IsJoiningStates p states s left r → ((t : ℕ) → bit_of left t ≡ 0) → JoinsStates p states r
joining_all p states s left r all none = record {
  lawful = all.lawful;
  together = λ u v. (
    (λ together. all.within u v together),
    (λ either. elim either [
      | inl old ↦ all.above u v old
      | inr both ↦
          let one : Together r u s = together_on r u both.0.0 s (together_turned r both.0.0 u (all.above both.0.0 u both.0.2)) (together_turned r s both.0.0 (all.held both.0.0 both.0.1 (none both.0.0))) in
          let two : Together r s v = together_on r s both.1.0 v (all.held both.1.0 both.1.1 (none both.1.0)) (all.above both.1.0 v both.1.2) in
          together_on r u s v one two
    ]),
  );
}

-- there are no states
pub joined_none : (p states : List ℕ) → IsPartition (length p) p → ((t : ℕ) → bit_of states t ≡ 0) → JoinsStates p states p
joined_none p states lawful none = record {
  lawful = lawful;
  together = λ u v. (
    (λ together. inl together),
    (λ either. elim either [
      | inl old ↦ old
      | inr both ↦ absurd (omega (arith, both.0.1, none both.0.0))
    ]),
  );
}

-- what lies between two lists is their join, where it has a chain wherever it has states together
pub join_by : (p q r : List ℕ) → IsPartition (length p) r → Le p r → Le q r → ((u v : ℕ) → Together r u v → Chain p q u v) → length q ≡ length p → IsJoin p q r
join_by p q r lawful left right within lengths = record {
  lawful = lawful;
  together = λ s t. (
    within s t,
    (λ chain. (omega (arith, chain.0, lawful.length), omega (arith, chain_within p q s t lengths chain, lawful.length), chain_keeps p q (λ u. get_or r u 0) (λ u v held. (left u v held).2) (λ u v held. (right u v held).2) s t chain)),
  );
}

-- r is p with the states of each of the first rows of q together
pub record IsJoiningRows (p q words : List ℕ) (width i : ℕ) (r : List ℕ) : Type 0 where
  pub lawful : IsPartition (length p) r
  pub above : Le p r
  pub within : (u v : ℕ) → Together r u v → Chain p q u v
  pub done : (j s t : ℕ) → j < i → s < 64 * width → t < 64 * width → Has words (place_in width j s) → Has words (place_in width j t) → Together r s t

pub rows_first : (p q words : List ℕ) (width : ℕ) → IsPartition (length p) p → IsJoiningRows p q words width 0 p
rows_first p q words width lawful = record {
  lawful = lawful;
  above = λ u v together. together;
  within = λ u v together. chain_link p q u v together.0 (inl together);
  done = λ j s t before. absurd (omega arith);
}

-- the states of a row are states of q
pub row_within : (q words : List ℕ) (width count i : ℕ) (states : List ℕ) → AreRows q words width count → i < count → ((t : ℕ) → t < 64 * width → bit_of states t ≡ bit_of words (place_in width i t)) → ((t : ℕ) → Has states t → t < 64 * width)
    → (t : ℕ) → Has states t → t < length q
row_within q words width count i states are within bits low t on =
    let place : Has words (place_in width i t) = sym (bits t (low t on)) ∙ on in
    ((are.block i t t within (low t on) (low t on) place).0 place).0

-- with the states of one row more
pub rows_step : (p q words : List ℕ) (width count i : ℕ) (states r r' : List ℕ) → length q ≡ length p → length q ≤ 64 * width → AreRows q words width count → i < count
    → ((t : ℕ) → t < 64 * width → bit_of states t ≡ bit_of words (place_in width i t)) → ((t : ℕ) → Has states t → t < 64 * width) → IsJoiningRows p q words width i r → JoinsStates r states r' → IsJoiningRows p q words width (i + 1) r'
rows_step p q words width count i states r r' lengths wide are row_within bits low so_far joined = record {
  lawful = IsPartition-of so_far.lawful.length joined.lawful;
  above = λ u v together. grown u v (so_far.above u v together);
  within = λ u v together. elim ((joined.together u v).0 together) [
    | inl old ↦ so_far.within u v old
    | inr both ↦
        let a : ℕ = both.0.0 in
        let b : ℕ = both.1.0 in
        let one : Chain p q u a = so_far.within u a (together_turned r a u both.0.2) in
        let two : Chain p q a b = chain_link p q a b (omega (arith, (own a b both.0.1 both.1.1).0, lengths)) (inr (own a b both.0.1 both.1.1)) in
        chain_on p q u b v (chain_on p q u a b one two) (so_far.within b v both.1.2)
  ];
  done = λ j s t before in_s in_t on_s on_t. elim (cases_eq j i) [
    | inl at ↦
        let s_in : Has states s = bits s in_s ∙ subst (λ (k : ℕ). Has words (place_in width k s)) at on_s in
        let t_in : Has states t = bits t in_t ∙ subst (λ (k : ℕ). Has words (place_in width k t)) at on_t in
        (joined.together s t).1 (inr ((s, s_in, self s s_in), (t, t_in, self t t_in)))
    | inr other ↦ grown s t (so_far.done j s t (omega arith) in_s in_t on_s on_t)
  ];
}
  where
    grown : (u v : ℕ) → Together r u v → Together r' u v
    grown u v together = (joined.together u v).1 (inl together)

    own : (a b : ℕ) → Has states a → Has states b → Together q a b
    own a b in_a in_b = (are.block i a b row_within (low a in_a) (low b in_b) (sym (bits a (low a in_a)) ∙ in_a)).0 (sym (bits b (low b in_b)) ∙ in_b)

    self : (a : ℕ) → Has states a → Together r a a
    self a in_a = let here = (own a a in_a in_a).0 in (omega (arith, here, lengths, so_far.lawful.length), omega (arith, here, lengths, so_far.lawful.length), refl)

-- with all rows it is the join
pub rows_all : (p q words : List ℕ) (width count : ℕ) (r : List ℕ) → length q ≡ length p → length q ≤ 64 * width → AreRows q words width count → IsJoiningRows p q words width count r → IsJoin p q r
rows_all p q words width count r lengths wide are all = join_by p q r all.lawful all.above right all.within lengths
  where
    right : Le q r
    right s t together =
        elim (cases_eq s t) [
          | inl same ↦ (omega (arith, together.0, lengths, all.lawful.length), omega (arith, together.1, lengths, all.lawful.length), ap (λ (k : ℕ). get_or r k 0) same)
          | inr apart ↦
              let row = are.listed s t together apart in
              let in_s : s < 64 * width = omega (arith, together.0, wide) in
              let in_t : t < 64 * width = omega (arith, together.1, wide) in
              all.done row.0 s t row.1 in_s in_t row.2 ((are.block row.0 s t row.1 in_s in_t row.2).1 together)
        ]

-- what neither of two steps changes stays the same
pub kept_both : (a b : Bool) (p r r' : List ℕ) → OnFalse a (r ≡ p) → OnFalse b (r' ≡ r) → OnFalse (a || b) (r' ≡ p)
kept_both true b p r r' one two = tt
kept_both false true p r r' one two = tt
kept_both false false p r r' one two = two ∙ one
