-- How one pass over the states ties the blocks of p together that lie in one block of the join.
use Rattle.std.proofs.Common.{◌≡◌, ℕ, ◌+◌, ◌<◌, ◌≤◌, ◌≢◌, ◌⊎◌, ◌==◌, cond, List, length, get_or, set, take, refl, sym, ap, ◌∙◌, subst, inl, inr, arith}
use Rattle.std.proofs.lemmas.List.{get_or-set_same, get_or-set_other, length-set}
use Rattle.std.proofs.lemmas.Bool.{cases_eq, eq-eqb, ne_eqb, cond-true, cond-false}
use Rattle.partition.specs.Partition.{blocks_of, IsNumbered, IsPartition, SameTogether}
use Rattle.partition.specs.MeetAndJoin.{Chain, IsJoin}
use Rattle.partition.specs.Inner.Ties.{TiesBlocks}
use Rattle.partition.specs.Laws.Labels.{blocks_of-take-more, label-lt-blocks_of, label-lt-blocks_of-take, block_stands, label-le, IsPartition-of}
use Rattle.partition.specs.Laws.Chains.{chain_link, chain_on, chain_turned, chain_keeps, chain_within}

-- the number of the block of p in which a state lies
abbrev pub number_of : List ℕ → List ℕ → ℕ → ℕ
number_of p numbers s = get_or numbers (get_or p s 0) 0

-- After the first s states: the blocks of q that came and the block of p of the first state of each, and
-- numbers that tie blocks of p only along chains, and along each block of q as far as it came.
pub record IsMerging (p q first : List ℕ) (found : ℕ) (numbers : List ℕ) (s : ℕ) : Type 0 where
  pub count : found ≡ blocks_of (take s q)
  pub room : length first ≡ 256
  pub firsts : (t : ℕ) → t < s → (u : ℕ) × (u < s) × (get_or q u 0 ≡ get_or q t 0) × (get_or first (get_or q t 0) 0 ≡ get_or p u 0)
  pub size : length numbers ≡ blocks_of p
  pub small : (block : ℕ) → block < blocks_of p → get_or numbers block 0 < blocks_of p
  pub sound : (a b : ℕ) → a < length p → b < length p → number_of p numbers a ≡ number_of p numbers b → Chain p q a b
  pub tied : (t : ℕ) → t < s → number_of p numbers t ≡ get_or numbers (get_or first (get_or q t 0) 0) 0

pub merging_none : (p q first numbers : List ℕ) → length first ≡ 256 → length numbers ≡ blocks_of p → ((k : ℕ) → k < blocks_of p → get_or numbers k 0 ≡ k) → IsMerging p q first 0 numbers 0
merging_none p q first numbers room size own = record {
  count = refl;
  room = room;
  firsts = λ t within. absurd (omega arith);
  size = size;
  small = λ block within. omega (arith, own block within);
  sound = λ a b in_a in_b same. chain_link p q a b in_a (inl (in_a, in_b, sym (own (get_or p a 0) (label-lt-blocks_of p a in_a)) ∙ same ∙ own (get_or p b 0) (label-lt-blocks_of p b in_b)));
  tied = λ t within. absurd (omega arith);
}

-- state s begins a block of q
pub merging_new : (p q first : List ℕ) (found : ℕ) (numbers : List ℕ) (s : ℕ) → IsNumbered q → s < length q → length q ≤ 256 → IsMerging p q first found numbers s → get_or q s 0 ≡ found → IsMerging p q (set first (get_or q s 0) (get_or p s 0)) (found + 1) numbers (s + 1)
merging_new p q first found numbers s numbered within few so_far new =
    let inside : get_or q s 0 < length first = omega (arith, label-le q numbered s within, so_far.room) in
    let here : get_or (set first (get_or q s 0) (get_or p s 0)) (get_or q s 0) 0 ≡ get_or p s 0 = get_or-set_same first (get_or q s 0) (get_or p s 0) 0 inside in
    let other : (t : ℕ) → t < s → get_or (set first (get_or q s 0) (get_or p s 0)) (get_or q t 0) 0 ≡ get_or first (get_or q t 0) 0 =
    λ t below. get_or-set_other first (get_or q s 0) (get_or q t 0) (get_or p s 0) 0 (λ same. let low : get_or q t 0 < blocks_of (take s q) = label-lt-blocks_of-take q t s below (omega arith) in absurd (omega (arith, same, new, so_far.count))) in
    record {
      count = omega (arith, blocks_of-take-more q s within, so_far.count, new);
      room = length-set first (get_or q s 0) (get_or p s 0) ∙ so_far.room;
      firsts = λ t below. elim (cases_eq t s) [
        | inl at ↦ (s, omega arith, ap (λ (u : ℕ). get_or q u 0) (sym at), ap (λ (u : ℕ). get_or (set first (get_or q s 0) (get_or p s 0)) (get_or q u 0) 0) at ∙ here)
        | inr differs ↦ let earlier : t < s = omega arith in let was = so_far.firsts t earlier in (was.0, omega (arith, was.1), was.2, other t earlier ∙ was.3)
      ];
      size = so_far.size;
      small = so_far.small;
      sound = so_far.sound;
      tied = λ t below. elim (cases_eq t s) [
        | inl at ↦ ap (λ (block : ℕ). get_or numbers block 0) (ap (λ (u : ℕ). get_or p u 0) at ∙ sym here ∙ sym (ap (λ (u : ℕ). get_or (set first (get_or q s 0) (get_or p s 0)) (get_or q u 0) 0) at))
        | inr differs ↦ let earlier : t < s = omega arith in so_far.tied t earlier ∙ ap (λ (block : ℕ). get_or numbers block 0) (sym (other t earlier))
      ];
    }

-- numbers after one number was put in the place of another
abbrev pub IsRenumbered : List ℕ → List ℕ → ℕ → ℕ → Type 0
IsRenumbered numbers numbers' from to =
    (k : ℕ) → k < length numbers → get_or numbers' k 0 ≡ cond (get_or numbers k 0 == from) to (get_or numbers k 0)

renumbered_at : (numbers numbers' : List ℕ) (from to : ℕ) → IsRenumbered numbers numbers' from to → (k : ℕ) → k < length numbers → get_or numbers k 0 ≡ from → get_or numbers' k 0 ≡ to
renumbered_at numbers numbers' from to changed k within at = changed k within ∙ cond-true _ to (get_or numbers k 0) (eq-eqb (get_or numbers k 0) from at)

renumbered_other : (numbers numbers' : List ℕ) (from to : ℕ) → IsRenumbered numbers numbers' from to → (k : ℕ) → k < length numbers → get_or numbers k 0 ≢ from → get_or numbers' k 0 ≡ get_or numbers k 0
renumbered_other numbers numbers' from to changed k within other = changed k within ∙ cond-false _ to (get_or numbers k 0) (ne_eqb (get_or numbers k 0) from other)

renumbered_same : (numbers numbers' : List ℕ) (from to : ℕ) → IsRenumbered numbers numbers' from to → (k j : ℕ) → k < length numbers → j < length numbers → get_or numbers k 0 ≡ get_or numbers j 0 → get_or numbers' k 0 ≡ get_or numbers' j 0
renumbered_same numbers numbers' from to changed k j in_k in_j same =
    changed k in_k ∙ ap (λ (x : ℕ). cond (x == from) to x) same ∙ sym (changed j in_j)

-- state s is in the block of q of the earlier state u, and the number of its block of p becomes that of u
merging_tie : (p q first : List ℕ) (found : ℕ) (numbers numbers' : List ℕ) (s u : ℕ) → IsPartition (length p) q → s < length p → IsMerging p q first found numbers s
    → get_or q s 0 ≢ found → u < s → get_or q u 0 ≡ get_or q s 0 → get_or first (get_or q s 0) 0 ≡ get_or p u 0
    → length numbers' ≡ length numbers → IsRenumbered numbers numbers' (number_of p numbers s) (number_of p numbers u)
    → IsMerging p q first found numbers' (s + 1)
merging_tie p q first found numbers numbers' s u lawful within so_far old before in_block first_is size' changed = record {
  count = omega (arith, blocks_of-take-more q s in_q, so_far.count, lawful.numbered s in_q);
  room = so_far.room;
  firsts = λ t below. elim (cases_eq t s) [
    | inl at ↦ let block : get_or q s 0 ≡ get_or q t 0 = ap (λ (v : ℕ). get_or q v 0) (sym at) in (u, omega arith, in_block ∙ block, ap (λ (b : ℕ). get_or first b 0) (sym block) ∙ first_is)
    | inr differs ↦ let was = so_far.firsts t (omega arith) in (was.0, omega (arith, was.1), was.2, was.3)
  ];
  size = size' ∙ so_far.size;
  small = λ block below. elim (cases_eq (get_or numbers block 0) (number_of p numbers s)) [
    | inl at ↦ omega (arith, renumbered_at numbers numbers' _ _ changed block (omega (arith, so_far.size)) at, so_far.small (get_or p u 0) (label-lt-blocks_of p u (omega arith)))
    | inr other ↦ omega (arith, renumbered_other numbers numbers' _ _ changed block (omega (arith, so_far.size)) other, so_far.small block below)
  ];
  sound = λ a b in_a in_b same. by_cases a b in_a in_b same (cases_eq (number_of p numbers a) (number_of p numbers s)) (cases_eq (number_of p numbers b) (number_of p numbers s));
  tied = λ t below. elim (cases_eq t s) [
    | inl at ↦ subst (λ (v : ℕ). number_of p numbers' v ≡ get_or numbers' (get_or first (get_or q v 0) 0) 0) (sym at) tied_here
    | inr differs ↦
        let was = so_far.firsts t (omega arith) in
        let first_block : get_or first (get_or q t 0) 0 < length numbers = omega (arith, was.3, place was.0 (omega (arith, was.1))) in
        renumbered_same numbers numbers' _ _ changed (get_or p t 0) (get_or first (get_or q t 0) 0) (place t (omega arith)) first_block (so_far.tied t (omega arith))
  ];
}
  where
    in_q : s < length q
    in_q = omega (arith, lawful.length)

    place : (a : ℕ) → a < length p → get_or p a 0 < length numbers
    place a in_a = omega (arith, label-lt-blocks_of p a in_a, so_far.size)

    at_from : (a : ℕ) → a < length p → number_of p numbers a ≡ number_of p numbers s → number_of p numbers' a ≡ number_of p numbers u
    at_from a in_a at = renumbered_at numbers numbers' _ _ changed (get_or p a 0) (place a in_a) at

    at_other : (a : ℕ) → a < length p → number_of p numbers a ≢ number_of p numbers s → number_of p numbers' a ≡ number_of p numbers a
    at_other a in_a other = renumbered_other numbers numbers' _ _ changed (get_or p a 0) (place a in_a) other

    tie : Chain p q s u
    tie = chain_link p q s u within (inr (in_q, omega (arith, lawful.length), sym in_block))

    lengths : length q ≡ length p
    lengths = lawful.length

    across : (a b : ℕ) → a < length p → b < length p → number_of p numbers a ≡ number_of p numbers s → number_of p numbers u ≡ number_of p numbers b → Chain p q a b
    across a b in_a in_b front back =
        chain_on p q a s b (so_far.sound a s in_a within front) (chain_on p q s u b tie (so_far.sound u b (omega arith) in_b back))

    by_cases : (a b : ℕ) → a < length p → b < length p → number_of p numbers' a ≡ number_of p numbers' b → (number_of p numbers a ≡ number_of p numbers s) ⊎ (number_of p numbers a ≢ number_of p numbers s) → (number_of p numbers b ≡ number_of p numbers s) ⊎ (number_of p numbers b ≢ number_of p numbers s) → Chain p q a b
    by_cases a b in_a in_b same (inl a_from) (inl b_from) = so_far.sound a b in_a in_b (a_from ∙ sym b_from)
    by_cases a b in_a in_b same (inl a_from) (inr b_other) = across a b in_a in_b a_from (sym (at_from a in_a a_from) ∙ same ∙ at_other b in_b b_other)
    by_cases a b in_a in_b same (inr a_other) (inl b_from) = chain_turned p q b a lengths (across b a in_b in_a b_from (sym (at_from b in_b b_from) ∙ sym same ∙ at_other a in_a a_other))
    by_cases a b in_a in_b same (inr a_other) (inr b_other) = so_far.sound a b in_a in_b (sym (at_other a in_a a_other) ∙ same ∙ at_other b in_b b_other)

    keeps_u : number_of p numbers' u ≡ number_of p numbers u
    keeps_u = elim (cases_eq (number_of p numbers u) (number_of p numbers s)) [
      | inl at ↦ at_from u (omega arith) at
      | inr other ↦ at_other u (omega arith) other
    ]

    first_kept : get_or numbers' (get_or first (get_or q s 0) 0) 0 ≡ number_of p numbers' u
    first_kept = ap (λ (block : ℕ). get_or numbers' block 0) first_is

    tied_here : number_of p numbers' s ≡ get_or numbers' (get_or first (get_or q s 0) 0) 0
    tied_here = at_from s within refl ∙ sym keeps_u ∙ sym first_kept

-- an earlier state of the block of q, whose block of p is noted for it
record IsNoted (p q first : List ℕ) (s : ℕ) : Type 0 where
  state : ℕ
  before : state < s
  in_block : get_or q state 0 ≡ get_or q s 0
  noted : get_or first (get_or q s 0) 0 ≡ get_or p state 0

noted_at : (p q first : List ℕ) (found : ℕ) (numbers : List ℕ) (s t : ℕ) → IsMerging p q first found numbers s → t < s → get_or q t 0 ≡ get_or q s 0 → IsNoted p q first s
noted_at p q first found numbers s t so_far before same =
    let was = so_far.firsts t before in
    record {
      state = was.0;
      before = was.1;
      in_block = was.2 ∙ same;
      noted = subst (λ (block : ℕ). get_or first block 0 ≡ get_or p was.0 0) same was.3;
    }

noted : (p q first : List ℕ) (found : ℕ) (numbers : List ℕ) (s : ℕ) → IsPartition (length p) q → s < length p → IsMerging p q first found numbers s → get_or q s 0 ≢ found → IsNoted p q first s
noted p q first found numbers s lawful within so_far old =
    let in_q : s < length q = omega (arith, lawful.length) in
    let came = block_stands q lawful.numbered s (omega arith) (get_or q s 0) (omega (arith, lawful.numbered s in_q, so_far.count)) in
    noted_at p q first found numbers s came.0 so_far came.1 came.2

-- state s lies in a block of q that came, and the number of its block of p becomes that of the block of
-- the first state there
pub merging_old : (p q first : List ℕ) (found : ℕ) (numbers numbers' : List ℕ) (s : ℕ) → IsPartition (length p) q → s < length p → IsMerging p q first found numbers s → get_or q s 0 ≢ found
    → length numbers' ≡ length numbers → IsRenumbered numbers numbers' (number_of p numbers s) (get_or numbers (get_or first (get_or q s 0) 0) 0)
    → IsMerging p q first found numbers' (s + 1)
merging_old p q first found numbers numbers' s lawful within so_far old size' changed = tie (noted p q first found numbers s lawful within so_far old)
  where
    tie : IsNoted p q first s → IsMerging p q first found numbers' (s + 1)
    tie at = merging_tie p q first found numbers numbers' s at.state lawful within so_far old at.before at.in_block at.noted size' (subst (λ (block : ℕ). IsRenumbered numbers numbers' (number_of p numbers s) (get_or numbers block 0)) at.noted changed)

-- the block of p that is noted for a block of q is one of p's
pub first_within : (p q first : List ℕ) (found : ℕ) (numbers : List ℕ) (s : ℕ) → IsPartition (length p) q → s < length p → IsMerging p q first found numbers s → get_or q s 0 ≢ found → get_or first (get_or q s 0) 0 < blocks_of p
first_within p q first found numbers s lawful within so_far old = inside (noted p q first found numbers s lawful within so_far old)
  where
    inside : IsNoted p q first s → get_or first (get_or q s 0) 0 < blocks_of p
    inside at = omega (arith, at.noted, label-lt-blocks_of p at.state (omega (arith, at.before)))

-- after all states the numbers tie exactly the blocks between which a chain leads
pub merging_all : (p q first : List ℕ) (found : ℕ) (numbers : List ℕ) → length q ≡ length p → IsMerging p q first found numbers (length p) → TiesBlocks p q numbers
merging_all p q first found numbers lengths all = record {
  size = all.size;
  small = all.small;
  tied = λ s t in_s in_t. (
    all.sound s t in_s in_t,
    chain_keeps p q (number_of p numbers) (λ a b held. ap (λ (block : ℕ). get_or numbers block 0) held.2) (λ a b held.
        all.tied a (omega (arith, held.0)) ∙ ap (λ (block : ℕ). get_or numbers (get_or first block 0) 0) held.2 ∙ sym (all.tied b (omega (arith, held.1)))) s t,
  );
}

-- labels for the numbers are the join
pub tied_is_join : (p q numbers values r : List ℕ) → length q ≡ length p → TiesBlocks p q numbers → length values ≡ length p → ((s : ℕ) → s < length p → get_or values s 0 ≡ number_of p numbers s) → IsPartition (length values) r → SameTogether values r → IsJoin p q r
tied_is_join p q numbers values r lengths ties size values_are lawful same = record {
  lawful = IsPartition-of size lawful;
  together = λ s t. (
    (λ held.
        let was = (same s t).1 held in
        let in_s : s < length p = omega (arith, was.0) in
        let in_t : t < length p = omega (arith, was.1) in
        (ties.tied s t in_s in_t).0 (sym (values_are s in_s) ∙ was.2 ∙ values_are t in_t)),
    (λ chain.
        let in_s : s < length p = chain.0 in
        let in_t : t < length p = chain_within p q s t lengths chain in
        (same s t).0 (omega arith, omega arith, values_are s in_s ∙ (ties.tied s t in_s in_t).1 chain ∙ sym (values_are t in_t))),
  );
}
