-- How blocks are numbered inside the blocks of another partition.
use Rattle.std.proofs.Common.{◌≡◌, ◌≢◌, ℕ, ◌+◌, ◌<◌, ◌≤◌, ◌==◌, ◌&&◌, Bool, cond, max, List, [], ◌∷◌, ◌++◌, length, get_or, set, take, refl, sym, ap, ◌∙◌, subst, inl, inr, arith, add-one}
use Rattle.std.proofs.lemmas.Bool.{cases_eq, eq-eqb, ne_eqb}
use Rattle.std.proofs.lemmas.List.{length_push, get_or_append_left, get_or_push, get_or-set_same, get_or-set_other, length-set}
use Rattle.partition.specs.Partition.{blocks_of, IsNumbered, IsPartition, Le}
use Rattle.partition.specs.NestedBlocks.{least_of, blocks_below, IsInside}
use Rattle.partition.specs.Laws.Least.{least_of-first, least_of-le, least_of-same}
use Rattle.partition.specs.Laws.Labels.{blocks_of-push, blocks_of-take-more, label-lt-blocks_of, label-lt-blocks_of-take, block_stands, label-le, blocks_of-le, IsNumbered-none, IsNumbered-push}

-- one state more, which is the least of its block of q
pub blocks_below-least : (p q : List ℕ) (block k : ℕ) → least_of q k ≡ k → blocks_below p q block (k + 1) ≡ blocks_below p q block k + cond (get_or p k 0 == block) 1 0
blocks_below-least p q block k least = subst (λ (n : ℕ). blocks_below p q block n ≡ blocks_below p q block k + cond (get_or p k 0 == block) 1 0) (sym (add-one k)) (ap (λ (b : Bool). blocks_below p q block k + cond (b && (get_or p k 0 == block)) 1 0) (eq-eqb (least_of q k) k least))

-- one state more, which is not
pub blocks_below-other : (p q : List ℕ) (block k : ℕ) → least_of q k ≢ k → blocks_below p q block (k + 1) ≡ blocks_below p q block k
blocks_below-other p q block k other = subst (λ (n : ℕ). blocks_below p q block n ≡ blocks_below p q block k) (sym (add-one k)) (ap (λ (b : Bool). blocks_below p q block k + cond (b && (get_or p k 0 == block)) 1 0) (ne_eqb (least_of q k) k other) ∙ omega arith)

-- the number that a state is to have
abbrev pub number_in : List ℕ → List ℕ → ℕ → ℕ
number_in p q s = blocks_below p q (get_or p s 0) (least_of q s)

-- After the first s states: how many blocks of q began in each block of p, and the numbers so far.
pub record IsNesting (p q counts inner : List ℕ) (found : ℕ) (labels : List ℕ) (blocks s : ℕ) : Type 0 where
  pub count : found ≡ blocks_of (take s q)
  pub counts_room : length counts ≡ 256
  pub inner_room : length inner ≡ 256
  pub began : (block : ℕ) → block < 256 → get_or counts block 0 ≡ blocks_below p q block s
  pub few : (block : ℕ) → block < 256 → get_or counts block 0 ≤ blocks_of labels
  pub given : (t : ℕ) → t < s → get_or inner (get_or q t 0) 0 ≡ number_in p q t
  pub size : length labels ≡ s
  pub numbers : (t : ℕ) → t < s → get_or labels t 0 ≡ number_in p q t
  pub numbered : IsNumbered labels
  pub total : blocks ≡ blocks_of labels

pub nesting_none : (p q counts inner : List ℕ) → length counts ≡ 256 → length inner ≡ 256 → ((block : ℕ) → block < 256 → get_or counts block 0 ≡ 0) → IsNesting p q counts inner 0 [] 0 0
nesting_none p q counts inner counts_room inner_room empty = record {
  count = refl;
  counts_room = counts_room;
  inner_room = inner_room;
  began = empty;
  few = λ block within. omega (arith, empty block within);
  given = λ t within. absurd (omega arith);
  size = refl;
  numbers = λ t within. absurd (omega arith);
  numbered = IsNumbered-none;
  total = refl;
}

-- the numbers so far and one more
numbers_push : (p q labels : List ℕ) (s x : ℕ) → length labels ≡ s → ((t : ℕ) → t < s → get_or labels t 0 ≡ number_in p q t) → x ≡ number_in p q s → (t : ℕ) → t < s + 1 → get_or (labels ++ x ∷ []) t 0 ≡ number_in p q t
numbers_push p q labels s x size numbers here t within =
    elim (cases_eq t s) [
      | inl at ↦ get_or_push labels x 0 t (size ∙ sym at) ∙ here ∙ ap (number_in p q) (sym at)
      | inr other ↦ get_or_append_left labels (x ∷ []) 0 t (omega arith) ∙ numbers t (omega arith)
    ]

-- state s begins a block of q, which gets the count of its block of p
pub nesting_new : (p q counts inner : List ℕ) (found : ℕ) (labels : List ℕ) (blocks s : ℕ) → IsPartition (length p) p → IsPartition (length p) q → s < length p → IsNesting p q counts inner found labels blocks s → get_or q s 0 ≡ found
    → IsNesting p q (set counts (get_or p s 0) (get_or counts (get_or p s 0) 0 + 1)) (set inner (get_or q s 0) (get_or counts (get_or p s 0) 0)) (found + 1) (labels ++ get_or counts (get_or p s 0) 0 ∷ []) (max blocks (get_or counts (get_or p s 0) 0 + 1)) (s + 1)
nesting_new p q counts inner found labels blocks s lawful_p lawful_q within so_far new = record {
  count = omega (arith, blocks_of-take-more q s in_q, so_far.count, new);
  counts_room = length-set counts outer (x + 1) ∙ so_far.counts_room;
  inner_room = length-set inner block x ∙ so_far.inner_room;
  began = λ b in_b. elim (cases_eq b outer) [
    | inl at ↦ subst (λ (k : ℕ). get_or (set counts outer (x + 1)) k 0 ≡ blocks_below p q k (s + 1)) (sym at) (get_or-set_same counts outer (x + 1) 0 outer_room ∙ ap (λ (n : ℕ). n + 1) (so_far.began outer (omega (arith, outer_room, so_far.counts_room))) ∙ sym (blocks_below-least p q outer s least ∙ ap (λ (b : Bool). blocks_below p q outer s + cond b 1 0) (eq-eqb outer outer refl)))
    | inr other ↦ get_or-set_other counts outer b (x + 1) 0 other ∙ so_far.began b in_b ∙ sym (blocks_below-least p q b s least ∙ ap (λ (c : Bool). blocks_below p q b s + cond c 1 0) (ne_eqb outer b (λ e. other (sym e))) ∙ omega arith)
  ];
  few = λ b in_b. elim (cases_eq b outer) [
    | inl at ↦ omega (arith, ap (λ (k : ℕ). get_or (set counts outer (x + 1)) k 0) at, get_or-set_same counts outer (x + 1) 0 outer_room, blocks_of-push labels x)
    | inr other ↦ omega (arith, get_or-set_other counts outer b (x + 1) 0 other, so_far.few b in_b, blocks_of-push labels x)
  ];
  given = λ t below. elim (cases_eq t s) [
    | inl at ↦ subst (λ (k : ℕ). get_or (set inner block x) (get_or q k 0) 0 ≡ number_in p q k) (sym at) (get_or-set_same inner block x 0 block_room ∙ here)
    | inr other ↦ let earlier : t < s = omega arith in
        get_or-set_other inner block (get_or q t 0) x 0 (λ same. let low : get_or q t 0 < blocks_of (take s q) = label-lt-blocks_of-take q t s earlier (omega arith) in absurd (omega (arith, same, new, so_far.count))) ∙ so_far.given t earlier
  ];
  size = length_push labels x ∙ ap (λ (n : ℕ). n + 1) so_far.size;
  numbers = numbers_push p q labels s x so_far.size so_far.numbers here;
  numbered = IsNumbered-push labels x so_far.numbered (so_far.few outer (omega (arith, outer_room, so_far.counts_room)));
  total = omega (arith, so_far.total, blocks_of-push labels x);
}
  where
    outer : ℕ
    outer = get_or p s 0

    block : ℕ
    block = get_or q s 0

    x : ℕ
    x = get_or counts (get_or p s 0) 0

    in_q : s < length q
    in_q = omega (arith, lawful_q.length)

    outer_room : outer < length counts
    outer_room = omega (arith, label-le p lawful_p.numbered s within, lawful_p.count.1, so_far.counts_room)

    block_room : block < length inner
    block_room = omega (arith, label-le q lawful_q.numbered s in_q, lawful_p.count.1, so_far.inner_room)

    least : least_of q s ≡ s
    least = least_of-first q s in_q (λ t below same. let low : get_or q t 0 < blocks_of (take s q) = label-lt-blocks_of-take q t s below (omega arith) in absurd (omega (arith, same, new, so_far.count)))

    here : x ≡ number_in p q s
    here = so_far.began outer (omega (arith, outer_room, so_far.counts_room)) ∙ ap (blocks_below p q outer) (sym least)

-- state s lies in a block of q that came, and gets its number
pub nesting_old : (p q counts inner : List ℕ) (found : ℕ) (labels : List ℕ) (blocks s : ℕ) → IsPartition (length p) q → Le q p → s < length p → IsNesting p q counts inner found labels blocks s → get_or q s 0 ≢ found
    → IsNesting p q counts inner found (labels ++ get_or inner (get_or q s 0) 0 ∷ []) (max blocks (get_or inner (get_or q s 0) 0 + 1)) (s + 1)
nesting_old p q counts inner found labels blocks s lawful_q le within so_far old =
    let in_q : s < length q = omega (arith, lawful_q.length) in
    let came = block_stands q lawful_q.numbered s (omega arith) (get_or q s 0) (omega (arith, lawful_q.numbered s in_q, so_far.count)) in
    old_at p q counts inner found labels blocks s came.0 lawful_q le within so_far old came.1 came.2
  where
    old_at : (p q counts inner : List ℕ) (found : ℕ) (labels : List ℕ) (blocks s t : ℕ) → IsPartition (length p) q → Le q p → s < length p → IsNesting p q counts inner found labels blocks s → get_or q s 0 ≢ found → t < s → get_or q t 0 ≡ get_or q s 0
        → IsNesting p q counts inner found (labels ++ get_or inner (get_or q s 0) 0 ∷ []) (max blocks (get_or inner (get_or q s 0) 0 + 1)) (s + 1)
    old_at p q counts inner found labels blocks s t lawful_q le within so_far old before same =
        let x : ℕ = get_or inner (get_or q s 0) 0 in
        let in_q : s < length q = omega (arith, lawful_q.length) in
        let as_before : number_in p q t ≡ number_in p q s = ap (λ (b : ℕ). blocks_below p q b (least_of q t)) (le t s (omega arith, in_q, same)).2 ∙ ap (blocks_below p q (get_or p s 0)) (least_of-same q t s same) in
        let known : x ≡ number_in p q t = ap (λ (b : ℕ). get_or inner b 0) (sym same) ∙ so_far.given t before in
        let low : x < blocks_of labels = omega (arith, known, so_far.numbers t before, label-lt-blocks_of labels t (omega (arith, so_far.size))) in
        let later : least_of q s ≢ s = λ at. absurd (omega (arith, least_of-le q s t same)) in
        record {
          count = omega (arith, blocks_of-take-more q s in_q, so_far.count, lawful_q.numbered s in_q);
          counts_room = so_far.counts_room;
          inner_room = so_far.inner_room;
          began = λ b in_b. so_far.began b in_b ∙ sym (blocks_below-other p q b s later);
          few = λ b in_b. omega (arith, so_far.few b in_b, blocks_of-push labels x);
          given = λ u below. elim (cases_eq u s) [
            | inl at ↦ subst (λ (k : ℕ). get_or inner (get_or q k 0) 0 ≡ number_in p q k) (sym at) (known ∙ as_before)
            | inr other ↦ so_far.given u (omega arith)
          ];
          size = length_push labels x ∙ ap (λ (n : ℕ). n + 1) so_far.size;
          numbers = numbers_push p q labels s x so_far.size so_far.numbers (known ∙ as_before);
          numbered = IsNumbered-push labels x so_far.numbered (omega arith);
          total = omega (arith, so_far.total, blocks_of-push labels x);
        }

pub nesting_all : (p q counts inner : List ℕ) (found : ℕ) (labels : List ℕ) (blocks : ℕ) → IsPartition (length p) p → IsNesting p q counts inner found labels blocks (length p) → IsInside p q labels
nesting_all p q counts inner found labels blocks lawful all = record {
  lawful = record { count = lawful.count; length = all.size; numbered = all.numbered };
  numbers = all.numbers;
}

-- the counts fit
pub counts_small : (p q counts inner : List ℕ) (found : ℕ) (labels : List ℕ) (blocks s block : ℕ) → block < 256 → IsNesting p q counts inner found labels blocks s → get_or counts block 0 ≤ s
counts_small p q counts inner found labels blocks s block within so_far =
    omega (arith, so_far.few block within, blocks_of-le labels so_far.numbered, so_far.size)
