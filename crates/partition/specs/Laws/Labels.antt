-- Labels by first appearance: each number below the number of blocks is a label, and two such lists with the same
-- states together are equal.
use Rattle.std.proofs.Common.{◌≡◌, ℕ, suc, zero, ◌+◌, ◌<◌, ◌≤◌, ◌⊎◌, inl, inr, max, List, [], ◌∷◌, ◌++◌, length, take, get_or, refl, sym, ap, ◌∙◌, subst, arith, add-one}
use Rattle.std.proofs.lemmas.List.{take_more, length-take-le, get_or-take, take_all, take_more_same, length_push, get_or_append_left, take-append-le, get_or_push, take_at}
use Rattle.std.proofs.lemmas.List.Recursion.{max_bounds, max_push}
use Rattle.std.proofs.lemmas.Bool.{cases_eq, cases_lt}
use Rattle.partition.specs.Partition.{blocks_of, IsNumbered, IsPartition, SameTogether}

pub blocks_of-push : (xs : List ℕ) (x : ℕ) → blocks_of (xs ++ x ∷ []) ≡ max (blocks_of xs) (x + 1)
blocks_of-push xs x = max_push blocks_of (λ label. label + 1) refl (λ _ _. refl) xs x

-- each label is below the number of blocks
pub label-lt-blocks_of : (xs : List ℕ) (s : ℕ) → s < length xs → get_or xs s 0 < blocks_of xs
label-lt-blocks_of xs s within =
    omega (arith, max_bounds blocks_of (λ label. label + 1) refl (λ _ _. refl) xs s 0 within)

pub blocks_of-take-more : (xs : List ℕ) (s : ℕ) → s < length xs → blocks_of (take (s + 1) xs) ≡ max (blocks_of (take s xs)) (get_or xs s 0 + 1)
blocks_of-take-more xs s within = ap blocks_of (take_more xs s 0 within) ∙ blocks_of-push (take s xs) (get_or xs s 0)

pub blocks_of-take-suc : (xs : List ℕ) (s : ℕ) → s < length xs → blocks_of (take (suc s) xs) ≡ max (blocks_of (take s xs)) (get_or xs s 0 + 1)
blocks_of-take-suc xs s within =
    subst (λ (k : ℕ). blocks_of (take k xs) ≡ max (blocks_of (take s xs)) (get_or xs s 0 + 1)) (add-one s) (blocks_of-take-more xs s within)

-- each of the first s labels is below the number of their blocks
pub label-lt-blocks_of-take : (xs : List ℕ) (t s : ℕ) → t < s → s ≤ length xs → get_or xs t 0 < blocks_of (take s xs)
label-lt-blocks_of-take xs t s below within =
    omega (arith, label-lt-blocks_of (take s xs) t (omega (arith, length-take-le s xs within)), get_or-take s xs t 0 below)

-- the first s states are in at most s blocks
pub blocks_of-take-le : (xs : List ℕ) → IsNumbered xs → (s : ℕ) → s ≤ length xs → blocks_of (take s xs) ≤ s
blocks_of-take-le xs numbered zero within = omega arith
blocks_of-take-le xs numbered (suc s) within =
    omega (arith, blocks_of-take-suc xs s (omega arith), blocks_of-take-le xs numbered s (omega arith), numbered s (omega arith))

-- each label is at most its state
pub label-le : (xs : List ℕ) → IsNumbered xs → (s : ℕ) → s < length xs → get_or xs s 0 ≤ s
label-le xs numbered s within = omega (arith, numbered s within, blocks_of-take-le xs numbered s (omega arith))

-- there are at most as many blocks as states
pub blocks_of-le : (xs : List ℕ) → IsNumbered xs → blocks_of xs ≤ length xs
blocks_of-le xs numbered =
    subst (λ (ys : List ℕ). blocks_of ys ≤ length xs) (take_all (length xs) xs (omega arith)) (blocks_of-take-le xs numbered (length xs) (omega arith))

-- each number below the number of blocks of the first s states is the label of one of them
pub block_stands : (xs : List ℕ) → IsNumbered xs → (s : ℕ) → s ≤ length xs → (block : ℕ) → block < blocks_of (take s xs) → (t : ℕ) × (t < s) × (get_or xs t 0 ≡ block)
block_stands xs numbered zero within block below = absurd (omega arith)
block_stands xs numbered (suc s) within block below =
    elim (cases_lt block (blocks_of (take s xs))) [
      | inl old ↦ let earlier = block_stands xs numbered s (omega arith) block old in (earlier.0, omega arith, earlier.2)
      | inr new ↦ (s, omega arith, omega (arith, numbered s (omega arith), blocks_of-take-suc xs s (omega arith)))
    ]

-- two states of lists of one length have equal labels in the one list exactly where they have in the other
abbrev Agree : List ℕ → List ℕ → Type 0
Agree p q = (s t : ℕ) → s < length p → t < length p → (get_or p s 0 ≡ get_or p t 0 → get_or q s 0 ≡ get_or q t 0) × (get_or q s 0 ≡ get_or q t 0 → get_or p s 0 ≡ get_or p t 0)

-- a label that no earlier state has is the number of blocks so far
pub new_label : (p : List ℕ) → IsNumbered p → (s : ℕ) → s < length p → ((t : ℕ) → t < s → get_or p t 0 ≡ get_or p s 0 → ⊥) → get_or p s 0 ≡ blocks_of (take s p)
new_label p numbered s within new =
    elim (cases_lt (get_or p s 0) (blocks_of (take s p))) [
      | inl old ↦ let earlier = block_stands p numbered s (omega arith) (get_or p s 0) old in absurd (new earlier.0 earlier.1 earlier.2)
      | inr high ↦ omega (arith, numbered s within)
    ]

-- a state before s with this label, or none
seen_before : (p : List ℕ) (label s : ℕ) → ((t : ℕ) × (t < s) × (get_or p t 0 ≡ label)) ⊎ ((t : ℕ) → t < s → get_or p t 0 ≡ label → ⊥)
seen_before p label zero = inr (λ t below same. absurd (omega arith))
seen_before p label (suc s) =
    elim (cases_eq (get_or p s 0) label) [
      | inl here ↦ inl (s, omega arith, here)
      | inr other ↦ elim (seen_before p label s) [
        | inl earlier ↦ inl (earlier.0, omega arith, earlier.2)
        | inr none ↦ inr (λ t below same. elim (cases_eq t s) [
          | inl at ↦ other (subst (λ (u : ℕ). get_or p u 0 ≡ label) at same)
          | inr apart ↦ none t (omega arith) same
        ])
      ]
    ]

-- the first s labels are the same in both
same_front : (p q : List ℕ) → IsNumbered p → IsNumbered q → length p ≡ length q → Agree p q → (s : ℕ) → s ≤ length p → take s p ≡ take s q
same_front p q lawful_p lawful_q lengths agree zero within = refl
same_front p q lawful_p lawful_q lengths agree (suc s) within =
    let front : take s p ≡ take s q = same_front p q lawful_p lawful_q lengths agree s (omega arith) in
    let earlier : (t : ℕ) → t < s → get_or p t 0 ≡ get_or q t 0 = λ t below. sym (get_or-take s p t 0 below) ∙ ap (λ (xs : List ℕ). get_or xs t 0) front ∙ get_or-take s q t 0 below in
    let here : get_or p s 0 ≡ get_or q s 0 = elim (seen_before p (get_or p s 0) s) [
      | inl seen ↦ sym seen.2 ∙ earlier seen.0 seen.1 ∙ (agree seen.0 s (omega arith) (omega arith)).0 seen.2
      | inr new ↦ new_label p lawful_p s (omega arith) new ∙ ap blocks_of front ∙ sym (new_label q lawful_q s (omega arith) (λ t below same. new t below ((agree t s (omega arith) (omega arith)).1 same)))
    ] in
    subst (λ (k : ℕ). take k p ≡ take k q) (add-one s) (take_more_same p q s 0 (omega arith) (omega arith) front here)

-- Labels are canonical: two partitions with the same states together are the same list.
pub same_labels : (p q : List ℕ) → IsNumbered p → IsNumbered q → length p ≡ length q → SameTogether p q → p ≡ q
same_labels p q lawful_p lawful_q lengths same =
    let agree : Agree p q = λ s t in_s in_t. ((λ e. ((same s t).0 (in_s, in_t, e)).2), (λ e. ((same s t).1 (omega arith, omega arith, e)).2)) in
    sym (take_all (length p) p (omega arith)) ∙ same_front p q lawful_p lawful_q lengths agree (length p) (omega arith) ∙ take_all (length p) q (omega arith)

-- the number of states of a partition may be written in another way
pub IsPartition-of : {m n : ℕ} {p : List ℕ} → m ≡ n → IsPartition m p → IsPartition n p
IsPartition-of {m} {n} {p} e lawful = subst (λ (k : ℕ). IsPartition k p) e lawful

pub IsNumbered-none : IsNumbered []
IsNumbered-none s within = absurd (omega arith)

-- one more label that is at most the number of blocks so far keeps the numbering
pub IsNumbered-push : (p : List ℕ) (label : ℕ) → IsNumbered p → label ≤ blocks_of p → IsNumbered (p ++ label ∷ [])
IsNumbered-push p label numbered small s within =
    let shorter : s < length p + 1 = omega (arith, length_push p label) in
    elim (cases_lt s (length p)) [
      | inl inside ↦ omega (arith, numbered s inside, get_or_append_left p (label ∷ []) 0 s inside, ap blocks_of (take-append-le s p (label ∷ []) (omega arith)))
      | inr end ↦ let at : length p ≡ s = omega arith in
          omega (arith, small, get_or_push p label 0 s at, ap blocks_of (take_at p (label ∷ []) s at))
    ]
