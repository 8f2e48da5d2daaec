-- What an insertion leaves of an ascending list.
use Rattle.std.proofs.Common.{◌≡◌, ℕ, ◌+◌, ◌-◌, ◌<◌, ◌≤◌, inl, inr, List, length, get_or, AllPairs, Any, ◌∙◌, ap, arith}
use Rattle.std.specs.List.{insert}
use Rattle.std.proofs.lemmas.Bool.{cases_lt}
use Rattle.std.proofs.lemmas.List.Edits.{length-insert, get_or-insert_below, get_or-insert_at, get_or-insert_above}
use Rattle.hs_lattice.specs.Places.{IsInsertionPlace}

-- where an element of the longer list comes from
pub data Source {X : Type 0} (xs : List X) (i : ℕ) (y : X) (k : ℕ) : Type 0 where
  Below : k < i → ((d : X) → get_or (insert xs i y) k d ≡ get_or xs k d) → Source xs i y k
  Here : k ≡ i → ((d : X) → get_or (insert xs i y) k d ≡ y) → Source xs i y k
  Above : (j : ℕ) → k ≡ j + 1 → i ≤ j → ((d : X) → get_or (insert xs i y) k d ≡ get_or xs j d) → Source xs i y k

pub source_of : {X : Type 0} (xs : List X) (i : ℕ) (y : X) (k : ℕ) → i ≤ length xs → Source xs i y k
source_of {X} xs i y k within =
    elim (cases_lt k i) [
      | inl lt ↦ Below lt (λ d. get_or-insert_below xs i y d k lt within)
      | inr ge ↦ elim (cases_lt i k) [
        | inl gt ↦
            let up : k ≡ (k - 1) + 1 = omega arith in
            let read : (d : X) → get_or (insert xs i y) k d ≡ get_or xs (k - 1) d =
            λ d. ap (λ m. get_or (insert xs i y) m d) up ∙ get_or-insert_above xs i y d (k - 1) (omega arith) within in
            Above (k - 1) up (omega arith) read
        | inr le ↦
            let same : k ≡ i = omega arith in
            Here same (λ d. ap (λ m. get_or (insert xs i y) m d) same ∙ get_or-insert_at xs i y d within)
      ]
    ]

-- an insertion at the item's place keeps a list ascending
pub AllPairs-insert : {X : Type 0} (R : X → X → Type 0) (xs : List X) (i : ℕ) (y : X) → AllPairs R xs → IsInsertionPlace R xs y i → AllPairs R (insert xs i y)
AllPairs-insert {X} R xs i y pairs gap a b d lt within =
    let n : length (insert xs i y) ≡ length xs + 1 = length-insert xs i y gap.within in
    let inside : b < length xs + 1 = omega (arith, n) in
    elim (source_of xs i y b gap.within) [
      | Below low rb ↦
          let ra : get_or (insert xs i y) a d ≡ get_or xs a d = get_or-insert_below xs i y d a (omega arith) gap.within in
          rw (ra, rb d) (pairs a b d lt (omega (arith, gap.within)))
      | Here at rb ↦
          let ra : get_or (insert xs i y) a d ≡ get_or xs a d = get_or-insert_below xs i y d a (omega arith) gap.within in
          rw (ra, rb d) (gap.below a d (omega arith))
      | Above j up le rb ↦ elim (source_of xs i y a gap.within) [
        | Below low ra ↦ rw (ra d, rb d) (pairs a j d (omega arith) (omega arith))
        | Here at ra ↦ rw (ra d, rb d) (gap.above j d le (omega arith))
        | Above j' up' le' ra ↦ rw (ra d, rb d) (pairs j' j d (omega arith) (omega arith))
      ]
    ]

-- what some element of the list has, some element of the longer one has
pub Any-insert_kept : {X : Type 0} (P : X → Type 0) (xs : List X) (i : ℕ) (y : X) → i ≤ length xs → Any P xs → Any P (insert xs i y)
Any-insert_kept P xs i y within (k, x, lt, read, p) =
    let n : length (insert xs i y) ≡ length xs + 1 = length-insert xs i y within in
    elim (cases_lt k i) [
      | inl low ↦ (k, x, omega (arith, n), get_or-insert_below xs i y x k low within ∙ read, p)
      | inr ge ↦ (k + 1, x, omega (arith, n), get_or-insert_above xs i y x k ge within ∙ read, p)
    ]

-- what the inserted element has
pub Any-insert_new : {X : Type 0} (P : X → Type 0) (xs : List X) (i : ℕ) (y : X) → i ≤ length xs → P y → Any P (insert xs i y)
Any-insert_new P xs i y within p =
    let n : length (insert xs i y) ≡ length xs + 1 = length-insert xs i y within in
    (i, y, omega (arith, n), get_or-insert_at xs i y y within, p)
