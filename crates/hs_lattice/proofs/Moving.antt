-- Items moved into a given order: each step moves one of them to where it stays.
use Rattle.std.proofs.Common.{◌≡◌, ◌≢◌, ℕ, ◌+◌, ◌<◌, ◌≤◌, inl, inr, List, ◌∷◌, [], ◌++◌, length, get_or, set, All, AllPairs, sym, ◌∙◌, refl, ap, arith}
use Rattle.std.specs.List.{swap}
use Rattle.std.proofs.lemmas.Bool.{cases_lt, cases_eq}
use Rattle.std.proofs.lemmas.List.{get_or_default, get_or-set_same, get_or-set_other, get_or_append_left, get_or_push, length_push, length-set}
use Rattle.std.proofs.lemmas.List.Edits.{length-swap, swapped_from_swap}
use Rattle.hs_lattice.specs.Inner.Arrangement.{AreNumbers, IsArranged}

pub numbers_none : AreNumbers 0 []
numbers_none = record { size = refl; each = λ i lt. absurd (omega arith) }

pub numbers_more : (count : ℕ) (numbers : List ℕ) → AreNumbers count numbers → AreNumbers (count + 1) (numbers ++ count ∷ [])
numbers_more count numbers are = record {
  size = length_push numbers count ∙ ap (λ n. n + 1) are.size;
  each = λ i lt.
      elim (cases_lt i count) [
        | inl low ↦ get_or_append_left numbers (count ∷ []) 0 i (omega (arith, are.size)) ∙ are.each i low
        | inr ge ↦ let last : count ≡ i = omega arith in get_or_push numbers count 0 i (are.size ∙ last) ∙ last
      ];
}

-- At the first places stand the items that are to stand there. Which one of the items stands at a later place, and
-- where each of those that are left stands, the numbers say.
pub record IsArranging {X : Type 0} (items : List X) (order : List ℕ) (count : ℕ) (now : List X) (standing places : List ℕ) : Type 0 where
  pub arranged : IsArranged items order count now
  pub all_standing : length standing ≡ length items
  pub all_places : length places ≡ length items
  pub here : (p : ℕ) → count ≤ p → p < length items → (get_or standing p 0 < length items) × (get_or places (get_or standing p 0) 0 ≡ p)
  pub item : (p : ℕ) (d : X) → count ≤ p → p < length items → get_or now p d ≡ get_or items (get_or standing p 0) d
  pub there : (q : ℕ) → count ≤ q → q < length order →
      (count ≤ get_or places (get_or order q 0) 0) × (get_or places (get_or order q 0) 0 < length items) × (get_or standing (get_or places (get_or order q 0) 0) 0 ≡ get_or order q 0)

pub arranging_none :
    {X : Type 0} (items : List X) (order standing places : List ℕ) → All (λ i. i < length items) order →
    AreNumbers (length items) standing → AreNumbers (length items) places → IsArranging items order 0 items standing places
arranging_none {X} items order standing places within stand place = record {
  arranged = record { size = refl; each = λ i d lt. absurd (omega arith) };
  all_standing = stand.size;
  all_places = place.size;
  here = λ p from lt. rw (stand.each p lt) (lt, place.each p lt);
  item = λ p d from lt. rw (stand.each p lt) refl;
  there = λ q from lt. let inside : get_or order q 0 < length items = within q 0 lt in rw (place.each (get_or order q 0) inside) (omega arith, inside, stand.each (get_or order q 0) inside);
}

-- two items change places, and the one that is wanted stands where it is to stand
pub arranging_more :
    {X : Type 0} (items : List X) (order : List ℕ) (i : ℕ) (now new : List X) (standing places : List ℕ) → length order ≡ length items →
    AllPairs (λ a b. a ≢ b) order → IsArranging items order i now standing places → i < length order →
    new ≡ swap now i (get_or places (get_or order i 0) 0) →
    IsArranging items order (i + 1) new (set standing (get_or places (get_or order i 0) 0) (get_or standing i 0)) (set places (get_or standing i 0) (get_or places (get_or order i 0) 0))
arranging_more {X} items order i now new standing places size once before within swapped =
    let wanted : ℕ = get_or order i 0 in
    let from : ℕ = get_or places wanted 0 in
    let other : ℕ = get_or standing i 0 in
    let at : (i ≤ from) × (from < length items) × (get_or standing from 0 ≡ wanted) = before.there i (omega arith) within in
    let stood : (other < length items) × (get_or places other 0 ≡ i) = before.here i (omega arith) (omega (arith, size)) in
    let moves = λ (d : X). swapped_from_swap now new i from d (omega (arith, size, before.arranged.size)) (omega (arith, at.1, before.arranged.size)) swapped in
    let standing_from : get_or (set standing from other) from 0 ≡ other = get_or-set_same standing from other 0 (omega (arith, at.1, before.all_standing)) in
    let places_other : get_or (set places other from) other 0 ≡ from = get_or-set_same places other from 0 (omega (arith, stood.0, before.all_places)) in
    record {
      arranged = record {
        size = ap length swapped ∙ (length-swap now i from ∙ before.arranged.size);
        each = λ q d lt.
            elim (cases_eq q i) [
              | inl here ↦ ap (λ k. get_or new k d) here ∙ ((moves d).0 ∙ (before.item from d at.0 at.1 ∙ (ap (λ k. get_or items k d) at.2 ∙ ap (λ k. get_or items (get_or order k 0) d) (sym here))))
              | inr low ↦ (moves d).2 q low (λ same. absurd (omega (arith, at.0))) ∙ before.arranged.each q d (omega arith)
            ];
      };
      all_standing = length-set standing from other ∙ before.all_standing;
      all_places = length-set places other from ∙ before.all_places;
      here = λ p low lt.
          elim (cases_eq p from) [
            | inl same ↦ rw (same, standing_from) (stood.0, places_other)
            | inr apart ↦
                let held : (get_or standing p 0 < length items) × (get_or places (get_or standing p 0) 0 ≡ p) = before.here p (omega arith) lt in
                let kept : get_or standing p 0 ≢ other = λ same. absurd (omega (arith, held.1, stood.1, ap (λ k. get_or places k 0) same)) in
                rw (get_or-set_other standing from p other 0 apart, get_or-set_other places other (get_or standing p 0) from 0 kept) held
          ];
      item = λ p d low lt.
          elim (cases_eq p from) [
            | inl same ↦ rw (same, standing_from) ((moves d).1 ∙ before.item i d (omega arith) (omega (arith, size)))
            | inr apart ↦
                rw (get_or-set_other standing from p other 0 apart) ((moves d).2 p (λ same. absurd (omega arith)) apart ∙ before.item p d (omega arith) lt)
          ];
      there = λ q low lt.
          let a : ℕ = get_or places (get_or order q 0) 0 in
          let stands : (i ≤ a) × (a < length items) × (get_or standing a 0 ≡ get_or order q 0) = before.there q (omega arith) lt in
          let differs : wanted ≢ get_or order q 0 = once i q 0 (omega arith) lt in
          elim (cases_eq (get_or order q 0) other) [
            | inl same ↦
                let later : from ≢ i = λ equal. differs (sym at.2 ∙ (ap (λ k. get_or standing k 0) equal ∙ sym same)) in
                rw (same, places_other, standing_from) (omega (arith, at.0), at.1, refl)
            | inr apart ↦
                let later : a ≢ i = λ equal. apart (sym stands.2 ∙ ap (λ k. get_or standing k 0) equal) in
                let elsewhere : a ≢ from = λ equal. differs (sym at.2 ∙ (ap (λ k. get_or standing k 0) (sym equal) ∙ stands.2)) in
                rw (get_or-set_other places other (get_or order q 0) from 0 apart, get_or-set_other standing from a other 0 elsewhere) (omega (arith, stands.0), stands.1, stands.2)
          ];
    }

-- the same, of the numbers as they are read
pub arranging_read :
    {X : Type 0} (items : List X) (order : List ℕ) (i from other : ℕ) (now new : List X) (standing places : List ℕ) → length order ≡ length items →
    All (λ k. k < length items) order → AllPairs (λ a b. a ≢ b) order → IsArranging items order i now standing places → i < length order →
    from ≡ get_or places (get_or order i 0) from → other ≡ get_or standing i other → new ≡ swap now i from →
    IsArranging items order (i + 1) new (set standing from other) (set places other from)
arranging_read items order i from other now new standing places size inside once before within from_is other_is swapped =
    let wanted : get_or order i 0 < length places = omega (arith, inside i 0 within, before.all_places) in
    let read_from : get_or places (get_or order i 0) 0 ≡ from = get_or_default places (get_or order i 0) 0 from wanted ∙ sym from_is in
    let read_other : get_or standing i 0 ≡ other = get_or_default standing i 0 other (omega (arith, size, before.all_standing)) ∙ sym other_is in
    rw (read_from, read_other) at (arranging_more items order i now new standing places size once before within (rw (← read_from) at swapped))

-- the place of the item that is to stand next, and the item that stands there, are among the items
pub from_within :
    {X : Type 0} (items : List X) (order : List ℕ) (i from : ℕ) (now : List X) (standing places : List ℕ) → All (λ k. k < length items) order →
    IsArranging items order i now standing places → i < length order → from ≡ get_or places (get_or order i 0) from → from < length items
from_within items order i from now standing places inside before within from_is =
    let wanted : get_or order i 0 < length places = omega (arith, inside i 0 within, before.all_places) in
    let read_from : get_or places (get_or order i 0) 0 ≡ from = get_or_default places (get_or order i 0) 0 from wanted ∙ sym from_is in
    rw read_from at (before.there i (omega arith) within).1

pub other_within :
    {X : Type 0} (items : List X) (order : List ℕ) (i other : ℕ) (now : List X) (standing places : List ℕ) →
    IsArranging items order i now standing places → i < length items → other ≡ get_or standing i other → other < length items
other_within items order i other now standing places before within other_is =
    let read_other : get_or standing i 0 ≡ other = get_or_default standing i 0 other (omega (arith, before.all_standing)) ∙ sym other_is in
    rw read_other at (before.here i (omega arith) within).0
