-- Collections: halving the ordered places, what an addition leaves, and the items in ascending order.
use Rattle.std.proofs.Common.{◌≡◌, ◌≢◌, ℕ, ◌+◌, ◌<◌, ◌≤◌, ◌⊎◌, ◌↔◌, inl, inr, Bool, true, false, not, Option, Some, None, IfNone, IfSome, IsTrue, is_some, List, [], ◌∷◌, ◌++◌, length, get_or, All, AllPairs, Any, Contains, subst, sym, ◌∙◌, refl, ap, arith}
use Rattle.std.specs.List.{insert}
use Rattle.std.proofs.lemmas.Bool.{cases_lt}
use Rattle.std.proofs.lemmas.List.{get_or_default, get_or_past, get_or_read, get_or_append_left, get_or_push, length_push}
use Rattle.std.proofs.lemmas.List.Edits.{length-insert}
use Rattle.std.proofs.lemmas.List.Elements.{All-push}
use Rattle.std.proofs.lemmas.List.Quantifiers.{Any-push, all_pairs_push}
use Rattle.hs_lattice.specs.Collection.{Adds, AreDifferent, IsAscending, IsOrder, Knows}
use Rattle.hs_lattice.specs.Inner.Arrangement.{IsArranged}
use Rattle.hs_lattice.specs.Places.{IsInsertionPlace}
use Rattle.hs_lattice.specs.Laws.Insert.{Below, Here, Above, source_of, AllPairs-insert, Any-insert_kept, Any-insert_new}
use Rattle.hs_lattice.proofs.Places.{Order, IsNarrowed, narrowed_above, narrowed_below, place_at}

-- a strict order of the values that fit, of two of which one stands before the other
pub record TotalOrder {M : Type 0} (fits : M → Type 0) (precedes : M → M → Type 0) : Type 0 where
  pub irreflexive : (x : M) → fits x → precedes x x → ⊥
  pub transitive : (x y z : M) → fits x → fits y → fits z → precedes x y → precedes y z → precedes x z
  pub total : (x y : M) → fits x → fits y → precedes x y ⊎ ((x ≡ y) ⊎ precedes y x)

-- what stands at the one place comes before what stands at the other, where the item stands past the last
abbrev pub ComesBefore : {X M : Type 0} → (X → M) → (M → M → Type 0) → List X → X → ℕ → ℕ → Type 0
ComesBefore meaning precedes items item i j = precedes (meaning (get_or items i item)) (meaning (get_or items j item))

abbrev FitsAt : {X M : Type 0} → (X → M) → (M → Type 0) → List X → X → ℕ → Type 0
FitsAt meaning fits items item i = fits (meaning (get_or items i item))

abbrev SameAt : {X M : Type 0} → (X → M) → List X → X → ℕ → ℕ → Type 0
SameAt meaning items item i j = meaning (get_or items i item) ≡ meaning (get_or items j item)

order_of_places :
    {X M : Type 0} (meaning : X → M) (fits : M → Type 0) (precedes : M → M → Type 0) (items : List X) (item : X) → TotalOrder fits precedes →
    Order (FitsAt meaning fits items item) (SameAt meaning items item) (ComesBefore meaning precedes items item)
order_of_places meaning fits precedes items item order = record {
  transitive = λ i j k. order.transitive (meaning (get_or items i item)) (meaning (get_or items j item)) (meaning (get_or items k item));
  total = λ i j. order.total (meaning (get_or items i item)) (meaning (get_or items j item));
}

item_past : {X : Type 0} (items : List X) (item : X) → get_or items (length items) item ≡ item
item_past items item = get_or_past items (length items) item (omega arith)

item_fits : {X M : Type 0} (meaning : X → M) (fits : M → Type 0) (items : List X) (item : X) → fits (meaning item) → FitsAt meaning fits items item (length items)
item_fits {X} meaning fits items item fit = subst (λ (x : X). fits (meaning x)) (sym (item_past items item)) fit

places_fit : {X M : Type 0} (meaning : X → M) (fits : M → Type 0) (items : List X) (order : List ℕ) (item : X) → All (λ x. fits (meaning x)) items → All (λ i. i < length items) order → All (FitsAt meaning fits items item) order
places_fit meaning fits items order item fit places k d lt = fit (get_or order k d) item (places k d lt)

place_read :
    {X : Type 0} (items : List X) (order : List ℕ) (k : ℕ) (x item : X) → All (λ i. i < length items) order → k < length order →
    x ≡ get_or items (get_or order k 0) x → (d : ℕ) → get_or items (get_or order k d) item ≡ x
place_read items order k x item places inside read d =
    ap (λ i. get_or items i item) (get_or_default order k d 0 inside) ∙ sym (get_or_read items (get_or order k 0) x (places k 0 inside) read item)

-- the item at the middle comes before the item: so do those below it
pub narrowed_up :
    {X M : Type 0} (meaning : X → M) (fits : M → Type 0) (precedes : M → M → Type 0) (items : List X) (order : List ℕ) (item x : X) (low high middle : ℕ) →
    TotalOrder fits precedes → All (λ x. fits (meaning x)) items → fits (meaning item) → IsOrder (λ x y. precedes (meaning x) (meaning y)) items order →
    IsNarrowed (ComesBefore meaning precedes items item) order (length items) low high → low ≤ middle → middle < high →
    x ≡ get_or items (get_or order middle 0) x → precedes (meaning x) (meaning item) →
    IsNarrowed (ComesBefore meaning precedes items item) order (length items) (middle + 1) high
narrowed_up {X} meaning fits precedes items order item x low high middle laws fit fits_too ordered narrowed from to read before =
    let inside : middle < length order = omega (arith, narrowed.within) in
    narrowed_above (FitsAt meaning fits items item) (SameAt meaning items item) (ComesBefore meaning precedes items item) order (length items) low high middle
    (order_of_places meaning fits precedes items item laws) (places_fit meaning fits items order item fit ordered.places) (item_fits meaning fits items item fits_too)
    (λ i j d lt in_order. ordered.ascending i j d lt in_order item) narrowed from to
    (λ d. rw (place_read items order middle x item ordered.places inside read d, item_past items item) before)

-- it does not: nor do those above it
pub narrowed_down :
    {X M : Type 0} (meaning : X → M) (fits : M → Type 0) (precedes : M → M → Type 0) (items : List X) (order : List ℕ) (item x : X) (low high middle : ℕ) →
    TotalOrder fits precedes → All (λ x. fits (meaning x)) items → fits (meaning item) → IsOrder (λ x y. precedes (meaning x) (meaning y)) items order →
    IsNarrowed (ComesBefore meaning precedes items item) order (length items) low high → low ≤ middle → middle < high →
    x ≡ get_or items (get_or order middle 0) x → (precedes (meaning x) (meaning item) → ⊥) →
    IsNarrowed (ComesBefore meaning precedes items item) order (length items) low middle
narrowed_down {X} meaning fits precedes items order item x low high middle laws fit fits_too ordered narrowed from to read not_before =
    let inside : middle < length order = omega (arith, narrowed.within) in
    narrowed_below (FitsAt meaning fits items item) (SameAt meaning items item) (ComesBefore meaning precedes items item) order (length items) low high middle
    (order_of_places meaning fits precedes items item laws) (places_fit meaning fits items order item fit ordered.places) (item_fits meaning fits items item fits_too)
    (λ i j d lt in_order. ordered.ascending i j d lt in_order item) narrowed from to
    (λ d. rw (place_read items order middle x item ordered.places inside read d, item_past items item) not_before)

-- where the two ends meet and no item of the value stands there, the item belongs there
pub place_met :
    {X M : Type 0} (meaning : X → M) (fits : M → Type 0) (precedes : M → M → Type 0) (items : List X) (order : List ℕ) (item : X) (low high : ℕ) →
    TotalOrder fits precedes → All (λ x. fits (meaning x)) items → fits (meaning item) → IsOrder (λ x y. precedes (meaning x) (meaning y)) items order →
    IsNarrowed (ComesBefore meaning precedes items item) order (length items) low high → high ≤ low →
    ((d : ℕ) → low < length order → meaning (get_or items (get_or order low d) item) ≡ meaning item → ⊥) →
    IsInsertionPlace (ComesBefore meaning precedes items item) order (length items) low
place_met {X} {M} meaning fits precedes items order item low high laws fit fits_too ordered narrowed met other =
    place_at (FitsAt meaning fits items item) (SameAt meaning items item) (ComesBefore meaning precedes items item) order (length items) low high
    (order_of_places meaning fits precedes items item laws) (places_fit meaning fits items order item fit ordered.places) (item_fits meaning fits items item fits_too)
    (λ i j d lt in_order. ordered.ascending i j d lt in_order item) narrowed met
    (λ d lt same. other d lt (same ∙ ap meaning (item_past items item)))

-- the item that was read does not stand for the item's value: so nothing at its place does
pub other_at :
    {X M : Type 0} (meaning : X → M) (items : List X) (order : List ℕ) (item x : X) (k : ℕ) → All (λ i. i < length items) order → k < length order →
    x ≡ get_or items (get_or order k 0) x → (meaning x ≡ meaning item → ⊥) → (d : ℕ) → meaning (get_or items (get_or order k d) item) ≡ meaning item → ⊥
other_at meaning items order item x k places inside read other d same =
    other (ap meaning (sym (place_read items order k x item places inside read d)) ∙ same)

-- where an item has its place, no item of its value stands
pub not_known :
    {X M : Type 0} (meaning : X → M) (fits : M → Type 0) (precedes : M → M → Type 0) (items : List X) (order : List ℕ) (item : X) (place : ℕ) →
    TotalOrder fits precedes → fits (meaning item) → IsOrder (λ x y. precedes (meaning x) (meaning y)) items order →
    IsInsertionPlace (ComesBefore meaning precedes items item) order (length items) place → Knows meaning items (meaning item) → ⊥
not_known {X} {M} meaning fits precedes items order item place laws fit ordered gap (k, x, lt, read, same) =
    let at : Contains order k = ordered.each k lt in
    let here : get_or items (get_or order at.0 k) item ≡ x = ap (λ i. get_or items i item) at.2 ∙ (get_or_default items k item x lt ∙ read) in
    elim (cases_lt at.0 place) [
      | inl low ↦
          let before : precedes (meaning x) (meaning item) = rw (here, item_past items item) at (gap.below at.0 k low) in
          laws.irreflexive (meaning item) fit (subst (λ (m : M). precedes m (meaning item)) same before)
      | inr ge ↦
          let after : precedes (meaning item) (meaning x) = rw (here, item_past items item) at (gap.above at.0 k ge at.1) in
          laws.irreflexive (meaning item) fit (subst (λ (m : M). precedes (meaning item) m) same after)
    ]

-- what stands at a place of the longer list
push_read : {X : Type 0} (items : List X) (item d : X) (i : ℕ) → i < length items + 1 → get_or (items ++ item ∷ []) i d ≡ get_or items i item
push_read items item d i inside =
    elim (cases_lt i (length items)) [
      | inl low ↦ get_or_append_left items (item ∷ []) d i low ∙ get_or_default items i d item low
      | inr ge ↦
          let last : length items ≡ i = omega arith in
          get_or_push items item d i last ∙ (sym (item_past items item) ∙ ap (λ k. get_or items k item) last)
    ]

-- the places with that of one more item
order_more :
    {X M : Type 0} (meaning : X → M) (precedes : M → M → Type 0) (items : List X) (order : List ℕ) (item : X) (place : ℕ) →
    IsOrder (λ x y. precedes (meaning x) (meaning y)) items order → IsInsertionPlace (ComesBefore meaning precedes items item) order (length items) place →
    IsOrder (λ x y. precedes (meaning x) (meaning y)) (items ++ item ∷ []) (insert order place (length items))
order_more {X} {M} meaning precedes items order item place ordered gap =
    let n : length (items ++ item ∷ []) ≡ length items + 1 = length_push items item in
    let longer : length (insert order place (length items)) ≡ length order + 1 = length-insert order place (length items) gap.within in
    let places : All (λ i. i < length (items ++ item ∷ [])) (insert order place (length items)) =
    λ k d lt.
    elim (source_of order place (length items) k gap.within) [
      | Below low r ↦ let inside : get_or order k d < length items = ordered.places k d (omega (arith, gap.within)) in rw (r d) (omega arith)
      | Here at r ↦ rw (r d) (omega arith)
      | Above j up le r ↦ let inside : get_or order j d < length items = ordered.places j d (omega arith) in rw (r d) (omega arith)
    ] in
    let each : (i : ℕ) → i < length (items ++ item ∷ []) → Contains (insert order place (length items)) i =
    λ i lt.
    elim (cases_lt i (length items)) [
      | inl low ↦
          let old : Contains order i = ordered.each i low in
          let new : Any (λ j. j ≡ i) (insert order place (length items)) = Any-insert_kept (λ j. j ≡ i) order place (length items) gap.within (old.0, i, old.1, old.2, refl) in
          (new.0, new.2, get_or_default _ new.0 i new.1 new.2 ∙ (new.3 ∙ new.4))
      | inr ge ↦
          let last : length items ≡ i = omega arith in
          let new : Any (λ j. j ≡ i) (insert order place (length items)) = Any-insert_new (λ j. j ≡ i) order place (length items) gap.within last in
          (new.0, new.2, get_or_default _ new.0 i new.1 new.2 ∙ (new.3 ∙ new.4))
    ] in
    let pairs : AllPairs (ComesBefore meaning precedes items item) (insert order place (length items)) =
    AllPairs-insert (ComesBefore meaning precedes items item) order place (length items) (λ i j d lt in_order. ordered.ascending i j d lt in_order item) gap in
    record {
      count = omega (arith, ordered.count);
      places = places;
      each = each;
      ascending = λ a b d lt inside e.
          rw (
            push_read items item e (get_or (insert order place (length items)) a d) (subst (λ m. get_or (insert order place (length items)) a d < m) n (places a d (omega arith))),
            push_read items item e (get_or (insert order place (length items)) b d) (subst (λ m. get_or (insert order place (length items)) b d < m) n (places b d inside)),
          )
          (pairs a b d lt inside);
    }

-- one more item
pub different_more :
    {X M : Type 0} (meaning : X → M) (fits : M → Type 0) (precedes : M → M → Type 0) (items : List X) (order : List ℕ) (item : X) (place : ℕ) →
    TotalOrder fits precedes → fits (meaning item) → AreDifferent meaning fits precedes items order →
    IsInsertionPlace (ComesBefore meaning precedes items item) order (length items) place →
    AreDifferent meaning fits precedes (items ++ item ∷ []) (insert order place (length items))
different_more meaning fits precedes items order item place laws fit different gap = record {
  fit = All-push (λ x. fits (meaning x)) items item different.fit fit;
  different = all_pairs_push (λ x y. meaning x ≡ meaning y → ⊥) items item different.different
      (λ k d lt same. not_known meaning fits precedes items order item place laws fit different.ordered gap (k, get_or items k d, lt, get_or_default items k (get_or items k d) d lt, same));
  ordered = order_more meaning precedes items order item place different.ordered gap;
}

-- an element of a list with one more is one of the list or the last one
pub Any-push_cases : {X : Type 0} (P : X → Type 0) (xs : List X) (y : X) → Any P (xs ++ y ∷ []) → Any P xs ⊎ P y
Any-push_cases P xs y (k, x, lt, read, p) =
    elim (cases_lt k (length xs)) [
      | inl low ↦ inl (k, x, low, sym (get_or_append_left xs (y ∷ []) x k low) ∙ read, p)
      | inr ge ↦ inr (subst P (sym read ∙ get_or_push xs y x k (omega (arith, length_push xs y))) p)
    ]

pub adds_item : {X M : Type 0} (meaning : X → M) (items : List X) (item : X) → Adds meaning items (meaning item) (items ++ item ∷ [])
adds_item meaning items item = record {
  kept = λ z (k, x, lt, read, is). (k, x, omega (arith, length_push items item), get_or_append_left items (item ∷ []) x k lt ∙ read, is);
  added = Any-push (λ x. meaning x ≡ meaning item) items item refl;
  only = λ z. Any-push_cases (λ x. meaning x ≡ z) items item;
  places = λ k d. get_or_append_left items (item ∷ []) d k;
  no_fewer = omega (arith, length_push items item);
  at_most_one = omega (arith, length_push items item);
}

-- a value that is known already
pub adds_nothing : {X M : Type 0} (meaning : X → M) (items : List X) (value : M) → Knows meaning items value → Adds meaning items value items
adds_nothing meaning items value known = record {
  kept = λ z h. h;
  added = known;
  only = λ z h. inl h;
  places = λ k d lt. refl;
  no_fewer = omega arith;
  at_most_one = omega arith;
}

-- what ascending places give of the items, when they are arranged so
pub arranged_ascend :
    {X M : Type 0} (meaning : X → M) (precedes : M → M → Type 0) (items : List X) (order : List ℕ) (list : List X) →
    IsOrder (λ x y. precedes (meaning x) (meaning y)) items order → IsArranged items order (length order) list → IsAscending meaning precedes list
arranged_ascend meaning precedes items order list ordered arranged i j d lt inside =
    let n : length list ≡ length order = arranged.size ∙ sym ordered.count in
    rw (arranged.each i d (omega arith), arranged.each j d (omega arith)) (ordered.ascending i j 0 lt (omega arith) d)

pub arranged_from :
    {X M : Type 0} (meaning : X → M) (precedes : M → M → Type 0) (items : List X) (order : List ℕ) (list : List X) →
    IsOrder (λ x y. precedes (meaning x) (meaning y)) items order → IsArranged items order (length order) list →
    (z : M) → Knows meaning list z → Knows meaning items z
arranged_from meaning precedes items order list ordered arranged z (k, x, lt, read, is) =
    let inside : k < length order = omega (arith, arranged.size, ordered.count) in (
      get_or order k 0,
      get_or items (get_or order k 0) x,
      ordered.places k 0 inside,
      get_or_default items (get_or order k 0) (get_or items (get_or order k 0) x) x (ordered.places k 0 inside),
      ap meaning (sym (arranged.each k x inside) ∙ read) ∙ is,
    )

pub arranged_all :
    {X M : Type 0} (meaning : X → M) (precedes : M → M → Type 0) (items : List X) (order : List ℕ) (list : List X) →
    IsOrder (λ x y. precedes (meaning x) (meaning y)) items order → IsArranged items order (length order) list →
    (z : M) → Knows meaning items z → Knows meaning list z
arranged_all meaning precedes items order list ordered arranged z (k, x, lt, read, is) =
    let at : Contains order k = ordered.each k lt in
    let inside : at.0 < length list = omega (arith, arranged.size, ordered.count, at.1) in (
      at.0,
      get_or list at.0 x,
      inside,
      get_or_default list at.0 (get_or list at.0 x) x inside,
      ap meaning (arranged.each at.0 x at.1) ∙ (ap (λ i. meaning (get_or items i x)) (get_or_default order at.0 0 k at.1 ∙ at.2) ∙ (ap meaning read ∙ is)),
    )

-- no place stands twice among ascending ones
pub ordered_once :
    {X M : Type 0} (meaning : X → M) (fits : M → Type 0) (precedes : M → M → Type 0) (items : List X) (order : List ℕ) →
    ((x : M) → fits x → precedes x x → ⊥) → All (λ x. fits (meaning x)) items → IsOrder (λ x y. precedes (meaning x) (meaning y)) items order →
    AllPairs (λ i j. i ≢ j) order
ordered_once meaning fits precedes [] order irreflexive fit ordered i j d lt inside same = absurd (omega (arith, ordered.places j d inside))
ordered_once meaning fits precedes (x ∷ items) order irreflexive fit ordered i j d lt inside same =
    let at : ℕ = get_or order j d in
    irreflexive (meaning (get_or (x ∷ items) at x)) (fit at x (ordered.places j d inside))
    (subst (λ k. precedes (meaning (get_or (x ∷ items) k x)) (meaning (get_or (x ∷ items) at x))) same (ordered.ascending i j d lt inside x))

-- there is no place for an item where its value is known, and only there
pub known_where_none :
    (o : Option ℕ) (none : Bool) (P : ℕ → Type 0) (known : Type 0) → is_some o ≡ not none → IfNone o known → IfSome o P →
    ((place : ℕ) → P place → known → ⊥) → IsTrue none ↔ known
known_where_none None true P known which is place other = (λ t. is, λ h. refl)
known_where_none None false P known which is place other = cc
known_where_none (Some k) true P known which is place other = cc
known_where_none (Some k) false P known which is place other = (λ t. cc, λ h. absurd (other k place h))
