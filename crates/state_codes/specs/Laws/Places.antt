-- The places of a code, part by part.
use Rattle.std.proofs.Common.{◌≡◌, ℕ, zero, suc, ◌+◌, ◌-◌, ◌<◌, ◌≤◌, Bool, true, false, inl, inr, List, [], ◌∷◌, ◌++◌, length, get_or, take, drop, Some, refl, sym, ap, ◌∙◌, subst, arith, append_assoc, length-append}
use Rattle.std.proofs.lemmas.Bool.{cases_eq}
use Rattle.std.proofs.lemmas.List.{take_at, drop_at, append-nil, take_more, length-take-le, take-append-drop}
use Rattle.std.proofs.lemmas.List.Elements.{All-nil, All-cons, All-head, All-tail, All-append, All-take, All-drop}
use Rattle.std.specs.List.{All, slice_get}
use Rattle.partition.specs.Partition.{blocks_of}
use Rattle.partition.specs.NestedBlocks.{IsInside}
use Rattle.state_codes.specs.declared.split.Part.{Part}
use Rattle.state_codes.specs.Code.{Place, label_places, part_places, places_of, AreInside, need}
use Rattle.state_codes.specs.Laws.InnerLabels.{inside_once}

pub All-left : {X : Type 0} (P : X → Type 0) (xs ys : List X) → All P (xs ++ ys) → All P xs
All-left P xs ys all = subst (All P) (take_at xs ys (length xs) refl) (All-take P (length xs) (xs ++ ys) all)

pub All-right : {X : Type 0} (P : X → Type 0) (xs ys : List X) → All P (xs ++ ys) → All P ys
All-right P xs ys all = subst (All P) (drop_at xs ys (length xs) refl) (All-drop P (length xs) (xs ++ ys) all)

pub length-label_places : (part : ℕ) (carried : Bool) (labels : List ℕ) (bits : ℕ) → length (label_places part carried labels bits) ≡ bits
length-label_places part carried labels zero = refl
length-label_places part carried labels (suc bits) = ap suc (length-label_places part carried labels bits)

pub label_places-all : (P : Place → Type 0) (part : ℕ) (carried : Bool) (labels : List ℕ) (bits : ℕ)
    → ((weight : ℕ) → weight < bits → P (record { part = part; carried = carried; labels = labels; weight = weight })) → All P (label_places part carried labels bits)
label_places-all P part carried labels zero each = All-nil P
label_places-all P part carried labels (suc bits) each =
    All-cons P (record { part = part; carried = carried; labels = labels; weight = bits }) (label_places part carried labels bits) (each bits (omega arith)) (label_places-all P part carried labels bits (λ weight below. each weight (omega arith)))

pub label_places-at : (P : Place → Type 0) (part : ℕ) (carried : Bool) (labels : List ℕ) (bits : ℕ) → All P (label_places part carried labels bits)
    → (weight : ℕ) → weight < bits → P (record { part = part; carried = carried; labels = labels; weight = weight })
label_places-at P part carried labels zero all weight below = absurd (omega arith)
label_places-at P part carried labels (suc bits) all weight below =
    elim (cases_eq weight bits) [
      | inl at ↦ subst (λ (w : ℕ). P (record { part = part; carried = carried; labels = labels; weight = w })) (sym at) (All-head P (record { part = part; carried = carried; labels = labels; weight = bits }) (label_places part carried labels bits) all)
      | inr other ↦ label_places-at P part carried labels bits (All-tail P (record { part = part; carried = carried; labels = labels; weight = bits }) (label_places part carried labels bits) all) weight (omega arith)
    ]

-- what holds of the bits of all parts holds of the bits of each part
pub part_places-at : (P : Place → Type 0) (j i k : ℕ) (parts : List Part) (inners : List (List ℕ)) (part : Part) → AreInside parts inners → All P (places_of j parts inners) → slice_get parts k ≡ Some part → i ≡ j + k
    → (inner : List ℕ) × IsInside part.carrier part.partition inner × All P (part_places i part.carrier inner)
part_places-at P j i k [] inners part inside all stands at = cc
part_places-at P j i k (first ∷ parts) [] part inside all stands at = absurd inside
part_places-at P j i zero (first ∷ parts) (inner ∷ inners) part inside all stands at =
    let same : first ≡ part = cc in
    let here : j ≡ i = omega arith in
    subst (λ (other : Part). (labels : List ℕ) × IsInside other.carrier other.partition labels × All P (part_places i other.carrier labels)) same
    (inner, inside.0, subst (λ (number : ℕ). All P (part_places number first.carrier inner)) here (All-left P (part_places j first.carrier inner) (places_of (suc j) parts inners) all))
part_places-at P j i (suc k) (first ∷ parts) (inner ∷ inners) part inside all stands at =
    part_places-at P (suc j) i k parts inners part inside.1 (All-right P (part_places j first.carrier inner) (places_of (suc j) parts inners) all) stands (omega arith)

-- what holds of the bits of each part holds of the bits of all parts
pub places_of-all : (P : Place → Type 0) (j : ℕ) (parts : List Part) (inners : List (List ℕ)) → AreInside parts inners
    → ((i k : ℕ) (part : Part) (inner : List ℕ) → i ≡ j + k → slice_get parts k ≡ Some part → IsInside part.carrier part.partition inner → All P (part_places i part.carrier inner))
    → All P (places_of j parts inners)
places_of-all P j [] inners inside each = All-nil P
places_of-all P j (first ∷ parts) [] inside each = All-nil P
places_of-all P j (first ∷ parts) (inner ∷ inners) inside each =
    All-append P (part_places j first.carrier inner) (places_of (suc j) parts inners)
    (each j zero first inner (omega arith) refl inside.0)
    (places_of-all P (suc j) parts inners inside.1 (λ i k part labels at stands within. each i (suc k) part labels (omega arith) stands within))

-- first the bits of the front parts, then those of the others
pub places_of-append : (j i : ℕ) (front back : List Part) (inners rest : List (List ℕ)) → length inners ≡ length front → i ≡ j + length front → places_of j (front ++ back) (inners ++ rest) ≡ places_of j front inners ++ places_of i back rest
places_of-append j i [] back [] rest size at = ap (λ (number : ℕ). places_of number back rest) (omega arith)
places_of-append j i [] back (inner ∷ inners) rest size at = absurd (omega (arith, size))
places_of-append j i (part ∷ front) back [] rest size at = absurd (omega (arith, size))
places_of-append j i (part ∷ front) back (inner ∷ inners) rest size at =
    ap (λ (end : List Place). part_places j part.carrier inner ++ end) (places_of-append (suc j) i front back inners rest (omega (arith, size)) (omega arith))
    ∙ sym (append_assoc (part_places j part.carrier inner) (places_of (suc j) front inners) (places_of i back rest))

pub AreInside-length : (parts : List Part) (inners : List (List ℕ)) → AreInside parts inners → length inners ≡ length parts
AreInside-length [] [] inside = refl
AreInside-length [] (inner ∷ inners) inside = absurd inside
AreInside-length (part ∷ parts) [] inside = absurd inside
AreInside-length (part ∷ parts) (inner ∷ inners) inside = ap suc (AreInside-length parts inners inside.1)

pub AreInside-push : (parts : List Part) (inners : List (List ℕ)) (part : Part) (inner : List ℕ) → AreInside parts inners → IsInside part.carrier part.partition inner → AreInside (parts ++ part ∷ []) (inners ++ inner ∷ [])
AreInside-push [] [] part inner inside here = (here, tt)
AreInside-push [] (other ∷ inners) part inner inside here = absurd inside
AreInside-push (first ∷ parts) [] part inner inside here = absurd inside
AreInside-push (first ∷ parts) (other ∷ inners) part inner inside here = (inside.0, AreInside-push parts inners part inner inside.1 here)

pub AreInside-at : (parts : List Part) (inners : List (List ℕ)) (k : ℕ) (part : Part) → AreInside parts inners → slice_get parts k ≡ Some part → IsInside part.carrier part.partition (get_or inners k [])
AreInside-at [] inners k part inside stands = cc
AreInside-at (first ∷ parts) [] k part inside stands = absurd inside
AreInside-at (first ∷ parts) (inner ∷ inners) zero part inside stands =
    let same : first ≡ part = cc in
    subst (λ (other : Part). IsInside other.carrier other.partition inner) same inside.0
AreInside-at (first ∷ parts) (inner ∷ inners) (suc k) part inside stands = AreInside-at parts inners k part inside.1 stands

-- the labels inside the carriers are determined
pub AreInside-once : (parts : List Part) (inners others : List (List ℕ)) → AreInside parts inners → AreInside parts others → inners ≡ others
AreInside-once [] [] [] one two = refl
AreInside-once [] [] (other ∷ others) one two = absurd two
AreInside-once [] (inner ∷ inners) others one two = absurd one
AreInside-once (part ∷ parts) [] others one two = absurd one
AreInside-once (part ∷ parts) (inner ∷ inners) [] one two = absurd two
AreInside-once (part ∷ parts) (inner ∷ inners) (other ∷ others) one two =
    let here : inner ≡ other = inside_once part.carrier part.partition inner other one.0 two.0 in
    let rest : inners ≡ others = AreInside-once parts inners others one.1 two.1 in
    cc

pub length-part_places : (part : ℕ) (carrier inner : List ℕ) → length (part_places part carrier inner) ≡ need (blocks_of carrier) + need (blocks_of inner)
length-part_places part carrier inner =
    omega (arith, length-append (label_places part true carrier (need (blocks_of carrier))) (label_places part false inner (need (blocks_of inner))), length-label_places part true carrier (need (blocks_of carrier)), length-label_places part false inner (need (blocks_of inner)))

-- one more part adds the bits of that part
pub places_of-take-more : (parts : List Part) (inners : List (List ℕ)) (j : ℕ) (part : Part) → j < length parts → length inners ≡ length parts → part ≡ get_or parts j part
    → places_of 0 (take (j + 1) parts) (take (j + 1) inners) ≡ places_of 0 (take j parts) (take j inners) ++ part_places j part.carrier (get_or inners j [])
places_of-take-more parts inners j part within size read =
    let inner : List ℕ = get_or inners j [] in
    let in_inners : j < length inners = omega (arith, size) in
    let front : take (j + 1) parts ≡ take j parts ++ part ∷ [] = take_more parts j part within ∙ ap (λ (one : Part). take j parts ++ one ∷ []) (sym read) in
    let sizes : length (take j inners) ≡ length (take j parts) = length-take-le j inners (omega arith) ∙ sym (length-take-le j parts (omega arith)) in
    ap (λ (list : List Part). places_of 0 list (take (j + 1) inners)) front
    ∙ ap (λ (list : List (List ℕ)). places_of 0 (take j parts ++ part ∷ []) list) (take_more inners j [] in_inners)
    ∙ places_of-append 0 j (take j parts) (part ∷ []) (take j inners) (inner ∷ []) sizes (omega (arith, length-take-le j parts (omega arith)))
    ∙ ap (λ (end : List Place). places_of 0 (take j parts) (take j inners) ++ end) (append-nil (part_places j part.carrier inner))

-- the first parts have no more bits than all parts
pub places_of-take-le : (parts : List Part) (inners : List (List ℕ)) (k : ℕ) → k ≤ length parts → length inners ≡ length parts
    → length (places_of 0 (take k parts) (take k inners)) ≤ length (places_of 0 parts inners)
places_of-take-le parts inners k within size =
    let sizes : length (take k inners) ≡ length (take k parts) = length-take-le k inners (omega arith) ∙ sym (length-take-le k parts within) in
    let whole : places_of 0 parts inners ≡ places_of 0 (take k parts) (take k inners) ++ places_of k (drop k parts) (drop k inners) =
    ap (λ (list : List Part). places_of 0 list inners) (sym (take-append-drop k parts))
    ∙ ap (λ (list : List (List ℕ)). places_of 0 (take k parts ++ drop k parts) list) (sym (take-append-drop k inners))
    ∙ places_of-append 0 k (take k parts) (drop k parts) (take k inners) (drop k inners) sizes (omega (arith, length-take-le k parts within)) in
    omega (arith, ap length whole, length-append (places_of 0 (take k parts) (take k inners)) (places_of k (drop k parts) (drop k inners)))

-- the first parts and one more have no more bits than all parts
pub places_of-take-room : (parts : List Part) (inners : List (List ℕ)) (j : ℕ) (part : Part) → j < length parts → length inners ≡ length parts → part ≡ get_or parts j part
    → length (places_of 0 (take j parts) (take j inners)) + (need (blocks_of part.carrier) + need (blocks_of (get_or inners j []))) ≤ length (places_of 0 parts inners)
places_of-take-room parts inners j part within size read =
    omega (
      arith,
      places_of-take-le parts inners (j + 1) (omega arith) size,
      ap (λ (list : List Place). length list) (places_of-take-more parts inners j part within size read),
      length-append (places_of 0 (take j parts) (take j inners)) (part_places j part.carrier (get_or inners j [])),
      length-part_places j part.carrier (get_or inners j []),
    )

-- one bit of the label goes from those left to those done
pub label_places-next : (part : ℕ) (carried : Bool) (labels : List ℕ) (left : ℕ) (done all : List Place) → 0 < left → done ++ label_places part carried labels left ≡ all
    → (done ++ record { part = part; carried = carried; labels = labels; weight = left - 1 } ∷ []) ++ label_places part carried labels (left - 1) ≡ all
label_places-next part carried labels zero done all some whole = absurd (omega arith)
label_places-next part carried labels (suc left) done all some whole =
    let less : suc left - 1 ≡ left = omega arith in
    ap (λ (k : ℕ). (done ++ record { part = part; carried = carried; labels = labels; weight = k } ∷ []) ++ label_places part carried labels k) less
    ∙ append_assoc done (record { part = part; carried = carried; labels = labels; weight = left } ∷ []) (label_places part carried labels left)
    ∙ whole
