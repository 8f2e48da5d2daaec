-- Rows of a partition, gathered from rows that lie within its blocks.
use Rattle.std.proofs.Common.{◌≡◌, ◌≢◌, ℕ, ◌+◌, ◌-◌, ◌*◌, ◌/◌, ◌%◌, ◌<◌, ◌≤◌, ◌↔◌, ◌⊎◌, min, max, List, [], ◌∷◌, length, get_or, set, take, drop, replicate, refl, sym, ap, ◌∙◌, subst, inl, inr, arith}
use Rattle.std.proofs.lemmas.Bool.{cases_eq, cases_lt}
use Rattle.std.proofs.lemmas.List.{get_or-set_same, get_or-set_other, length-take, length-drop}
use Rattle.std.proofs.lemmas.List.Elements.{All-from_get_or}
use Rattle.std.proofs.lemmas.List.Sums.{sum_by-set, sum_by-le}
use Rattle.std.proofs.lemmas.List.Folds.{sum_by-replicate}
use Rattle.std.proofs.lemmas.Nat.Bits.{bit_at_or}
use Rattle.std.specs.Int.{bit_at}
use Rattle.std.specs.Int.RustNames.{bit_or}
use Rattle.partition.specs.Partition.{Together, Le}
use Rattle.partition.specs.MeetAndJoin.{IsJoin, Leads}
use Rattle.partition.specs.Bits.{bit_of}
use Rattle.partition.specs.Laws.Chains.{together_turned}
use Rattle.partition.specs.Inner.Rows.{Has, words_for, place_in, AreRows, AreRowsOf, AreTwo}
use Rattle.partition.specs.Inner.JoinedRows.{AreWithin, IsInRow, AreRowNumbers, HaveNumbers, GoesTo}
use Rattle.partition.proofs.Words.{bit_of-lt}
use Rattle.partition.proofs.BlockRows.{in_hand, row_end, row_slice, slice_past, place_word, place_bit, zeros_read}

-- the rows of a partition lie within the blocks of one above it
pub rows_within : (p r items words : List ℕ) → AreRowsOf p items → words ≡ items → length r ≡ length p → Le p r → AreWithin r words (words_for (length r)) (length words / words_for (length r))
rows_within p r items words of_p same lengths below = record {
  size = are.size;
  together = λ i s t within in_s in_t on_s on_t. below s t ((are.block i s t within in_s in_t on_s).0 on_t);
  shared = λ i within. let two = are.shared i within in (two.0, two.1, two.2, below two.0 two.1 two.3, two.4);
}
  where
    are : AreRows p words (words_for (length r)) (length words / words_for (length r))
    are = in_hand p items words (length r) (words_for (length r)) (length words / words_for (length r)) of_p same lengths refl refl

-- a chain between two different states has a link from the first to another one
leads_apart : (p q : List ℕ) (s t : ℕ) (us : List ℕ) → Leads p q s us t → s ≢ t → (u : ℕ) × (s ≢ u) × (Together p s u ⊎ Together q s u)
leads_apart p q s t [] here apart = absurd (apart here)
leads_apart p q s t (u ∷ us) first apart =
    elim (cases_eq s u) [
      | inl same ↦ leads_apart p q s t us (subst (λ (v : ℕ). Leads p q v us t) (sym same) first.1) apart
      | inr other ↦ (u, other, first.0)
    ]

-- a state that is not alone in the join is in a row of one of its sides
pub joined_in_row : (p q r front_items back_items front back : List ℕ) → IsJoin p q r → AreRowsOf p front_items → AreRowsOf q back_items → front ≡ front_items → back ≡ back_items → length r ≡ length p → length r ≡ length q
    → (s t : ℕ) → Together r s t → s ≢ t → IsInRow front (words_for (length r)) (length front / words_for (length r)) s ⊎ IsInRow back (words_for (length r)) (length back / words_for (length r)) s
joined_in_row p q r front_items back_items front back joined of_p of_q front_same back_same p_length q_length s t together apart =
    let chain = (joined.together s t).0 together in
    let link = leads_apart p q s t chain.1.0 chain.1.1 apart in
    elim link.2 [
      | inl left ↦ inl ((in_hand p front_items front (length r) (words_for (length r)) (length front / words_for (length r)) of_p front_same p_length refl refl).listed s link.0 left link.1)
      | inr right ↦ inr ((in_hand q back_items back (length r) (words_for (length r)) (length back / words_for (length r)) of_q back_same q_length refl refl).listed s link.0 right link.1)
    ]

-- two states that are together are two of their label
pub two_of : (p : List ℕ) (s t label : ℕ) → s ≢ t → Together p s t → get_or p s 0 ≡ label → AreTwo p (length p) label
two_of p s t label apart together is =
    elim (cases_lt s t) [
      | inl below ↦ record { one = s; other = t; apart = below; within = together.1; first = is; second = sym together.2 ∙ is }
      | inr above ↦ record { one = t; other = s; apart = omega (arith, apart); within = together.0; first = sym together.2 ∙ is; second = is }
    ]

-- a state of the words of row i is a state of the row
pub row_has : (rows : List ℕ) (width i at s : ℕ) → at ≡ i * width → Has (take (at + width - at) (drop at rows)) s → (s < 64 * width) × Has rows (place_in width i s)
row_has rows width i at s is on =
    elim (cases_lt s (64 * width)) [
      | inl inside ↦ (inside, sym (row_slice rows width i at s is inside) ∙ on)
      | inr past ↦ absurd (omega (arith, on, slice_past rows width at s past))
    ]

-- the words of a row are as many as it needs
pub slice_size : (rows : List ℕ) (width at : ℕ) → at + width ≤ length rows → length (take (at + width - at) (drop at rows)) ≡ width
slice_size rows width at within = omega (arith, length-take {A = ℕ} (at + width - at) (drop at rows), length-drop {A = ℕ} at rows)

-- no label has a number
pub no_row_numbers : (p : List ℕ) (m : ℕ) → AreRowNumbers p (replicate m 0) 0
no_row_numbers p m = record {
  counted = omega (arith, sum_by-replicate (λ number. min number 1) m 0);
  small = λ label. omega (arith, zeros_read m label 0 refl);
  shared = λ label some. absurd (omega (arith, some, zeros_read m label 0 refl));
  once = λ a b same some. absurd (omega (arith, some, zeros_read m a 0 refl));
  used = λ i within. absurd (omega arith);
}

-- one label more has a number
pub number_more : (p numbers : List ℕ) (count label : ℕ) → AreRowNumbers p numbers count → label < length numbers → get_or numbers label 0 ≡ 0 → AreTwo p (length p) label → AreRowNumbers p (set numbers label (count + 1)) (count + 1)
number_more p numbers count label so_far room none two = record {
  counted = omega (arith, so_far.counted, none, sum_by-set (λ number. min number 1) numbers label (count + 1) 0 room);
  small = λ a. elim (cases_eq a label) [
    | inl at ↦ omega (arith, here a at)
    | inr other ↦ omega (arith, there a other, so_far.small a)
  ];
  shared = λ a some. elim (cases_eq a label) [
    | inl at ↦ subst (AreTwo p (length p)) (sym at) two
    | inr other ↦ so_far.shared a (omega (arith, some, there a other))
  ];
  once = λ a b same some. elim (cases_eq a label) [
    | inl a_at ↦ elim (cases_eq b label) [
      | inl b_at ↦ a_at ∙ sym b_at
      | inr b_other ↦ absurd (omega (arith, same, here a a_at, there b b_other, so_far.small b))
    ]
    | inr a_other ↦ elim (cases_eq b label) [
      | inl b_at ↦ absurd (omega (arith, same, here b b_at, there a a_other, so_far.small a))
      | inr b_other ↦ so_far.once a b (sym (there a a_other) ∙ same ∙ there b b_other) (omega (arith, some, there a a_other))
    ]
  ];
  used = λ i within. elim (cases_eq i count) [
    | inl last ↦ (label, here label refl ∙ ap (λ (k : ℕ). k + 1) (sym last))
    | inr other ↦
        let old = so_far.used i (omega arith) in
        (old.0, there old.0 (λ at. absurd (omega (arith, old.1, none, ap (λ (k : ℕ). get_or numbers k 0) at))) ∙ old.1)
  ];
}
  where
    here : (a : ℕ) → a ≡ label → get_or (set numbers label (count + 1)) a 0 ≡ count + 1
    here a at = ap (λ (k : ℕ). get_or (set numbers label (count + 1)) k 0) at ∙ get_or-set_same numbers label (count + 1) 0 room

    there : (a : ℕ) → a ≢ label → get_or (set numbers label (count + 1)) a 0 ≡ get_or numbers a 0
    there a other = get_or-set_other numbers label a (count + 1) 0 other

-- what has a number keeps one
pub number_kept : (numbers : List ℕ) (label count a : ℕ) → label < length numbers → 1 ≤ get_or numbers a 0 → 1 ≤ get_or (set numbers label (count + 1)) a 0
number_kept numbers label count a room some =
    elim (cases_eq a label) [
      | inl at ↦ omega (arith, ap (λ (k : ℕ). get_or (set numbers label (count + 1)) k 0) at, get_or-set_same numbers label (count + 1) 0 room)
      | inr other ↦ omega (arith, some, get_or-set_other numbers label a (count + 1) 0 other)
    ]

-- as many labels have numbers as there are places for numbers, or fewer
pub numbers_few : (p numbers : List ℕ) (count : ℕ) → AreRowNumbers p numbers count → count ≤ length numbers
numbers_few p numbers count are = omega (arith, are.counted, sum_by-le (λ number. min number 1) 1 numbers (All-from_get_or (λ number. min number 1 ≤ 1) numbers 0 (λ k within. omega arith)))

-- the labels of one row more have numbers
pub numbers_row : (p words : List ℕ) (width i : ℕ) (numbers numbers' : List ℕ) (label : ℕ) → HaveNumbers p words width i numbers → ((a : ℕ) → 1 ≤ get_or numbers a 0 → 1 ≤ get_or numbers' a 0)
    → ((s : ℕ) → s < 64 * width → Has words (place_in width i s) → get_or p s 0 ≡ label) → 1 ≤ get_or numbers' label 0 → HaveNumbers p words width (i + 1) numbers'
numbers_row p words width i numbers numbers' label so_far keeps labelled some j s before in_s on =
    elim (cases_eq j i) [
      | inl last ↦ omega (arith, some, ap (λ (a : ℕ). get_or numbers' a 0) (labelled s in_s (subst (λ (k : ℕ). Has words (place_in width k s)) last on)))
      | inr other ↦ keeps (get_or p s 0) (so_far j s (omega arith) in_s on)
    ]

-- the label of a row has a number
pub row_numbered : (p words numbers : List ℕ) (width count i label : ℕ) → AreWithin p words width count → HaveNumbers p words width count numbers → length p ≤ 64 * width → i < count
    → ((s : ℕ) → s < 64 * width → Has words (place_in width i s) → get_or p s 0 ≡ label) → 1 ≤ get_or numbers label 0
row_numbered p words numbers width count i label are numbered wide within labelled =
    let two = are.shared i within in
    let in_s : two.0 < 64 * width = omega (arith, two.3.0, wide) in
    omega (arith, numbered i two.0 within in_s two.4, ap (λ (a : ℕ). get_or numbers a 0) (labelled two.0 in_s two.4))

-- a row before one of so many ends within them
pub number_end : (count number width size : ℕ) → count ≡ number + 1 → count * width ≤ size → number * width + width ≤ size
number_end count number width size is within = omega (arith, within, ap (λ (k : ℕ). k * width) is, one_more)
  where
    one_more : (number + 1) * width ≡ number * width + width
    one_more = omega arith

either_bit : (a b : ℕ) → a < 2 → b < 2 → (max a b ≡ 1) ↔ ((a ≡ 1) ⊎ (b ≡ 1))
either_bit a b small_a small_b = (
  (λ on. elim (cases_eq a 1) [
    | inl one ↦ inl one
    | inr other ↦ inr (omega arith)
  ]),
  (λ either. elim either [
    | inl one ↦ omega arith
    | inr one ↦ omega arith
  ]),
)

bit_placed : (words : List ℕ) (width i t at : ℕ) → at ≡ i * width → bit_of words (place_in width i t) ≡ bit_at (get_or words (at + t / 64) 0) (t % 64)
bit_placed words width i t at is =
    ap (λ (k : ℕ). bit_at (get_or words k 0) (place_in width i t % 64)) (place_word width i t ∙ ap (λ (k : ℕ). k + t / 64) (sym is)) ∙ ap (bit_at (get_or words (at + t / 64) 0)) (place_bit width i t)

-- the words of the row are set from that place on
abbrev pub IsPut : (words words' row : List ℕ) (at : ℕ) → Type 0
IsPut words words' row at = (k : ℕ) → k < length row → get_or words' (at + k) 0 ≡ bit_or (get_or words (at + k) 0) (get_or row k 0)

-- the other words stay
abbrev pub IsElsewhereKept : (words words' row : List ℕ) (at : ℕ) → Type 0
IsElsewhereKept words words' row at = (k : ℕ) → (k < at) ⊎ (at + length row ≤ k) → get_or words' k 0 ≡ get_or words k 0

put_here : (words words' row : List ℕ) (width i t at : ℕ) → at ≡ i * width → t < 64 * width → length row ≡ width → IsPut words words' row at → Has words' (place_in width i t) ↔ (Has words (place_in width i t) ⊎ Has row t)
put_here words words' row width i t at is inside size put =
    let bits : bit_of words' (place_in width i t) ≡ max (bit_of words (place_in width i t)) (bit_of row t) =
    bit_placed words' width i t at is
    ∙ ap (λ (word : ℕ). bit_at word (t % 64)) (put (t / 64) (omega arith))
    ∙ bit_at_or (get_or words (at + t / 64) 0) (get_or row (t / 64) 0) (t % 64)
    ∙ ap (λ (b : ℕ). max b (bit_of row t)) (sym (bit_placed words width i t at is)) in
    let either = either_bit (bit_of words (place_in width i t)) (bit_of row t) (bit_of-lt words (place_in width i t)) (bit_of-lt row t) in
    ((λ on. either.0 (sym bits ∙ on)), (λ held. bits ∙ either.1 held))

put_elsewhere : (words words' row : List ℕ) (width i j t at : ℕ) → at ≡ i * width → t < 64 * width → length row ≡ width → IsElsewhereKept words words' row at → j ≢ i → bit_of words' (place_in width j t) ≡ bit_of words (place_in width j t)
put_elsewhere words words' row width i j t at is inside size kept apart =
    bit_placed words' width j t (j * width) refl ∙ ap (λ (word : ℕ). bit_at word (t % 64)) (kept (j * width + t / 64) outside) ∙ sym (bit_placed words width j t (j * width) refl)
  where
    outside : (j * width + t / 64 < at) ⊎ (at + length row ≤ j * width + t / 64)
    outside =
        elim (cases_lt j i) [
          | inl before ↦ inl (omega (arith, row_end j i width before))
          | inr after ↦ inr (omega (arith, row_end i j width (omega (arith, apart))))
        ]

-- the rows so far are put where they go
abbrev pub AreGathered : (p words numbers start into : List ℕ) (width i : ℕ) → Type 0
AreGathered p words numbers start into width i = (j t : ℕ) → t < 64 * width → Has into (place_in width j t) ↔ (Has start (place_in width j t) ⊎ GoesTo p words width i numbers j t)

pub gathered_none : (p words numbers start : List ℕ) (width : ℕ) → AreGathered p words numbers start start width 0
gathered_none p words numbers start width j t inside = (
  (λ on. inl on),
  (λ either. elim either [
    | inl on ↦ on
    | inr goes ↦ absurd (omega (arith, goes.1.1))
  ]),
)

pub gathered_more : (p words numbers start into into' row : List ℕ) (width i number at label : ℕ) → AreGathered p words numbers start into width i → ((s : ℕ) → s < 64 * width → Has words (place_in width i s) → get_or p s 0 ≡ label)
    → get_or numbers label 0 ≡ number + 1 → at ≡ number * width → length row ≡ width → ((t : ℕ) → t < 64 * width → bit_of row t ≡ bit_of words (place_in width i t)) → IsPut into into' row at → IsElsewhereKept into into' row at
    → AreGathered p words numbers start into' width (i + 1)
gathered_more p words numbers start into into' row width i number at label so_far labelled numbered is size bits put kept j t inside =
    elim (cases_eq j number) [
      | inl here ↦
          let both = put_here into into' row width j t at (is ∙ ap (λ (k : ℕ). k * width) (sym here)) inside size put in (
            (λ on. elim (both.0 on) [
              | inl before ↦ more ((so_far j t inside).0 before)
              | inr new ↦ inr (goes_here (sym (bits t inside) ∙ new) ∙ ap (λ (k : ℕ). k + 1) (sym here), (i, omega arith, sym (bits t inside) ∙ new))
            ]),
            (λ either. elim (fewer either) [
              | inl earlier ↦ both.1 (inl ((so_far j t inside).1 earlier))
              | inr last ↦ both.1 (inr (bits t inside ∙ last.1))
            ]),
          )
      | inr apart ↦
          let stays = put_elsewhere into into' row width number j t at is inside size kept apart in (
            (λ on. more ((so_far j t inside).0 (sym stays ∙ on))),
            (λ either. elim (fewer either) [
              | inl earlier ↦ stays ∙ (so_far j t inside).1 earlier
              | inr last ↦ absurd (apart (omega (arith, last.0, goes_here last.1)))
            ]),
          )
    ]
  where
    goes_here : Has words (place_in width i t) → get_or numbers (get_or p t 0) 0 ≡ number + 1
    goes_here on = ap (λ (a : ℕ). get_or numbers a 0) (labelled t inside on) ∙ numbered

    more : Has start (place_in width j t) ⊎ GoesTo p words width i numbers j t → Has start (place_in width j t) ⊎ GoesTo p words width (i + 1) numbers j t
    more (inl on) = inl on
    more (inr goes) = inr (goes.0, (goes.1.0, omega (arith, goes.1.1), goes.1.2))

    fewer : Has start (place_in width j t) ⊎ GoesTo p words width (i + 1) numbers j t → (Has start (place_in width j t) ⊎ GoesTo p words width i numbers j t) ⊎ ((get_or numbers (get_or p t 0) 0 ≡ j + 1) × Has words (place_in width i t))
    fewer (inl on) = inl (inl on)
    fewer (inr goes) =
        elim (cases_eq goes.1.0 i) [
          | inl last ↦ inr (goes.0, subst (λ (k : ℕ). Has words (place_in width k t)) last goes.1.2)
          | inr other ↦ inl (inr (goes.0, (goes.1.0, omega (arith, goes.1.1, other), goes.1.2)))
        ]

-- the rows of two lists, gathered in words of zeros, are those of the blocks
pub gathered_are_rows : (p front back numbers zeros half all : List ℕ) (width m n count : ℕ) → length all ≡ count * width → length p ≤ 64 * width → AreWithin p front width m → AreWithin p back width n
    → ((s t : ℕ) → Together p s t → s ≢ t → IsInRow front width m s ⊎ IsInRow back width n s) → AreRowNumbers p numbers count → HaveNumbers p front width m numbers → HaveNumbers p back width n numbers
    → ((k : ℕ) → bit_of zeros k ≡ 0) → AreGathered p front numbers zeros half width m → AreGathered p back numbers half all width n → AreRows p all width count
gathered_are_rows p front back numbers zeros half all width m n count size wide in_front in_back covered are front_numbered back_numbered none front_put back_put = record {
  size = size;
  block = λ i s t within in_s in_t on.
      let held = (bits i s in_s).0 on in (
        (λ other. let there = (bits i t in_t).0 other in (member s in_s held.1, member t in_t there.1, are.once (get_or p s 0) (get_or p t 0) (held.0 ∙ sym there.0) (omega (arith, held.0)))),
        (λ together. elim (cases_eq s t) [
          | inl same ↦ subst (λ (k : ℕ). Has all (place_in width i k)) same on
          | inr apart ↦ (bits i t in_t).1 (sym (ap (λ (a : ℕ). get_or numbers a 0) together.2) ∙ held.0, covered t s (together_turned p s t together) (λ same. apart (sym same)))
        ]),
      );
  listed = λ s t together apart.
      let in_s : s < 64 * width = omega (arith, together.0, wide) in
      let row = covered s t together apart in
      let number : ℕ = get_or numbers (get_or p s 0) 0 in
      let some : 1 ≤ number = numbered s in_s row in
      (number - 1, omega (arith, are.small (get_or p s 0)), (bits (number - 1) s in_s).1 (omega arith, row));
  shared = λ i within.
      let label = are.used i within in
      let two = are.shared label.0 (omega (arith, label.1)) in
      let in_one : two.one < length p = omega (arith, two.apart, two.within) in
      let apart : two.one ≢ two.other = λ same. absurd (omega (arith, two.apart, same)) in
      let together : Together p two.one two.other = (in_one, two.within, two.first ∙ sym two.second) in
      (two.one, two.other, apart, together, (bits i two.one (omega (arith, in_one, wide))).1 (ap (λ (a : ℕ). get_or numbers a 0) two.first ∙ label.1, covered two.one two.other together apart));
  once = λ i j s in_i in_j in_s on_i on_j. omega (arith, ((bits i s in_s).0 on_i).0, ((bits j s in_s).0 on_j).0);
}
  where
    bits : (j t : ℕ) → t < 64 * width → Has all (place_in width j t) ↔ ((get_or numbers (get_or p t 0) 0 ≡ j + 1) × (IsInRow front width m t ⊎ IsInRow back width n t))
    bits j t inside = (
      (λ on. elim ((back_put j t inside).0 on) [
        | inr goes ↦ (goes.0, inr goes.1)
        | inl before ↦ elim ((front_put j t inside).0 before) [
          | inr goes ↦ (goes.0, inl goes.1)
          | inl zero ↦ absurd (omega (arith, zero, none (place_in width j t)))
        ]
      ]),
      (λ held. elim held.1 [
        | inl row ↦ (back_put j t inside).1 (inl ((front_put j t inside).1 (inr (held.0, row))))
        | inr row ↦ (back_put j t inside).1 (inr (held.0, row))
      ]),
    )

    member : (t : ℕ) → t < 64 * width → IsInRow front width m t ⊎ IsInRow back width n t → t < length p
    member t inside (inl row) = (in_front.together row.0 t t row.1 inside inside row.2 row.2).0
    member t inside (inr row) = (in_back.together row.0 t t row.1 inside inside row.2 row.2).0

    numbered : (t : ℕ) → t < 64 * width → IsInRow front width m t ⊎ IsInRow back width n t → 1 ≤ get_or numbers (get_or p t 0) 0
    numbered t inside (inl row) = front_numbered row.0 t row.1 inside row.2
    numbered t inside (inr row) = back_numbered row.0 t row.1 inside row.2
