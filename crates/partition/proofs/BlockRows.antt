-- Rows of bits for the blocks of a partition.
use Rattle.std.proofs.Common.{◌≡◌, ◌≢◌, ℕ, ◌+◌, ◌-◌, ◌*◌, ◌/◌, ◌%◌, ◌^◌, ◌<◌, ◌≤◌, ◌↔◌, List, length, get_or, set, take, drop, replicate, refl, sym, ap, ◌∙◌, subst, inl, inr, arith}
use Rattle.std.proofs.lemmas.Bool.{cases_eq, cases_lt}
use Rattle.std.proofs.lemmas.List.{get_or-take, get_or-drop, get_or_past, get_or-set_same, get_or-set_other, length-take, get_or-replicate, length-replicate}
use Rattle.std.proofs.lemmas.Nat.{mul-le, same_from_place}
use Rattle.std.proofs.Math.Nat.{mul_assoc, mul-div_cancel}
use Rattle.std.specs.Int.{bit_at}
use Rattle.std.specs.Int.RustNames.{bit_or}
use Rattle.partition.specs.Partition.{Together}
use Rattle.partition.specs.Bits.{bit_of}
use Rattle.partition.specs.Inner.Rows.{Has, words_for, four_of, place_in, AreRows, AreRowsOf, AreTwo, AreRowNumbers}
use Rattle.partition.proofs.Words.{bit_of_past, bit_of-lt, bits_of_four, with_bit, bit_set, bits_set_other}

two_more : (p : List ℕ) (s label : ℕ) → AreTwo p s label → AreTwo p (s + 1) label
two_more p s label two = record { one = two.one; other = two.other; apart = two.apart; within = omega (arith, two.within); first = two.first; second = two.second }

pub numbers_none : (p numbers : List ℕ) → ((label : ℕ) → get_or numbers label 0 ≡ 0) → AreRowNumbers p numbers 0 0
numbers_none p numbers none = record {
  few = omega arith;
  small = λ label. omega (arith, none label);
  some = λ t within. absurd (omega arith);
  named = λ label some. absurd (omega (arith, none label, some));
  alone = λ t u within. absurd (omega arith);
  shared = λ label high. absurd (omega (arith, none label, high));
  once = λ a b same high. absurd (omega (arith, none a, high));
  used = λ i within. absurd (omega arith);
}

-- no earlier state has the label of state s
pub numbers_first : (p numbers : List ℕ) (count s : ℕ) → AreRowNumbers p numbers count s → get_or p s 0 < length numbers → get_or numbers (get_or p s 0) 0 ≡ 0 → AreRowNumbers p (set numbers (get_or p s 0) 1) count (s + 1)
numbers_first p numbers count s so_far room none = record {
  few = omega (arith, so_far.few);
  small = λ label. elim (cases_eq label (get_or p s 0)) [
    | inl at ↦ omega (arith, here label at)
    | inr other ↦ omega (arith, there label other, so_far.small label)
  ];
  some = λ t within. elim (cases_eq t s) [
    | inl at ↦ omega (arith, here (get_or p t 0) (ap (λ (k : ℕ). get_or p k 0) at))
    | inr other ↦ omega (arith, there (get_or p t 0) (earlier t (omega arith)), so_far.some t (omega arith))
  ];
  named = λ label some. elim (cases_eq label (get_or p s 0)) [
    | inl at ↦ (s, omega arith, sym at)
    | inr other ↦ let old = so_far.named label (omega (arith, some, there label other)) in (old.0, omega (arith, old.1), old.2)
  ];
  alone = λ t u in_t in_u same one. elim (cases_eq t s) [
    | inl t_at ↦ elim (cases_eq u s) [
      | inl u_at ↦ t_at ∙ sym u_at
      | inr u_other ↦ absurd (earlier u (omega arith) (sym same ∙ ap (λ (k : ℕ). get_or p k 0) t_at))
    ]
    | inr t_other ↦ elim (cases_eq u s) [
      | inl u_at ↦ absurd (earlier t (omega arith) (same ∙ ap (λ (k : ℕ). get_or p k 0) u_at))
      | inr u_other ↦ so_far.alone t u (omega arith) (omega arith) same (sym (there (get_or p t 0) (earlier t (omega arith))) ∙ one)
    ]
  ];
  shared = λ label high. elim (cases_eq label (get_or p s 0)) [
    | inl at ↦ absurd (omega (arith, high, here label at))
    | inr other ↦ two_more p s label (so_far.shared label (omega (arith, high, there label other)))
  ];
  once = λ a b same high. elim (cases_eq a (get_or p s 0)) [
    | inl a_at ↦ absurd (omega (arith, high, here a a_at))
    | inr a_other ↦ elim (cases_eq b (get_or p s 0)) [
      | inl b_at ↦ absurd (omega (arith, high, same, here b b_at))
      | inr b_other ↦ so_far.once a b (sym (there a a_other) ∙ same ∙ there b b_other) (omega (arith, high, there a a_other))
    ]
  ];
  used = λ i within.
      let old = so_far.used i within in
      (old.0, there old.0 (λ at. absurd (omega (arith, old.1, none, ap (λ (label : ℕ). get_or numbers label 0) at))) ∙ old.1);
}
  where
    here : (label : ℕ) → label ≡ get_or p s 0 → get_or (set numbers (get_or p s 0) 1) label 0 ≡ 1
    here label at = ap (λ (k : ℕ). get_or (set numbers (get_or p s 0) 1) k 0) at ∙ get_or-set_same numbers (get_or p s 0) 1 0 room

    there : (label : ℕ) → label ≢ get_or p s 0 → get_or (set numbers (get_or p s 0) 1) label 0 ≡ get_or numbers label 0
    there label other = get_or-set_other numbers (get_or p s 0) label 1 0 other

    earlier : (t : ℕ) → t < s → get_or p t 0 ≢ get_or p s 0
    earlier t below same = absurd (omega (arith, so_far.some t below, ap (λ (label : ℕ). get_or numbers label 0) same, none))

-- one earlier state has the label of state s
pub numbers_second : (p numbers : List ℕ) (count s : ℕ) → AreRowNumbers p numbers count s → get_or p s 0 < length numbers → get_or numbers (get_or p s 0) 0 ≡ 1 → AreRowNumbers p (set numbers (get_or p s 0) (count + 2)) (count + 1) (s + 1)
numbers_second p numbers count s so_far room one = record {
  few = omega (arith, so_far.few);
  small = λ label. elim (cases_eq label (get_or p s 0)) [
    | inl at ↦ omega (arith, here label at)
    | inr other ↦ omega (arith, there label other, so_far.small label)
  ];
  some = λ t within. elim (cases_eq (get_or p t 0) (get_or p s 0)) [
    | inl at ↦ omega (arith, here (get_or p t 0) at)
    | inr other ↦ omega (arith, there (get_or p t 0) other, so_far.some t (earlier t within other))
  ];
  named = λ label some. elim (cases_eq label (get_or p s 0)) [
    | inl at ↦ (s, omega arith, sym at)
    | inr other ↦ let old = so_far.named label (omega (arith, some, there label other)) in (old.0, omega (arith, old.1), old.2)
  ];
  alone = λ t u in_t in_u same is. elim (cases_eq (get_or p t 0) (get_or p s 0)) [
    | inl at ↦ absurd (omega (arith, is, here (get_or p t 0) at))
    | inr other ↦ so_far.alone t u (earlier t in_t other) (earlier u in_u (λ at. other (same ∙ at))) same (sym (there (get_or p t 0) other) ∙ is)
  ];
  shared = λ label high. elim (cases_eq label (get_or p s 0)) [
    | inl at ↦
        let old = so_far.named (get_or p s 0) (omega (arith, one)) in
        record { one = old.0; other = s; apart = old.1; within = omega arith; first = old.2 ∙ sym at; second = sym at }
    | inr other ↦ two_more p s label (so_far.shared label (omega (arith, high, there label other)))
  ];
  once = λ a b same high. elim (cases_eq a (get_or p s 0)) [
    | inl a_at ↦ elim (cases_eq b (get_or p s 0)) [
      | inl b_at ↦ a_at ∙ sym b_at
      | inr b_other ↦ absurd (omega (arith, same, here a a_at, there b b_other, so_far.small b))
    ]
    | inr a_other ↦ elim (cases_eq b (get_or p s 0)) [
      | inl b_at ↦ absurd (omega (arith, same, here b b_at, there a a_other, so_far.small a))
      | inr b_other ↦ so_far.once a b (sym (there a a_other) ∙ same ∙ there b b_other) (omega (arith, high, there a a_other))
    ]
  ];
  used = λ i within. elim (cases_eq i count) [
    | inl last ↦ (get_or p s 0, here (get_or p s 0) refl ∙ ap (λ (k : ℕ). k + 2) (sym last))
    | inr other ↦
        let old = so_far.used i (omega arith) in
        (old.0, there old.0 (λ at. absurd (omega (arith, old.1, one, ap (λ (label : ℕ). get_or numbers label 0) at))) ∙ old.1)
  ];
}
  where
    here : (label : ℕ) → label ≡ get_or p s 0 → get_or (set numbers (get_or p s 0) (count + 2)) label 0 ≡ count + 2
    here label at = ap (λ (k : ℕ). get_or (set numbers (get_or p s 0) (count + 2)) k 0) at ∙ get_or-set_same numbers (get_or p s 0) (count + 2) 0 room

    there : (label : ℕ) → label ≢ get_or p s 0 → get_or (set numbers (get_or p s 0) (count + 2)) label 0 ≡ get_or numbers label 0
    there label other = get_or-set_other numbers (get_or p s 0) label (count + 2) 0 other

    earlier : (t : ℕ) → t < s + 1 → get_or p t 0 ≢ get_or p s 0 → t < s
    earlier t below other =
        elim (cases_eq t s) [
          | inl at ↦ absurd (other (ap (λ (k : ℕ). get_or p k 0) at))
          | inr apart ↦ omega arith
        ]

-- more than one earlier state has the label of state s
pub numbers_later : (p numbers : List ℕ) (count s : ℕ) → AreRowNumbers p numbers count s → get_or numbers (get_or p s 0) 0 ≢ 0 → get_or numbers (get_or p s 0) 0 ≢ 1 → AreRowNumbers p numbers count (s + 1)
numbers_later p numbers count s so_far some more = record {
  few = omega (arith, so_far.few);
  small = so_far.small;
  some = λ t within. elim (cases_eq t s) [
    | inl at ↦ omega (arith, some, ap (λ (k : ℕ). get_or numbers (get_or p k 0) 0) at)
    | inr other ↦ so_far.some t (omega arith)
  ];
  named = λ label some_has. let old = so_far.named label some_has in (old.0, omega (arith, old.1), old.2);
  alone = λ t u in_t in_u same one. so_far.alone t u (earlier t in_t one) (earlier u in_u (sym (ap (λ (label : ℕ). get_or numbers label 0) same) ∙ one)) same one;
  shared = λ label high. two_more p s label (so_far.shared label high);
  once = so_far.once;
  used = so_far.used;
}
  where
    earlier : (t : ℕ) → t < s + 1 → get_or numbers (get_or p t 0) 0 ≡ 1 → t < s
    earlier t below one =
        elim (cases_eq t s) [
          | inl at ↦ absurd (more (sym (ap (λ (k : ℕ). get_or numbers (get_or p k 0) 0) at) ∙ one))
          | inr other ↦ omega arith
        ]

-- the word and the bit of a state in a row
pub place_word : (width i t : ℕ) → place_in width i t / 64 ≡ i * width + t / 64
place_word width i t = let k : ℕ = i * width in omega arith

pub place_bit : (width i t : ℕ) → place_in width i t % 64 ≡ t % 64
place_bit width i t = let k : ℕ = i * width in omega arith

-- two places are one only where their rows and states are
pub same_place : (width i j s t : ℕ) → s < 64 * width → t < 64 * width → place_in width i s ≡ place_in width j t → (i ≡ j) × (s ≡ t)
same_place width i j s t in_s in_t same =
    same_from_place i s j t (width * 64) (omega arith) (omega arith) (sym (ap (λ (k : ℕ). k + s) (turned i)) ∙ same ∙ ap (λ (k : ℕ). k + t) (turned j))
  where
    turned : (k : ℕ) → k * width * 64 ≡ k * (width * 64)
    turned k = mul_assoc k width 64

-- a word with the bit of a state set
pub word_set : (words : List ℕ) (width i s : ℕ) → set words (i * width + s / 64) (bit_or (get_or words (i * width + s / 64) 0) (1 * 2 ^ (s % 64) % 2 ^ 64)) ≡ with_bit words (place_in width i s)
word_set words width i s =
    ap (λ (k : ℕ). set words k (bit_or (get_or words k 0) (1 * 2 ^ (s % 64) % 2 ^ 64))) (sym (place_word width i s))
    ∙ ap (λ (b : ℕ). set words (place_in width i s / 64) (bit_or (get_or words (place_in width i s / 64) 0) (1 * 2 ^ b % 2 ^ 64))) (sym (place_bit width i s))

-- the bits that are set so far
abbrev pub ArePut : (labels numbers words : List ℕ) (width s : ℕ) → Type 0
ArePut labels numbers words width s = (i t : ℕ) → t < 64 * width → Has words (place_in width i t) ↔ ((t < s) × (get_or numbers (get_or labels t 0) 0 ≡ i + 2))

pub put_none : (labels numbers words : List ℕ) (width : ℕ) → ((k : ℕ) → bit_of words k ≡ 0) → ArePut labels numbers words width 0
put_none labels numbers words width none i t within = ((λ on. absurd (omega (arith, on, none (place_in width i t)))), (λ held. absurd (omega (arith, held.0))))

-- state s has a row
pub put_one : (labels numbers words : List ℕ) (width s at : ℕ) → ArePut labels numbers words width s → s < 64 * width → 2 ≤ get_or numbers (get_or labels s 0) 0
    → at ≡ place_in width (get_or numbers (get_or labels s 0) 0 - 2) s → at / 64 < length words → ArePut labels numbers (with_bit words at) width (s + 1)
put_one labels numbers words width s at so_far inside high is room i t within =
    elim (cases_eq (place_in width i t) at) [
      | inl here ↦
          let place = same_place width i (get_or numbers (get_or labels s 0) 0 - 2) t s within inside (here ∙ is) in
          let number : get_or numbers (get_or labels t 0) 0 ≡ i + 2 = ap (λ (k : ℕ). get_or numbers (get_or labels k 0) 0) place.1 ∙ omega (arith, place.0, high) in
          ((λ _. (omega (arith, place.1), number)), (λ _. ap (bit_of (with_bit words at)) here ∙ bit_set words at room))
      | inr apart ↦
          let kept : bit_of (with_bit words at) (place_in width i t) ≡ bit_of words (place_in width i t) = bits_set_other words at (place_in width i t) room apart in
          let old = so_far i t within in (
            (λ on. let held = old.0 (sym kept ∙ on) in (omega (arith, held.0), held.1)),
            (λ held. kept ∙ old.1 (
              elim (cases_eq t s) [
                | inl now ↦ absurd (apart (elsewhere now held.1))
                | inr other ↦ omega (arith, held.0)
              ],
              held.1,
            )),
          )
    ]
  where
    elsewhere : t ≡ s → get_or numbers (get_or labels t 0) 0 ≡ i + 2 → place_in width i t ≡ at
    elsewhere now number =
        let row : i ≡ get_or numbers (get_or labels s 0) 0 - 2 = omega (arith, number, ap (λ (k : ℕ). get_or numbers (get_or labels k 0) 0) now) in
        ap (λ (k : ℕ). place_in width k t) row ∙ ap (place_in width (get_or numbers (get_or labels s 0) 0 - 2)) now ∙ sym is

-- state s has none
pub put_no : (labels numbers words : List ℕ) (width s : ℕ) → ArePut labels numbers words width s → get_or numbers (get_or labels s 0) 0 < 2 → ArePut labels numbers words width (s + 1)
put_no labels numbers words width s so_far low i t within =
    let old = so_far i t within in (
      (λ on. let held = old.0 on in (omega (arith, held.0), held.1)),
      (λ held. old.1 (
        elim (cases_eq t s) [
          | inl now ↦ absurd (omega (arith, low, held.1, ap (λ (k : ℕ). get_or numbers (get_or labels k 0) 0) now))
          | inr other ↦ omega (arith, held.0)
        ],
        held.1,
      )),
    )

-- the rows of all states are those of the blocks
pub rows_are : (p numbers words : List ℕ) (width count : ℕ) → length words ≡ count * width → length p ≤ 64 * width → AreRowNumbers p numbers count (length p) → ArePut p numbers words width (length p) → AreRows p words width count
rows_are p numbers words width count size wide are put = record {
  size = size;
  block = λ i s t within in_s in_t on.
      let held = (put i s in_s).0 on in (
        (λ other. let there = (put i t in_t).0 other in (held.0, there.0, are.once (get_or p s 0) (get_or p t 0) (held.1 ∙ sym there.1) (omega (arith, held.1)))),
        (λ together. (put i t in_t).1 (together.1, sym (ap (λ (label : ℕ). get_or numbers label 0) together.2) ∙ held.1)),
      );
  listed = λ s t together apart.
      let number : ℕ = get_or numbers (get_or p s 0) 0 in
      let high : 2 ≤ number = elim (cases_eq number 1) [
        | inl one ↦ absurd (apart (are.alone s t together.0 together.1 together.2 one))
        | inr other ↦ omega (arith, are.some s together.0)
      ] in
      (number - 2, omega (arith, are.small (get_or p s 0)), (put (number - 2) s (omega (arith, together.0))).1 (together.0, omega arith));
  shared = λ i within.
      let label = are.used i within in
      let two = are.shared label.0 (omega (arith, label.1)) in
      let in_one : two.one < length p = omega (arith, two.apart, two.within) in
      (two.one, two.other, (λ same. absurd (omega (arith, two.apart, same))), (in_one, two.within, two.first ∙ sym two.second), (put i two.one (omega (arith, in_one, wide))).1 (in_one, ap (λ (k : ℕ). get_or numbers k 0) two.first ∙ label.1));
  once = λ i j s in_i in_j in_s on_i on_j. omega (arith, ((put i s in_s).0 on_i).1, ((put j s in_s).0 on_j).1);
}

-- they are as many as the words make
pub all_rows : (p words : List ℕ) (width count : ℕ) → AreRows p words width count → width ≡ words_for (length p) → 0 < length p → AreRowsOf p words
all_rows p words width count are is some =
    let positive : 0 < width = omega (arith, is) in
    let number : count ≡ length words / width = sym (ap (λ (n : ℕ). n / width) are.size ∙ mul-div_cancel count positive) in
    subst (λ (w : ℕ). AreRows p words w (length words / w)) is (subst (AreRows p words width) number are)

-- a row ends where the next one begins
pub row_end : (i count width : ℕ) → i < count → i * width + width ≤ count * width
row_end i count width within = omega (arith, mul-le (i + 1) width count width (omega arith) (omega arith), one_more)
  where
    one_more : (i + 1) * width ≡ i * width + width
    one_more = omega arith

-- the bits of the words of a row
pub bits_of_row : (words : List ℕ) (width i t : ℕ) → t < 64 * width → bit_of (take width (drop (i * width) words)) t ≡ bit_of words (place_in width i t)
bits_of_row words width i t within =
    ap (λ (word : ℕ). bit_at word (t % 64)) (get_or-take width (drop (i * width) words) (t / 64) 0 (omega arith) ∙ get_or-drop (i * width) words (t / 64) 0)
    ∙ sym (ap (λ (k : ℕ). bit_at (get_or words k 0) (place_in width i t % 64)) (place_word width i t) ∙ ap (bit_at (get_or words (i * width + t / 64) 0)) (place_bit width i t))

-- rows in hand are those of the partition
pub in_hand : (p items rows : List ℕ) (n width count : ℕ) → AreRowsOf p items → rows ≡ items → n ≡ length p → width ≡ words_for n → count ≡ length rows / width → AreRows p rows width count
in_hand p items rows n width count are same states wide number =
    let is : width ≡ words_for (length p) = wide ∙ ap words_for states in
    let all : count ≡ length items / words_for (length p) = number ∙ ap (λ (words : List ℕ). length words / width) same ∙ ap (λ (w : ℕ). length items / w) is in
    rw (same, is, all) are

-- the words of row i
pub row_slice : (rows : List ℕ) (width i at t : ℕ) → at ≡ i * width → t < 64 * width → bit_of (take (at + width - at) (drop at rows)) t ≡ bit_of rows (place_in width i t)
row_slice rows width i at t is within =
    let size : at + width - at ≡ width = omega arith in
    ap (λ (n : ℕ). bit_of (take n (drop at rows)) t) size ∙ ap (λ (from : ℕ). bit_of (take width (drop from rows)) t) is ∙ bits_of_row rows width i t within

pub slice_past : (rows : List ℕ) (width at t : ℕ) → 64 * width ≤ t → bit_of (take (at + width - at) (drop at rows)) t ≡ 0
slice_past rows width at t past = bit_of_past (take (at + width - at) (drop at rows)) t (omega (arith, length-take {A = ℕ} (at + width - at) (drop at rows)))

-- they have the states of the block of s
pub row_block : (p rows : List ℕ) (width count i s at t : ℕ) → AreRows p rows width count → length p ≤ 64 * width → s < length p → i < count → at ≡ i * width → Has rows (place_in width i s)
    → Has (take (at + width - at) (drop at rows)) t ↔ Together p s t
row_block p rows width count i s at t are wide within row is on =
    elim (cases_lt t (64 * width)) [
      | inl inside ↦
          let bit = row_slice rows width i at t is inside in
          let block = are.block i s t row (omega arith) inside on in
          ((λ has. block.0 (sym bit ∙ has)), (λ together. bit ∙ block.1 together))
      | inr past ↦
          ((λ has. absurd (omega (arith, has, slice_past rows width at t past))), (λ together. absurd (omega (arith, together.1, wide))))
    ]

pub row_above : (p rows : List ℕ) (width count i s at t : ℕ) → AreRows p rows width count → length p ≤ 64 * width → s < length p → i < count → at ≡ i * width → Has rows (place_in width i s)
    → length p ≤ t → bit_of (take (at + width - at) (drop at rows)) t ≡ 0
row_above p rows width count i s at t are wide within row is on above =
    elim (cases_lt (bit_of (take (at + width - at) (drop at rows)) t) 1) [
      | inl none ↦ omega arith
      | inr some ↦
          let together = (row_block p rows width count i s at t are wide within row is on).0 (omega (arith, some, bit_of-lt (take (at + width - at) (drop at rows)) t)) in
          absurd (omega (arith, together.1, above))
    ]

-- a state that no row has is alone
pub row_none : (p rows row : List ℕ) (width count s t : ℕ) → AreRows p rows width count → s < length p → ((i : ℕ) → i < count → bit_of rows (place_in width i s) ≡ 0) → Has row t ↔ (t ≡ s) → Has row t ↔ Together p s t
row_none p rows row width count s t are within none single = (
  (λ on. let same = single.0 on in (within, omega (arith, same, within), sym (ap (λ (k : ℕ). get_or p k 0) same))),
  (λ together. elim (cases_eq s t) [
    | inl same ↦ single.1 (sym same)
    | inr apart ↦ let row = are.listed s t together apart in absurd (omega (arith, row.2, none row.0 row.1))
  ]),
)

-- the states of row i
pub row_states : (rows states : List ℕ) (width i at : ℕ) → width ≤ 4 → at ≡ i * width → states ≡ four_of (take (at + width - at) (drop at rows))
    → ((t : ℕ) → t < 64 * width → bit_of states t ≡ bit_of rows (place_in width i t)) × ((t : ℕ) → Has states t → t < 64 * width)
row_states rows states width i at few is states_are = (
  (λ t within. bits t ∙ row_slice rows width i at t is within),
  (λ t on. elim (cases_lt t (64 * width)) [
    | inl inside ↦ inside
    | inr past ↦ absurd (omega (arith, on, bits t, slice_past rows width at t past))
  ]),
)
  where
    bits : (t : ℕ) → bit_of states t ≡ bit_of (take (at + width - at) (drop at rows)) t
    bits t =
        ap (λ (words : List ℕ). bit_of words t) states_are ∙ bits_of_four (take (at + width - at) (drop at rows)) t (omega (arith, few, length-take {A = ℕ} (at + width - at) (drop at rows)))

pub zeros_read : (m k z : ℕ) → z ≡ 0 → get_or (replicate m z) k 0 ≡ 0
zeros_read m k z is =
    elim (cases_lt k m) [
      | inl inside ↦ get_or-replicate m k z 0 inside ∙ is
      | inr past ↦ get_or_past (replicate m z) k 0 (omega (arith, length-replicate m z))
    ]
