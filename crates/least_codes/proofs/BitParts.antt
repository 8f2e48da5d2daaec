-- What the partitions of the bits of codes give for codes and parts.
use Rattle.std.proofs.Common.{◌≡◌, ◌∙◌, ℕ, zero, suc, ◌+◌, ◌^◌, ◌<◌, ◌≤◌, ◌==◌, ◌&&◌, Bool, true, false, cond, List, [], ◌∷◌, ◌++◌, length, get_or, map, take, Some, inl, inr, refl, ap, sym, subst, arith}
use Rattle.std.proofs.lemmas.Bool.{cases_eq, cases_lt}
use Rattle.std.proofs.lemmas.List.{get_or-map, get_or_append_left, get_or_past, get_or_push, length-map, length_push}
use Rattle.std.proofs.lemmas.List.Elements.{All-head, All-tail, All-from_get_or}
use Rattle.std.proofs.lemmas.Nat.Bits.{bit_at-lt, bit_at-zero, bit_at_above, bit_at_lowest, same_from_bits_below}
use Rattle.std.proofs.lemmas.Option.{get_or_from_slice_get, slice_get-get_or, slice_get_within}
use Rattle.std.proofs.Math.Nat.{le-max_left, max-le}
use Rattle.std.specs.Int.{bit_at}
use Rattle.std.specs.List.{All, slice_get}
use Rattle.partition.specs.Partition.{IsNumbered, IsPartition, IsStateCount, Together, blocks_of}
use Rattle.partition.specs.Laws.Labels.{label-lt-blocks_of}
use Rattle.state_codes.specs.declared.split.Part.{Part}
use Rattle.state_codes.specs.declared.Codes.{Codes}
use Rattle.state_codes.specs.Agreement.{IsBitPartition}
use Rattle.state_codes.specs.Code.{AreInside, IsCode, Place, Spells, bit_of, need, places_of, state_code}
use Rattle.state_codes.specs.Kinds.{IsOwnCarrier, PartsMeetInZero}
use Rattle.state_codes.specs.Laws.Need.{need_is}
use Rattle.state_codes.specs.Laws.Splits.{given_parts-length}
use Rattle.state_codes.specs.Split.{given_parts, others, own_part}
use Rattle.least_codes.specs.Inner.Parts.{AreBitLabels, bit_labels}
use Rattle.kiss_file.specs.declared.file.KissFile.{KissFile}
use Rattle.least_codes.specs.Kind.{GiveLeastCode, IsLeastSplit}
use Rattle.least_codes.specs.LeastCode.{AreCodeWords, IsLeastCode}
use Rattle.state_codes.specs.Laws.OwnCarriers.{inside_itself, zeros, zeros_need}

-- the label of a state is its bit
pub label_at : (n : ℕ) (words : List ℕ) (i s : ℕ) → length words ≡ n → s < n → get_or (bit_labels i words) s 0 ≡ bit_at (get_or words s 0) i
label_at n words i s size within = get_or-map (λ (word : ℕ). bit_at word i) words s 0 0 (omega (arith, within, size))

pub labels_length : (words : List ℕ) (i : ℕ) → length (bit_labels i words) ≡ length words
labels_length words i = length-map words (λ (word : ℕ). bit_at word i)

-- a first label names a block
some_block : (p : List ℕ) (s : ℕ) → s < length p → 0 < blocks_of (take (suc s) p)
some_block [] s within = absurd (omega (arith, within))
some_block (label ∷ p) s within = omega (arith, le-max_left (label + 1) (blocks_of (take s p)))

-- labels 0 and 1, of which the first is 0, are a partition
pub labels_lawful : (n : ℕ) (words : List ℕ) (i : ℕ) → IsStateCount n → length words ≡ n → bit_at (get_or words 0 0) i ≡ 0 → IsPartition n (bit_labels i words)
labels_lawful n words i count size none = record {
  count = count;
  length = labels_length words i ∙ size;
  numbered = numbered;
} where
  numbered : IsNumbered (bit_labels i words)
  numbered zero within = omega (arith, label_at n words i 0 size count.0, none)
  numbered (suc s) within =
      let below : suc s < n = omega (arith, within, labels_length words i, size) in
      omega (arith, label_at n words i (suc s) size below, bit_at-lt (get_or words (suc s) 0) i, some_block (bit_labels i words) s (omega (arith, within)))

-- those of one bit more
pub labels_more : (words : List ℕ) (i : ℕ) (partitions : List (List ℕ)) (p : List ℕ) → AreBitLabels i words partitions → p ≡ bit_labels i words → AreBitLabels (i + 1) words (partitions ++ p ∷ [])
labels_more words i partitions p before is = record {
  count = omega (arith, length_push partitions p, before.count);
  each = λ k below. elim (cases_eq k i) [
    | inl at ↦
        let last : get_or (partitions ++ p ∷ []) k [] ≡ p = get_or_push partitions p [] k (omega (arith, at, before.count)) in
        slice_get-get_or (partitions ++ p ∷ []) k [] (omega (arith, below, length_push partitions p, before.count)) ∙ ap Some (last ∙ is ∙ ap (λ (j : ℕ). bit_labels j words) (sym at))
    | inr other ↦
        let low : k < i = omega (arith, below, other) in
        let same : get_or (partitions ++ p ∷ []) k [] ≡ get_or partitions k [] = get_or_append_left partitions (p ∷ []) [] k (omega (arith, low, before.count)) in
        slice_get-get_or (partitions ++ p ∷ []) k [] (omega (arith, below, length_push partitions p, before.count)) ∙ ap Some (same ∙ get_or_from_slice_get partitions k (bit_labels k words) [] (before.each k low))
  ];
}

few_blocks : (p : List ℕ) → ((s : ℕ) → s < length p → get_or p s 0 < 2) → blocks_of p ≤ 2
few_blocks [] small = omega arith
few_blocks (label ∷ p) small =
    max-le {a = label + 1} {b = blocks_of p} {k = 2} (omega (arith, small 0 (omega arith))) (few_blocks p (λ s within. small (suc s) (omega (arith, within))))

-- with a 1 somewhere they have two blocks
two_blocks : (n : ℕ) (words : List ℕ) (i s : ℕ) → length words ≡ n → s < n → bit_at (get_or words s 0) i ≡ 1 → blocks_of (bit_labels i words) ≡ 2
two_blocks n words i s size within one =
    let few : blocks_of (bit_labels i words) ≤ 2 = few_blocks (bit_labels i words) (λ t below.
    let in_words : t < n = omega (arith, below, labels_length words i, size) in
    omega (arith, label_at n words i t size in_words, bit_at-lt (get_or words t 0) i)) in
    omega (arith, few, label_at n words i s size within, one, label-lt-blocks_of (bit_labels i words) s (omega (arith, within, labels_length words i, size)))

need_two : need 2 ≡ 1
need_two = need_is 2 1 (record { enough = omega arith; least = λ fewer enough. elim (cases_eq fewer 0) [ inl none ↦ absurd (omega (arith, enough, ap (λ (k : ℕ). 2 ^ k) none)) | inr some ↦ omega (arith, some) ] })

-- one bit a part, that of its label
one_place : ℕ → List ℕ → Place
one_place j p = record { part = j; carried = true; labels = p; weight = 0 }

abbrev places_from : ℕ → List (List ℕ) → List Place
places_from j [] = []
places_from j (p ∷ partitions) = record { part = j; carried = true; labels = p; weight = 0 } ∷ places_from (suc j) partitions

-- partitions of n states with two blocks
abbrev Halved : ℕ → List ℕ → Type 0
Halved n p = IsPartition n p × (blocks_of p ≡ 2)

inners_of : List (List ℕ) → List (List ℕ)
inners_of partitions = map zeros partitions

module _ (n count : ℕ) where
  are_inside : (j : ℕ) (partitions : List (List ℕ)) → All (Halved n) partitions → AreInside (given_parts count j partitions) (inners_of partitions)
  unfolding inners_of
  are_inside j [] all = tt
  are_inside j (p ∷ partitions) all =
      (inside_itself n p (All-head (Halved n) p partitions all).0, are_inside (suc j) partitions (All-tail (Halved n) p partitions all))

  are_places : (j : ℕ) (partitions : List (List ℕ)) → All (Halved n) partitions → places_of j (given_parts count j partitions) (inners_of partitions) ≡ places_from j partitions
  unfolding inners_of
  are_places j [] all = refl
  are_places j (p ∷ partitions) all =
      let half : Halved n p = All-head (Halved n) p partitions all in
      let one : need (blocks_of p) ≡ 1 = ap need half.1 ∙ need_two in
      let none : need (blocks_of (zeros p)) ≡ 0 = zeros_need n p half.0 in
      rw (one, none) (ap (λ (rest : List Place). record { part = j; carried = true; labels = p; weight = 0 } ∷ rest) (are_places (suc j) partitions (All-tail (Halved n) p partitions all)))

places_length : (j : ℕ) (partitions : List (List ℕ)) → length (places_from j partitions) ≡ length partitions
places_length j [] = refl
places_length j (p ∷ partitions) = ap suc (places_length (suc j) partitions)

-- bit i of a state is the lowest one of its label in partition i
coded_at : (j : ℕ) (partitions : List (List ℕ)) (s i : ℕ) → i < length partitions → get_or (state_code (places_from j partitions) s) i 0 ≡ bit_at (get_or (get_or partitions i []) s 0) 0
coded_at j [] s i within = absurd (omega (arith, within))
coded_at j (p ∷ partitions) s zero within = refl
coded_at j (p ∷ partitions) s (suc i) within = coded_at (suc j) partitions s i (omega (arith, within))

code_length : (j : ℕ) (partitions : List (List ℕ)) (s : ℕ) → length (state_code (places_from j partitions) s) ≡ length partitions
code_length j partitions s = length-map (places_from j partitions) (bit_of s) ∙ places_length j partitions

-- the part of each partition
pub given_at : (count j i k : ℕ) (partitions : List (List ℕ)) (p : List ℕ) → slice_get partitions i ≡ Some p → k ≡ j + i → slice_get (given_parts count j partitions) i ≡ Some (own_part p (others count k))
given_at count j i k [] p at is = cc
given_at count j zero k (first ∷ partitions) p at is =
    let here : j ≡ k = omega (arith, is) in
    let same : first ≡ p = cc in
    ap (λ (m : ℕ). Some (own_part first (others count m))) here ∙ ap (λ (q : List ℕ). Some (own_part q (others count k))) same
given_at count j (suc i) k (first ∷ partitions) p at is = given_at count (suc j) i k partitions p at (omega (arith, is))

-- partitions of the bits of codes in which each bit is 1 for some state, and state 0 has zeros
module _ (n bits : ℕ) (words : List ℕ) (partitions : List (List ℕ)) (count : IsStateCount n) (codes : AreCodeWords n bits words) (are : AreBitLabels bits words partitions) (first : get_or words 0 0 ≡ 0)
    (some : (i : ℕ) → i < bits → (s : ℕ) × (s < n) × (bit_at (get_or words s 0) i ≡ 1)) where
  read : (i : ℕ) → i < bits → get_or partitions i [] ≡ bit_labels i words
  read i below = get_or_from_slice_get partitions i (bit_labels i words) [] (are.each i below)

  lawful_at : (i : ℕ) → i < bits → IsPartition n (bit_labels i words)
  lawful_at i below = labels_lawful n words i count codes.count (ap (λ (word : ℕ). bit_at word i) first ∙ bit_at-zero i)

  halved_at : (i : ℕ) → i < bits → Halved n (bit_labels i words)
  halved_at i below = let found : (s : ℕ) × (s < n) × (bit_at (get_or words s 0) i ≡ 1) = some i below in (lawful_at i below, two_blocks n words i found.0 codes.count found.1 found.2)

  halves : All (Halved n) partitions
  halves = All-from_get_or (Halved n) partitions [] (λ i within. let below : i < bits = omega (arith, within, are.count) in subst (Halved n) (sym (read i below)) (halved_at i below))

  pub lawful_all : All (IsPartition n) partitions
  lawful_all = All-from_get_or (IsPartition n) partitions [] (λ i within. let below : i < bits = omega (arith, within, are.count) in subst (IsPartition n) (sym (read i below)) (lawful_at i below))

  -- states are together in the partition of a bit where they have it alike
  pub bit_partition_at : (i : ℕ) → i < bits → IsBitPartition n words i (bit_labels i words)
  bit_partition_at i below = record {
    lawful = lawful_at i below;
    together = λ s t in_s in_t. (
      (λ held. sym (label_at n words i s codes.count in_s) ∙ held.2 ∙ label_at n words i t codes.count in_t),
      (λ agree. (omega (arith, in_s, labels_length words i, codes.count), omega (arith, in_t, labels_length words i, codes.count), label_at n words i s codes.count in_s ∙ agree ∙ sym (label_at n words i t codes.count in_t))),
    );
  }

  abbrev pub parts_here : List Part
  parts_here = given_parts bits 0 partitions

  parts_length : length parts_here ≡ bits
  parts_length = given_parts-length bits 0 partitions ∙ are.count

  part_at : (i : ℕ) → i < bits → slice_get parts_here i ≡ Some (own_part (bit_labels i words) (others bits i))
  part_at i below = given_at bits 0 i i partitions (bit_labels i words) (are.each i below) (omega arith)

  part_is : (i : ℕ) (part : Part) → slice_get parts_here i ≡ Some part → part ≡ own_part (bit_labels i words) (others bits i)
  part_is i part at =
      let same : slice_get parts_here i ≡ Some (own_part (bit_labels i words) (others bits i)) = part_at i (omega (arith, slice_get_within parts_here i part at, parts_length)) in
      cc

  get_part : (i : ℕ) (d : Part) → i < length parts_here → get_or parts_here i d ≡ own_part (bit_labels i words) (others bits i)
  get_part i d within = get_or_from_slice_get parts_here i (own_part (bit_labels i words) (others bits i)) d (part_at i (omega (arith, within, parts_length)))

  in_zero : 0 < bits → PartsMeetInZero parts_here
  in_zero any s t held =
      let d : Part = own_part [] [] in
      let at : (i : ℕ) → i < bits → Together (bit_labels i words) s t = λ i below.
      let within : i < length parts_here = omega (arith, below, parts_length) in
      subst (λ (part : Part). Together part.partition s t) (get_part i d within) (held i d within) in
      let in_s : s < n = omega (arith, (at 0 any).0, labels_length words 0, codes.count) in
      let in_t : t < n = omega (arith, (at 0 any).1, labels_length words 0, codes.count) in
      codes.distinct s t in_s in_t (same_from_bits_below bits (get_or words s 0) (get_or words t 0) (codes.short s in_s) (codes.short t in_t)
      (λ i below. sym (label_at n words i s codes.count in_s) ∙ (at i below).2 ∙ label_at n words i t codes.count in_t))

  pub least_split : 0 < bits → IsLeastSplit parts_here
  least_split any = record {
    own = λ i d within. let is : get_or parts_here i d ≡ own_part (bit_labels i words) (others bits i) = get_part i d within in subst IsOwnCarrier (sym is) refl;
    two_blocks = λ i d within.
        let is : get_or parts_here i d ≡ own_part (bit_labels i words) (others bits i) = get_part i d within in
        subst (λ (part : Part). blocks_of part.partition ≡ 2) (sym is) (halved_at i (omega (arith, within, parts_length))).1;
    in_zero = in_zero any;
    reads = λ j part at. ap (λ (one : Part). one.reads) (part_is j part at) ∙ ap (λ (k : ℕ). others k j) (sym parts_length);
  }

  abbrev places : List Place
  places = places_from 0 partitions

  abbrev codes_here : Codes
  codes_here = record { bits = length places; words = words; owner = map (λ (place : Place). place.part) places; carried = map (λ (place : Place). place.carried) places }

  spelled : (s : ℕ) → s < n → Spells (get_or words s 0) (state_code places s)
  spelled s within i =
      elim (cases_lt i bits) [
        | inl below ↦
            let coded : get_or (state_code (places_from 0 partitions) s) i 0 ≡ bit_at (get_or (get_or partitions i []) s 0) 0 = coded_at 0 partitions s i (omega (arith, below, are.count)) in
            let label : get_or (get_or partitions i []) s 0 ≡ bit_at (get_or words s 0) i = ap (λ (p : List ℕ). get_or p s 0) (read i below) ∙ label_at n words i s codes.count within in
            let low : bit_at (bit_at (get_or words s 0) i) 0 ≡ bit_at (get_or words s 0) i = omega (arith, bit_at_lowest (bit_at (get_or words s 0) i), bit_at-lt (get_or words s 0) i) in
            sym (coded ∙ ap (λ (label : ℕ). bit_at label 0) label ∙ low)
        | inr above ↦
            bit_at_above (get_or words s 0) bits i (codes.short s within) above ∙ sym (get_or_past (state_code (places_from 0 partitions) s) i 0 (omega (arith, code_length 0 partitions s, are.count, above)))
      ]

  is_code : IsCode n parts_here codes_here
  is_code = record {
    inners = inners_of partitions;
    inside = are_inside n bits 0 partitions halves;
    written = record {
      size = ap length (sym (are_places n bits 0 partitions halves));
      states = codes.count;
      spelled = λ s within. subst (λ (list : List Place). Spells (get_or words s 0) (state_code list s)) (sym (are_places n bits 0 partitions halves)) (spelled s within);
      owners = ap (map (λ (place : Place). place.part)) (sym (are_places n bits 0 partitions halves));
      marks = ap (map (λ (place : Place). place.carried)) (sym (are_places n bits 0 partitions halves));
    };
  }

  pub give_least_code : (F : KissFile) → length F.states ≡ n → bits ≡ need n → IsLeastCode F words → GiveLeastCode F parts_here
  give_least_code F size needed least = record {
    codes = codes_here;
    given = subst (λ (m : ℕ). IsCode m parts_here codes_here) (sym size) is_code;
    least = least;
    size = places_length 0 partitions ∙ are.count ∙ needed ∙ ap need (sym size);
    count = parts_length ∙ sym (places_length 0 partitions ∙ are.count);
    bits = λ i part at.
        let is : part ≡ own_part (bit_labels i words) (others bits i) = part_is i part at in
        let below : i < bits = omega (arith, slice_get_within parts_here i part at, parts_length) in
        subst (λ (m : ℕ). IsBitPartition m words i part.partition) (sym size) (subst (λ (one : Part). IsBitPartition n words i one.partition) (sym is) (bit_partition_at i below));
  }
