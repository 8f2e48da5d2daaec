-- The labels of states by a set of the bits of their codes.
use Rattle.std.proofs.Common.{◌≡◌, ℕ, zero, suc, ◌+◌, ◌*◌, ◌%◌, ◌^◌, ◌<◌, ◌≤◌, ◌↔◌, inl, inr, min, List, [], ◌∷◌, ◌++◌, Contains, bit_and, bit_or, get_or, length, slice_get, take, refl, sym, ap, ◌∙◌, subst, w64, arith}
use Rattle.std.specs.Int.{bit_at}
use Rattle.std.proofs.lemmas.Bool.{cases_eq, cases_lt, cases_order}
use Rattle.std.proofs.lemmas.List.{get_or_append_left, get_or_push, length_push, length-take-le, take_all, take_more}
use Rattle.std.proofs.lemmas.List.Elements.{Contains-append_left, Contains-push, Contains-push_cases}
use Rattle.std.proofs.lemmas.Nat.Bits.{bit_at-lt, bit_at-zero, bit_at_and, bit_at_or, bit_at_set_other, bit_at_set_same, same_from_bits}
use Rattle.std.proofs.lemmas.Option.{get_or_from_slice_get, slice_get_within}
use Rattle.blif_out.specs.declared.header.LatchNote.{LatchNote}
use Rattle.dependence.specs.declared.sets.ReadSet.{ReadSet}
use Rattle.dependence.specs.SufficientBits.{InWord}
use Rattle.partition.specs.Partition.{IsNumbered, IsPartition, IsStateCount}
use Rattle.partition.specs.Laws.Labels.{IsNumbered-none, IsNumbered-push, blocks_of-le, blocks_of-push, label-lt-blocks_of}
use Rattle.state_codes.specs.declared.Codes.{Codes}
use Rattle.state_codes.specs.Agreement.{CodesAgreeAt, IsBitPartition}
use Rattle.decomposition.specs.Notes.{AreNotes, IsNoteOf, IsPartitionOn}
use Rattle.decomposition.specs.Inner.Labels.{AreLabelled, IsSeenAt}

-- ---- words that agree on a set
-- words with the same bits of the set agree there
agree_by_bits : (set a b : ℕ) → bit_and a set ≡ bit_and b set → (c : ℕ) → InWord set c → bit_at a c ≡ bit_at b c
agree_by_bits set a b same c inside =
    let one : bit_at set c ≡ 1 = inside in
    omega (arith, bit_at_and a set c, bit_at_and b set c, ap (λ (n : ℕ). bit_at n c) same, bit_at-lt a c, bit_at-lt b c)

-- and words that agree there have the same bits of it
bits_by_agree : (set a b : ℕ) → ((c : ℕ) → InWord set c → bit_at a c ≡ bit_at b c) → bit_and a set ≡ bit_and b set
bits_by_agree set a b agree =
    same_from_bits (bit_and a set) (bit_and b set)
    (λ c.
    elim (cases_eq (bit_at set c) 1) [
      | inl inside ↦ bit_at_and a set c ∙ ap (λ (n : ℕ). min n (bit_at set c)) (agree c inside) ∙ sym (bit_at_and b set c)
      | inr outside ↦
          let none : bit_at set c ≡ 0 = omega (arith, bit_at-lt set c) in
          omega (arith, bit_at_and a set c, bit_at_and b set c)
    ])

-- ---- labels
pub labelled_none : (words : List ℕ) (set : ℕ) → AreLabelled words set [] [] 0
labelled_none words set = record {
  size = refl;
  numbered = IsNumbered-none;
  blocks = refl;
  shown = λ s below. absurd (omega arith);
  apart = λ one two order within. absurd (omega arith);
}

-- a fact of each number below k and of k
below_next : {P : ℕ → Type 0} (k : ℕ) → ((i : ℕ) → i < k → P i) → P k → (i : ℕ) → i < k + 1 → P i
below_next {P} k before here i within =
    elim (cases_eq i k) [
      | inl at ↦ subst P (sym at) here
      | inr other ↦ before i (omega arith)
    ]

module _ (words : List ℕ) (set : ℕ) (seen labels : List ℕ) (count block : ℕ) (new : List ℕ) (so_far : AreLabelled words set seen labels count) (found : IsSeenAt seen (bit_and (get_or words count 0) set) block new) where
  abbrev value : ℕ
  value = bit_and (get_or words count 0) set

  label_old : (s : ℕ) → s < count → get_or (labels ++ block ∷ []) s 0 ≡ get_or labels s 0
  label_old s below = get_or_append_left labels (block ∷ []) 0 s (omega (arith, so_far.size))

  label_here : get_or (labels ++ block ∷ []) count 0 ≡ block
  label_here = get_or_push labels block 0 count so_far.size

  longer : length (labels ++ block ∷ []) ≡ count + 1
  longer = length_push labels block ∙ ap (λ (n : ℕ). n + 1) so_far.size

  numbered_more : IsNumbered (labels ++ block ∷ [])
  numbered_more = IsNumbered-push labels block so_far.numbered (omega (arith, found.within, so_far.blocks))

  label_low : (s : ℕ) → s < count → get_or labels s 0 < length seen
  label_low s below = omega (arith, label-lt-blocks_of labels s (omega (arith, so_far.size)), so_far.blocks)

  -- the word has a block
  into_block : block < length seen → AreLabelled words set new (labels ++ block ∷ []) (count + 1)
  into_block low =
      let known = found.known low in
      subst (λ (all : List ℕ). AreLabelled words set all (labels ++ block ∷ []) (count + 1)) (sym known.1)
      (record {
        size = longer;
        numbered = numbered_more;
        blocks = omega (arith, so_far.blocks, blocks_of-push labels block);
        shown = below_next {P = λ s. get_or seen (get_or (labels ++ block ∷ []) s 0) 0 ≡ bit_and (get_or words s 0) set} count
            (λ s below. ap (λ (b : ℕ). get_or seen b 0) (label_old s below) ∙ so_far.shown s below)
            (ap (λ (b : ℕ). get_or seen b 0) label_here ∙ known.0);
        apart = so_far.apart;
      })

  -- the word begins a block
  new_block : block ≡ length seen → AreLabelled words set new (labels ++ block ∷ []) (count + 1)
  new_block last =
      let more : length (seen ++ value ∷ []) ≡ length seen + 1 = length_push seen value in
      let old : (b : ℕ) → b < length seen → get_or (seen ++ value ∷ []) b 0 ≡ get_or seen b 0 = λ b below. get_or_append_left seen (value ∷ []) 0 b below in
      let here : get_or (seen ++ value ∷ []) (length seen) 0 ≡ value = get_or_push seen value 0 (length seen) refl in
      subst (λ (all : List ℕ). AreLabelled words set all (labels ++ block ∷ []) (count + 1)) (sym (found.begun last))
      (record {
        size = longer;
        numbered = numbered_more;
        blocks = omega (arith, so_far.blocks, blocks_of-push labels block, more);
        shown = below_next {P = λ s. get_or (seen ++ value ∷ []) (get_or (labels ++ block ∷ []) s 0) 0 ≡ bit_and (get_or words s 0) set} count
            (λ s below. ap (λ (b : ℕ). get_or (seen ++ value ∷ []) b 0) (label_old s below) ∙ old (get_or labels s 0) (label_low s below) ∙ so_far.shown s below)
            (ap (λ (b : ℕ). get_or (seen ++ value ∷ []) b 0) (label_here ∙ last) ∙ here);
        apart = λ one two order within same.
            elim (cases_lt two (length seen)) [
              | inl low ↦ so_far.apart one two order low (sym (old one (omega arith)) ∙ same ∙ old two low)
              | inr high ↦
                  let at : two ≡ length seen = omega (arith, more) in
                  found.before one (omega arith) (sym (old one (omega arith)) ∙ same ∙ ap (λ (b : ℕ). get_or (seen ++ value ∷ []) b 0) at ∙ here)
            ];
      })

  labelled_with : AreLabelled words set new (labels ++ block ∷ []) (count + 1)
  labelled_with =
      elim (cases_lt block (length seen)) [
        | inl low ↦ into_block low
        | inr high ↦ new_block (omega (arith, found.within))
      ]

-- one word more
pub labelled_more : (words : List ℕ) (set : ℕ) (seen labels : List ℕ) (count word block : ℕ) (new more : List ℕ) → AreLabelled words set seen labels count → word ≡ get_or words count 0
    → IsSeenAt seen (bit_and word set) block new → more ≡ labels ++ block ∷ [] → AreLabelled words set new more (count + 1)
labelled_more words set seen labels count word block new more so_far here found pushed =
    subst (λ (all : List ℕ). AreLabelled words set new all (count + 1)) (sym pushed)
    (labelled_with words set seen labels count block new so_far (subst (λ (w : ℕ). IsSeenAt seen (bit_and w set) block new) here found))

-- a block has a small number
pub block_small : (words : List ℕ) (set : ℕ) (seen labels : List ℕ) (count value block : ℕ) (new : List ℕ) → AreLabelled words set seen labels count → IsSeenAt seen value block new → block ≤ count
block_small words set seen labels count value block new so_far found =
    omega (arith, found.within, so_far.blocks, so_far.size, blocks_of-le labels so_far.numbered)

-- all words are labelled
pub labelled_all : (words : List ℕ) (set : ℕ) (seen labels : List ℕ) → IsStateCount (length words) → AreLabelled words set seen labels (length words) → IsPartitionOn words (InWord set) labels
labelled_all words set seen labels count all = record {
  lawful = record { count = count; length = all.size; numbered = all.numbered };
  together = λ s t in_s in_t. (
    (λ held c inside.
        agree_by_bits set (get_or words s 0) (get_or words t 0) (sym (all.shown s in_s) ∙ ap (λ (b : ℕ). get_or seen b 0) held.2 ∙ all.shown t in_t) c inside),
    (λ agree. (omega (arith, all.size), omega (arith, all.size), one_label s t in_s in_t (bits_by_agree set (get_or words s 0) (get_or words t 0) agree))),
  );
}
  where
    low : (s : ℕ) → s < length words → get_or labels s 0 < length seen
    low s inside = omega (arith, label-lt-blocks_of labels s (omega (arith, all.size)), all.blocks)

    one_label : (s t : ℕ) → s < length words → t < length words → bit_and (get_or words s 0) set ≡ bit_and (get_or words t 0) set → get_or labels s 0 ≡ get_or labels t 0
    one_label s t in_s in_t same =
        let seen_same : get_or seen (get_or labels s 0) 0 ≡ get_or seen (get_or labels t 0) 0 = all.shown s in_s ∙ same ∙ sym (all.shown t in_t) in
        elim (cases_order (get_or labels s 0) (get_or labels t 0)) [
          | inl equal ↦ equal
          | inr other ↦ elim other [
            | inl below ↦ absurd (all.apart (get_or labels s 0) (get_or labels t 0) below (low t in_t) seen_same)
            | inr above ↦ absurd (all.apart (get_or labels t 0) (get_or labels s 0) above (low s in_s) (sym seen_same))
          ]
        ]

-- the partition with these labels
pub partition_same : (words : List ℕ) (R : ℕ → Type 0) (labels lent p : List ℕ) → IsPartitionOn words R labels → lent ≡ labels → p ≡ lent → IsPartitionOn words R p
partition_same words R labels lent p is given same = subst (IsPartitionOn words R) (sym (same ∙ given)) is

-- its labels are lawful by themselves
pub own_count : (words : List ℕ) (R : ℕ → Type 0) (labels lent : List ℕ) → IsPartitionOn words R labels → lent ≡ labels → IsPartition (length lent) lent
own_count words R labels lent is given =
    subst (λ (p : List ℕ). IsPartition (length p) p) (sym given) (subst (λ (n : ℕ). IsPartition n labels) (sym is.lawful.length) is.lawful)

-- ---- sets as words
pub word_none : (set : ℕ) → set ≡ 0 → (c : ℕ) → InWord set c ↔ Contains [] c
word_none set none c = ((λ inside. absurd (omega (arith, bit_at-zero c, ap (λ (n : ℕ). bit_at n c) none, inside))), (λ (k, within, is). absurd (omega arith)))

-- one bit more
pub word_more : (bits : List ℕ) (i set bit : ℕ) → i < length bits → bit ≡ get_or bits i 0 → bit < 64 → ((c : ℕ) → InWord set c ↔ Contains (take i bits) c)
    → (c : ℕ) → InWord (bit_or set (1 * 2 ^ bit % 2 ^ 64)) c ↔ Contains (take (i + 1) bits) c
word_more bits i set bit within here small so_far c =
    let more : take (i + 1) bits ≡ take i bits ++ bit ∷ [] = take_more bits i 0 within ∙ ap (λ (b : ℕ). take i bits ++ b ∷ []) (sym here) in
    subst (λ (list : List ℕ). InWord (bit_or set (1 * 2 ^ bit % 2 ^ 64)) c ↔ Contains list c) (sym more)
    (elim (cases_eq c bit) [
      | inl same ↦ (
        (λ inside. subst (Contains (take i bits ++ bit ∷ [])) (sym same) (Contains-push (take i bits) bit)),
        (λ there. subst (InWord (bit_or set (1 * 2 ^ bit % 2 ^ 64))) (sym same) (bit_at_set_same w64 set bit small)),
      )
      | inr other ↦ (
        (λ inside. Contains-append_left (take i bits) (bit ∷ []) c ((so_far c).0 (sym (bit_at_set_other w64 set bit small c other) ∙ inside))),
        (λ there.
            elim (Contains-push_cases (take i bits) bit c there) [
              | inl before ↦ bit_at_set_other w64 set bit small c other ∙ (so_far c).1 before
              | inr last ↦ absurd (other (sym last))
            ]),
      )
    ])

pub word_all : (bits : List ℕ) (i set : ℕ) → length bits ≤ i → ((c : ℕ) → InWord set c ↔ Contains (take i bits) c) → (c : ℕ) → InWord set c ↔ Contains bits c
word_all bits i set done so_far c = subst (λ (list : List ℕ). InWord set c ↔ Contains list c) (take_all i bits done) (so_far c)

-- the word with one bit
word_one : (i : ℕ) → i < 64 → (c : ℕ) → InWord (1 * 2 ^ i % 2 ^ 64) c ↔ (c ≡ i)
word_one i small c =
    let word : ℕ = 1 * 2 ^ i % 2 ^ 64 in
    let alone : bit_at (bit_or 0 word) c ≡ bit_at word c = omega (arith, bit_at_or 0 word c, bit_at-zero c) in
    elim (cases_eq c i) [
      | inl same ↦ (
        (λ inside. same),
        (λ at. sym alone ∙ ap (bit_at (bit_or 0 word)) same ∙ bit_at_set_same w64 0 i small),
      )
      | inr other ↦ (
        (λ inside. absurd (omega (arith, bit_at_set_other w64 0 i small c other, alone, bit_at-zero c, inside))),
        (λ at. absurd (other at)),
      )
    ]

-- ---- notes
-- a partition by one set is one by any other with the same bits
pub partition_on : (words : List ℕ) (R S : ℕ → Type 0) (p : List ℕ) → ((c : ℕ) → R c ↔ S c) → IsPartitionOn words R p → IsPartitionOn words S p
partition_on words R S p same is = record {
  lawful = is.lawful;
  together = λ s t in_s in_t. (
    (λ held c inside. (is.together s t in_s in_t).0 held c ((same c).1 inside)),
    (λ agree. (is.together s t in_s in_t).1 (λ c inside. agree c ((same c).0 inside))),
  );
}

-- the partition by one bit
pub partition_of_bit : (words : List ℕ) (i : ℕ) (p : List ℕ) → i < 64 → IsPartitionOn words (InWord (1 * 2 ^ i % 2 ^ 64)) p → IsBitPartition (length words) words i p
partition_of_bit words i p small is = record {
  lawful = is.lawful;
  together = λ s t in_s in_t. (
    (λ held. (is.together s t in_s in_t).0 held i ((word_one i small i).1 refl)),
    (λ agree. (is.together s t in_s in_t).1 (λ c inside. subst (λ (b : ℕ). CodesAgreeAt words b s t) (sym ((word_one i small c).0 inside)) agree)),
  );
}

-- the note of a latch
pub note_is : (codes : Codes) (i : ℕ) (set : ReadSet) (words owner bits : List ℕ) (word : ℕ) (from to : List ℕ) → i < 64 → words ≡ codes.words → owner ≡ codes.owner → bits ≡ set.latches
    → ((c : ℕ) → InWord word c ↔ Contains bits c) → IsPartitionOn words (InWord word) from → IsPartitionOn words (InWord (1 * 2 ^ i % 2 ^ 64)) to
    → IsNoteOf codes i set (record { part = get_or owner i 0; from = from; to = to })
note_is codes i set words owner bits word from to small lent owned listed same on_set on_bit =
    record {
      part = ap (λ (list : List ℕ). get_or list i 0) owned;
      from = partition_on codes.words (InWord word) (Contains set.latches) from (λ c. subst (λ (list : List ℕ). InWord word c ↔ Contains list c) listed (same c))
          (subst (λ (list : List ℕ). IsPartitionOn list (InWord word) from) lent on_set);
      to = partition_of_bit codes.words i to small (subst (λ (list : List ℕ). IsPartitionOn list (InWord (1 * 2 ^ i % 2 ^ 64)) to) lent on_bit);
    }

pub notes_none : (codes : Codes) (sets : List ReadSet) → AreNotes codes (take 0 sets) []
notes_none codes sets = record { count = refl; each = λ i set note at_set at_note. absurd (omega (arith, slice_get_within [] i note at_note)) }

-- one note more
pub notes_more : (codes : Codes) (sets : List ReadSet) (notes new : List LatchNote) (i : ℕ) (set : ReadSet) (note : LatchNote) → i < length sets → AreNotes codes (take i sets) notes → set ≡ get_or sets i set
    → IsNoteOf codes i set note → new ≡ notes ++ note ∷ [] → AreNotes codes (take (i + 1) sets) new
notes_more codes sets notes new i set note within so_far here is pushed =
    let front : List ReadSet = take i sets in
    let more : take (i + 1) sets ≡ front ++ set ∷ [] = take_more sets i set within ∙ ap (λ (x : ReadSet). front ++ x ∷ []) (sym here) in
    let size : length front ≡ i = length-take-le i sets (omega arith) in
    subst (λ (list : List ReadSet). AreNotes codes list new) (sym more)
    (subst (AreNotes codes (front ++ set ∷ [])) (sym pushed)
    (record {
      count = length_push notes note ∙ ap (λ (n : ℕ). n + 1) so_far.count ∙ sym (length_push front set);
      each = λ k other beside at_set at_note.
          elim (cases_lt k i) [
            | inl low ↦ so_far.each k other beside (sym (slice_get-left front (set ∷ []) k (omega (arith, size))) ∙ at_set)
                (sym (slice_get-left notes (note ∷ []) k (omega (arith, size, so_far.count))) ∙ at_note)
            | inr high ↦
                let at : k ≡ i = omega (arith, high, slice_get_within (front ++ set ∷ []) k other at_set, length_push front set, size) in
                let same_set : set ≡ other = sym (get_or_push front set set k (size ∙ sym at)) ∙ get_or_from_slice_get (front ++ set ∷ []) k other set at_set in
                let same_note : note ≡ beside = sym (get_or_push notes note note k (so_far.count ∙ size ∙ sym at)) ∙ get_or_from_slice_get (notes ++ note ∷ []) k beside note at_note in
                subst (λ (n : ℕ). IsNoteOf codes n other beside) (sym at) (subst (λ (x : ReadSet). IsNoteOf codes i x beside) same_set (subst (IsNoteOf codes i set) same_note is))
          ];
    }))
  where
    slice_get-left : {X : Type 0} (xs ys : List X) (k : ℕ) → k < length xs → slice_get (xs ++ ys) k ≡ slice_get xs k
    slice_get-left [] ys k low = absurd (omega arith)
    slice_get-left (x ∷ xs) ys zero low = refl
    slice_get-left (x ∷ xs) ys (suc k) low = slice_get-left xs ys k (omega arith)
