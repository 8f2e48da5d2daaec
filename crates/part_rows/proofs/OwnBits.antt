-- The bits of a part in a word, one more at a time.
use Rattle.std.proofs.Common.{◌≡◌, ◌==◌, ◌≢◌, ◌∙◌, ℕ, zero, suc, ◌+◌, ◌*◌, ◌%◌, ◌^◌, ◌<◌, ◌≤◌, ◌||◌, Bool, false, true, if◌then◌else◌, List, [], ◌∷◌, ◌++◌, Some, filter, get_or, length, map, slice_get, bit_or, inl, inr, refl, sym, ap, subst, arith}
use Rattle.std.proofs.lemmas.Bool.{cases_Bool, cases_eq, eq-eqb, eqb-true, false≢true}
use Rattle.std.proofs.lemmas.List.{append-nil, length_push, map-append}
use Rattle.std.proofs.lemmas.List.Elements.{filter-append}
use Rattle.std.proofs.lemmas.Nat.{one_shl}
use Rattle.std.proofs.lemmas.Nat.Bits.{bit_at-pow_other, bit_at-pow_same}
use Rattle.std.proofs.lemmas.Option.{same_Some, slice_get_within}
use Rattle.std.specs.List.{range_with_len}
use Rattle.cubes.specs.Symbol.{bit}
use Rattle.cubes.specs.Laws.Bits.{bit-or, bit-zero, bit_from_one, bit_from_zero, or_second}
use Rattle.list_facts.specs.Laws.Places.{get_behind, get_cases, get_first}
use Rattle.part_machines.specs.Which.{own_bits}
use Rattle.part_rows.proofs.Fields.{or_false}
use Rattle.part_rows.specs.Inner.Shown.{HasBits}
use Rattle.part_rows.specs.declared.shown.Bits.{Bits}
use Rattle.state_codes.specs.declared.Codes.{Codes}
use Rattle.state_codes.specs.declared.which.Which.{Which}
use Rattle.state_codes.specs.declared.which.Which.TheVariants.{Part as Numbered}

-- ---- one bit more
module _ (list : List Bool) (bits more : Bits) (last : Bool) (is : HasBits list bits) (few : bits.count < 64) (counts : more.count ≡ bits.count + 1)
    (words : more.word ≡ (if last then (bit_or bits.word (1 * 2 ^ bits.count % 2 ^ 64)) else bits.word)) where
  power : 1 * 2 ^ bits.count % 2 ^ 64 ≡ 2 ^ bits.count
  power = one_shl bits.count 64 few

  none_yet : bit bits.word bits.count ≡ false
  none_yet =
      elim (cases_Bool (bit bits.word bits.count)) [
        | inl one ↦ absurd (omega (arith, is.count, slice_get_within list bits.count true ((is.word bits.count).0 one)))
        | inr none ↦ none
      ]

  word_is : (b : Bool) → more.word ≡ (if b then (bit_or bits.word (1 * 2 ^ bits.count % 2 ^ 64)) else bits.word)
      → ((k : ℕ) → k ≢ bits.count → bit more.word k ≡ bit bits.word k) × (bit more.word bits.count ≡ b)
  word_is true high =
      let whole : more.word ≡ bit_or bits.word (2 ^ bits.count) = high ∙ ap (bit_or bits.word) power in (
        (λ k other. ap (λ (n : ℕ). bit n k) whole ∙ bit-or bits.word (2 ^ bits.count) k
            ∙ ap (λ (b : Bool). bit bits.word k || b) (bit_from_zero (2 ^ bits.count) k (bit_at-pow_other bits.count k other)) ∙ or_false (bit bits.word k)),
        ap (λ (n : ℕ). bit n bits.count) whole ∙ bit-or bits.word (2 ^ bits.count) bits.count
            ∙ or_second (bit bits.word bits.count) (bit (2 ^ bits.count) bits.count) (bit_from_one (2 ^ bits.count) bits.count (bit_at-pow_same bits.count)),
      )
  word_is false low = ((λ k other. ap (λ (n : ℕ). bit n k) low), ap (λ (n : ℕ). bit n bits.count) low ∙ none_yet)

  last_there : slice_get (list ++ last ∷ []) bits.count ≡ Some last
  last_there = let at : length list + 0 ≡ bits.count = omega (arith, is.count) in subst (λ (k : ℕ). slice_get (list ++ last ∷ []) k ≡ Some last) at (get_behind list (last ∷ []) 0)

  one_after : (b : ℕ) → bit more.word b ≡ true → slice_get (list ++ last ∷ []) b ≡ Some true
  one_after b one =
      elim (cases_eq b bits.count) [
        | inl here ↦
            let high : last ≡ true = sym (word_is last words).1 ∙ ap (bit more.word) (sym here) ∙ one in
            ap (slice_get (list ++ last ∷ [])) here ∙ last_there ∙ ap (λ (c : Bool). Some c) high
        | inr other ↦ get_first list (last ∷ []) b true ((is.word b).0 (sym ((word_is last words).0 b other) ∙ one))
      ]

  after_one : (b : ℕ) → slice_get (list ++ last ∷ []) b ≡ Some true → bit more.word b ≡ true
  after_one b there =
      elim (cases_eq b bits.count) [
        | inl here ↦
            let high : last ≡ true = same_Some last true (sym last_there ∙ ap (slice_get (list ++ last ∷ [])) (sym here) ∙ there) in
            ap (bit more.word) here ∙ (word_is last words).1 ∙ high
        | inr other ↦
            let inside : b < length list =
            (let long = length_push list last in
            let low = slice_get_within (list ++ last ∷ []) b true there in
            omega (arith, is.count, long, low, other)) in
            elim (get_cases list (last ∷ []) b true there) [
              | inl before ↦ (word_is last words).0 b other ∙ (is.word b).1 before
              | inr behind ↦ absurd (omega (arith, inside, behind.1))
            ]
      ]

  pub last_bit : HasBits (list ++ last ∷ []) more
  last_bit = record { count = counts ∙ ap (λ (n : ℕ). n + 1) is.count ∙ sym (length_push list last); word = λ b. (one_after b, after_one b) }

-- no bits
pub no_bits : (bits : Bits) → bits.count ≡ 0 → bits.word ≡ 0 → HasBits [] bits
no_bits bits count word =
    record {
      count = count;
      word = λ b. (
        λ one. absurd (false≢true (sym (bit-zero b) ∙ ap (λ (n : ℕ). bit n b) (sym word) ∙ one)),
        λ there. absurd (omega (arith, slice_get_within [] b true there)),
      );
    }

-- ---- the bits of an owner
abbrev of_owner : List ℕ → ℕ → ℕ → Bool
of_owner owners j c = get_or owners c 0 == j

-- those of the first bits, which are no more than these
pub record AreFirstBits (owners : List ℕ) (j word count : ℕ) (bits : Bits) : Type 0 where
  pub bits_are : HasBits (map (bit word) (filter (λ c. get_or owners c 0 == j) (range_with_len 0 count))) bits
  pub few : bits.count ≤ count

range_more : (a n : ℕ) → range_with_len a (n + 1) ≡ range_with_len a n ++ (a + n) ∷ []
range_more a zero = let at : a ≡ a + 0 = omega arith in ap (λ (k : ℕ). k ∷ []) at
range_more a (suc n) =
    let at : a + 1 + n ≡ a + suc n = omega arith in
    let next : range_with_len a (suc n + 1) ≡ a ∷ range_with_len (a + 1) (n + 1) = (let long : suc n + 1 ≡ suc (n + 1) = omega arith in ap (range_with_len a) long) in
    next ∙ ap (λ (list : List ℕ). a ∷ list) (range_more (a + 1) n ∙ ap (λ (k : ℕ). range_with_len (a + 1) n ++ k ∷ []) at)

module _ (owners : List ℕ) (j word count : ℕ) (bits : Bits) (are : AreFirstBits owners j word count bits) where
  first_more : filter (of_owner owners j) (range_with_len 0 (count + 1)) ≡ filter (of_owner owners j) (range_with_len 0 count) ++ filter (of_owner owners j) (count ∷ [])
  first_more =
      let at : 0 + count ≡ count = omega arith in
      ap (filter (of_owner owners j)) (range_more 0 count ∙ ap (λ (k : ℕ). range_with_len 0 count ++ k ∷ []) at) ∙ filter-append (of_owner owners j) (range_with_len 0 count) (count ∷ [])

  pub first_taken : get_or owners count 0 ≡ j → (more : Bits) → ((list : List Bool) → HasBits list bits → HasBits (list ++ bit word count ∷ []) more)
      → AreFirstBits owners j word (count + 1) more
  first_taken here more last =
      let first : List ℕ = filter (of_owner owners j) (range_with_len 0 count) in
      let one : filter (of_owner owners j) (count ∷ []) ≡ count ∷ [] = rw (eq-eqb (get_or owners count 0) j here) refl in
      let all : map (bit word) (filter (of_owner owners j) (range_with_len 0 (count + 1))) ≡ map (bit word) first ++ bit word count ∷ [] =
      ap (map (bit word)) (first_more ∙ ap (λ (list : List ℕ). first ++ list) one) ∙ map-append (bit word) first (count ∷ []) in
      let next : HasBits (map (bit word) first ++ bit word count ∷ []) more = last (map (bit word) first) are.bits_are in
      record {
        bits_are = subst (λ (list : List Bool). HasBits list more) (sym all) next;
        few = omega (arith, next.count, length_push (map (bit word) first) (bit word count), are.bits_are.count, are.few);
      }

  pub first_passed : (get_or owners count 0 ≡ j → ⊥) → AreFirstBits owners j word (count + 1) bits
  first_passed other =
      let first : List ℕ = filter (of_owner owners j) (range_with_len 0 count) in
      let none : filter (of_owner owners j) (count ∷ []) ≡ [] = rw (differs (get_or owners count 0 == j) refl) refl in
      let all : map (bit word) (filter (of_owner owners j) (range_with_len 0 (count + 1))) ≡ map (bit word) first =
      ap (map (bit word)) (first_more ∙ ap (λ (list : List ℕ). first ++ list) none ∙ append-nil first) in
      record { bits_are = subst (λ (list : List Bool). HasBits list bits) (sym all) are.bits_are; few = omega (arith, are.few) }
    where
      differs : (b : Bool) → (get_or owners count 0 == j) ≡ b → (get_or owners count 0 == j) ≡ false
      differs true same = absurd (other (eqb-true (get_or owners count 0) j same))
      differs false apart = apart

pub first_none : (owners : List ℕ) (j word : ℕ) (bits : Bits) → bits.count ≡ 0 → bits.word ≡ 0 → AreFirstBits owners j word 0 bits
first_none owners j word bits count none = record { bits_are = no_bits bits count none; few = omega (arith, count) }

-- the bits of a part, from those of an owner
pub part_bits : (code : Codes) (which : Which) (j word : ℕ) (owners : List ℕ) (bits : Bits) → which ≡ Numbered j → owners ≡ code.owner → length code.owner ≡ code.bits
    → HasBits (map (bit word) (filter (λ c. get_or owners c 0 == j) (range_with_len 0 (length owners)))) bits → HasBits (map (bit word) (own_bits code which)) bits
part_bits code which j word owners bits which_is owners_are size has =
    subst (λ (w : Which). HasBits (map (bit word) (own_bits code w)) bits) (sym which_is)
    (subst (λ (n : ℕ). HasBits (map (bit word) (filter (λ c. get_or code.owner c 0 == j) (range_with_len 0 n))) bits) size
    (subst (λ (list : List ℕ). HasBits (map (bit word) (filter (λ c. get_or list c 0 == j) (range_with_len 0 (length list)))) bits) owners_are has))
