-- Latches that tell two states apart, and the table of them.
use Rattle.std.proofs.Common.{◌≡◌, ◌≢◌, ◌∙◌, ◌↔◌, ℕ, ◌+◌, ◌*◌, ◌<◌, ◌≤◌, ◌%◌, max, Contains, List, [], ◌∷◌, ◌++◌, Option, Some, None, length, get_or, set, take, replicate, refl, inl, inr, ap, sym, subst, arith, add-one, bit_or}
use Rattle.std.proofs.Math.ListN.{length-set}
use Rattle.std.proofs.Math.Seq.{take-suc}
use Rattle.std.proofs.lemmas.Bool.{cases_eq}
use Rattle.std.proofs.lemmas.List.{get_or-replicate, get_or-set_other, get_or-set_same, length-replicate}
use Rattle.std.proofs.lemmas.List.Elements.{Contains-push_cases, Contains-append_left, Contains-append_right}
use Rattle.std.proofs.lemmas.Nat.Bits.{bit_at-lt, bit_at_or, bit_at_xor}
use Rattle.std.proofs.lemmas.Option.{get_or_from_slice_get, same_Some, slice_get-get_or, slice_get_within}
use Rattle.std.specs.Int.{bit_at}
use Rattle.std.specs.Int.RustNames.{bit_xor}
use Rattle.cubes.specs.Laws.Bits.{same_bits, same_digits}
use Rattle.cubes.specs.Laws.Numbers.{length-symbol_of}
use Rattle.cubes.specs.Symbol.{bit, symbol_of}
use Rattle.kiss_file.specs.declared.file.KissFile.{KissFile}
use Rattle.kiss_file.specs.Machine.{next}
use Rattle.machine_table.specs.Pieces.{IsImage}
use Rattle.machine_table.specs.NextStates.{NeverLeaves}
use Rattle.dependence.specs.Inner.Differences.{AreFound, DifferInPair, IsDifference}
use Rattle.dependence.specs.Laws.Agreeing.{each_same, same_each}
use Rattle.dependence.specs.SufficientBits.{InWord, next_value}

-- ---- the words of pairs
digits_apart : (a b : ℕ) → a < 2 → b < 2 → (a + b) % 2 ≡ 1 → a ≢ b
digits_apart a b la lb odd same = grind arith

apart_digits : (a b : ℕ) → a < 2 → b < 2 → a ≢ b → (a + b) % 2 ≡ 1
apart_digits a b la lb apart = grind arith

module _ (words : List ℕ) (pairs : List (ℕ × ℕ)) (k apart i : ℕ) (within : k < length pairs) where
  abbrev pair : ℕ × ℕ
  pair = get_or pairs k (0, 0)

  abbrev first : ℕ
  first = get_or words pair.0 0

  abbrev second : ℕ
  second = get_or words pair.1 0

  one_more : take k pairs ++ pair ∷ [] ≡ take (k + 1) pairs
  one_more = sym (ap (λ (n : ℕ). take n pairs) (add-one k) ∙ take-suc pairs k (0, 0) within)

  digit : bit_at (bit_or apart (bit_xor first second)) i ≡ max (bit_at apart i) ((bit_at first i + bit_at second i) % 2)
  digit = bit_at_or apart (bit_xor first second) i ∙ ap (λ n. max (bit_at apart i) n) (bit_at_xor first second i)

  -- a pair more
  pub pair_more : InWord apart i ↔ DifferInPair words (take k pairs) i → InWord (bit_or apart (bit_xor first second)) i ↔ DifferInPair words (take (k + 1) pairs) i
  pair_more before = (
    (λ is. subst (λ (list : List (ℕ × ℕ)). DifferInPair words list i) one_more
        (elim (cases_eq (bit_at apart i) 1) [
          | inl old ↦
              let it = before.0 old in
              record { u = it.u; v = it.v; among = Contains-append_left (take k pairs) (pair ∷ []) (it.u, it.v) it.among; differ = it.differ }
          | inr new ↦ record {
            u = pair.0;
            v = pair.1;
            among = Contains-append_right (take k pairs) (pair ∷ []) pair (0, omega arith, refl);
            differ = λ same.
                digits_apart (bit_at first i) (bit_at second i) (bit_at-lt first i) (bit_at-lt second i)
                (omega (arith, digit, is, new, bit_at-lt apart i)) (same_digits first second i i same);
          }
        ])),
    (λ differ.
        let it : DifferInPair words (take k pairs ++ pair ∷ []) i = subst (λ (list : List (ℕ × ℕ)). DifferInPair words list i) (sym one_more) differ in
        elim (Contains-push_cases (take k pairs) pair (it.u, it.v) it.among) [
          | inl old ↦ omega (arith, digit, before.1 (record { u = it.u; v = it.v; among = old; differ = it.differ }), bit_at-lt apart i)
          | inr new ↦
              let u_is : pair.0 ≡ it.u = ap (λ (p : ℕ × ℕ). p.0) new in
              let v_is : pair.1 ≡ it.v = ap (λ (p : ℕ × ℕ). p.1) new in
              let other : bit_at first i ≢ bit_at second i = λ same.
              it.differ (ap (λ n. bit (get_or words n 0) i) (sym u_is) ∙ same_bits first second i i same ∙ ap (λ n. bit (get_or words n 0) i) v_is) in
              omega (arith, digit, apart_digits (bit_at first i) (bit_at second i) (bit_at-lt first i) (bit_at-lt second i) other, bit_at-lt apart i)
        ]),
  )

pub no_pairs : (words : List ℕ) (i : ℕ) → DifferInPair words [] i → ⊥
no_pairs words i differ = absurd (omega (arith, differ.among.1))

-- ---- two states
pub image_inside : (F : KissFile) → NeverLeaves F → (s t u v : ℕ) → s < length F.states → t < length F.states → IsImage F s t u v → (u < length F.states) × (v < length F.states)
image_inside F inside s t u v in_s in_t (x, below, to_u, to_v) = (
  subst (λ (n : ℕ). n < length F.states) to_u (inside s (symbol_of F.inputs x) in_s (length-symbol_of F.inputs x)),
  subst (λ (n : ℕ). n < length F.states) to_v (inside t (symbol_of F.inputs x) in_t (length-symbol_of F.inputs x)),
)

-- what the pairs of next states show
pub difference_from : (F : KissFile) (words : List ℕ) (s t set : ℕ) (pairs : List (ℕ × ℕ)) → ((u v : ℕ) → Contains pairs (u, v) ↔ IsImage F s t u v) → ((i : ℕ) → InWord set i ↔ DifferInPair words pairs i) → IsDifference F words s t set
difference_from F words s t set pairs listed shown = record {
  same = λ i out. same_each F (next_value F words i) s t (λ x below.
      let u : ℕ = next F s (symbol_of F.inputs x) in
      let v : ℕ = next F t (symbol_of F.inputs x) in
      elim (cases_eq (bit_at (get_or words u 0) i) (bit_at (get_or words v 0) i)) [
        | inl same ↦ same_bits (get_or words u 0) (get_or words v 0) i i same
        | inr other ↦ absurd (out ((shown i).1 (record {
          u = u;
          v = v;
          among = (listed u v).1 (x, below, refl, refl);
          differ = λ one. other (same_digits (get_or words u 0) (get_or words v 0) i i one);
        })))
      ]);
  apart = λ i is give.
      let it = (shown i).0 is in
      let image = (listed it.u it.v).0 it.among in
      it.differ (ap (λ n. bit (get_or words n 0) i) (sym image.2) ∙ each_same F (next_value F words i) s t give image.0 image.1 ∙ ap (λ n. bit (get_or words n 0) i) image.3);
}

-- ---- the table
none_or_some : (n : ℕ) → None ≡ Some n → ⊥
none_or_some n is = cc

pub found_none : (F : KissFile) (words : List ℕ) (count : ℕ) → count ≡ 256 * length F.states → AreFound F words (replicate count None)
found_none F words count is = record {
  size = length-replicate {A = Option ℕ} count None ∙ is;
  each = λ s t n in_s in_t at.
      let inside : 256 * s + t < count = omega (arith, length-replicate {A = Option ℕ} count None, slice_get_within (replicate count None) (256 * s + t) (Some n) at) in
      absurd (none_or_some n (sym (get_or-replicate count (256 * s + t) None None inside) ∙ get_or_from_slice_get (replicate count None) (256 * s + t) (Some n) None at));
}

module _ (F : KissFile) (words : List ℕ) (found : List (Option ℕ)) (s t : ℕ) (few : length F.states ≤ 256) (in_s : s < length F.states) (in_t : t < length F.states) (are : AreFound F words found) where
  pub place_within : 256 * s + t < length found
  place_within = omega (arith, are.size, few, in_s, in_t)

  -- what was found before
  pub found_there : (set : ℕ) → get_or found (256 * s + t) None ≡ Some set → IsDifference F words s t set
  found_there set at = are.each s t set in_s in_t (slice_get-get_or found (256 * s + t) None place_within ∙ ap Some at)

  -- two states more
  pub found_more : (n : ℕ) → IsDifference F words s t n → AreFound F words (set found (256 * s + t) (Some n))
  found_more n here = record {
    size = size ∙ are.size;
    each = λ u v other in_u in_v at. elim (cases_eq (256 * u + v) (256 * s + t)) [
      | inl one ↦
          let u_is : u ≡ s = omega (arith, one, few, in_v, in_t) in
          let v_is : v ≡ t = omega (arith, one, few, in_v, in_t) in
          let is : Some n ≡ Some other = sym (get_or-set_same found (256 * s + t) (Some n) None place_within) ∙ ap (λ (k : ℕ). get_or (set found (256 * s + t) (Some n)) k None) (sym one) ∙ get_or_from_slice_get (set found (256 * s + t) (Some n)) (256 * u + v) (Some other) None at in
          subst (λ (k : ℕ). IsDifference F words k v other) (sym u_is)
          (subst (λ (k : ℕ). IsDifference F words s k other) (sym v_is) (subst (IsDifference F words s t) (same_Some n other is) here))
      | inr apart ↦
          let inside : 256 * u + v < length found = omega (arith, size, slice_get_within (set found (256 * s + t) (Some n)) (256 * u + v) (Some other) at) in
          are.each u v other in_u in_v
          (slice_get-get_or found (256 * u + v) None inside
          ∙ ap Some (sym (get_or-set_other found (256 * s + t) (256 * u + v) (Some n) None apart) ∙ get_or_from_slice_get (set found (256 * s + t) (Some n)) (256 * u + v) (Some other) None at))
    ];
  } where
    size : length (set found (256 * s + t) (Some n)) ≡ length found
    size = length-set found (256 * s + t) (Some n)
