-- The field of a number among shown numbers is the field of its symbol among theirs.
use Rattle.std.proofs.Common.{◌≡◌, ◌↔◌, inl, inr, ℕ, zero, suc, ◌+◌, ◌-◌, ◌*◌, ◌%◌, ◌^◌, ◌<◌, ◌≤◌, Bool, true, false, cond, Contains, List, [], ◌∷◌, ◌++◌, None, Option, Some, length, max, min, take, All, refl, sym, ◌∙◌, ap, subst, arith, bit_and, bit_or, bit_xor, add-one}
use Rattle.std.specs.Int.{bit_at}
use Rattle.std.specs.Int.Count.{count_leading_zeros}
use Rattle.std.proofs.Math.Pow.{pow-lt}
use Rattle.std.specs.List.{slice_get}
use Rattle.std.proofs.lemmas.Bool.{cases_Bool, cases_eq, cases_lt}
use Rattle.std.proofs.lemmas.Nat.{and_le_r, leading_top, or_lt, pow_pos, xor_lt}
use Rattle.std.proofs.lemmas.Nat.Bits.{bit_at-lt, bit_at-pow_other, bit_at-pow_same, bit_at-zero, bit_at_above, bit_at_and, bit_at_or, bit_at_xor}
use Rattle.std.proofs.lemmas.List.Elements.{All-contains, Contains-append_left, Contains-push, Contains-push_cases}
use Rattle.std.proofs.lemmas.Option.{same_Some, slice_get_within}
use Rattle.list_facts.specs.Laws.Members.{Contains-none}
use Rattle.cubes.specs.Field.{character, characters}
use Rattle.cubes.specs.Symbol.{bit, symbol_of}
use Rattle.cubes.specs.Laws.Bits.{bit_from_one, one_from_bit, same_bits, same_digits}
use Rattle.cubes.specs.Laws.Numbers.{bit-top, length-symbol_of, pow-suc}
use Rattle.cubes.specs.Laws.Places.{length-characters}
use Rattle.dependence.proofs.Symbols.{symbol_at}
use Rattle.part_machines.specs.Fields.{LeavesAt}
use Rattle.part_machines.specs.CellLists.{IsFieldAmong, IsLeadOf, IsSymbolAmong}
use Rattle.part_machines.specs.Inner.Turning.{AreTurns, Turns}
use Rattle.part_machines.specs.Laws.Fields.{same_in_front}

-- ---- the highest bit of a number
-- a number between a power of two and the next has the bit of that power
top_bit : (n k : ℕ) → 2 ^ k < n + 1 → n < 2 ^ (k + 1) → bit_at n k ≡ 1
top_bit n k low high =
    let next : 2 ^ (k + 1) ≡ 2 ^ k + 2 ^ k = ap (λ (m : ℕ). 2 ^ m) (add-one k) ∙ pow-suc k in
    let rest : 2 ^ k + (n - 2 ^ k) ≡ n = omega (arith, low) in
    let small : n - 2 ^ k < 2 ^ k = omega (arith, low, high, next) in
    one_from_bit n k (subst (λ (m : ℕ). bit m k ≡ true) rest (bit-top k (n - 2 ^ k) small))

pub lead_of_some : (number : ℕ) → 0 < number → number < 2 ^ 32 → IsLeadOf number (1 * 2 ^ (31 - count_leading_zeros 32 number) % 4294967296)
lead_of_some number some small =
    let top = leading_top 32 number some small in
    let low : top.0 < 32 = omega (arith, top.1) in
    let place : 31 - count_leading_zeros 32 number ≡ top.0 = omega (arith, top.1) in
    let fits : 2 ^ top.0 < 2 ^ 32 = pow-lt low in
    let power : 1 * 2 ^ (31 - count_leading_zeros 32 number) % 4294967296 ≡ 2 ^ top.0 =
    ap (λ (m : ℕ). 1 * 2 ^ m % 4294967296) place ∙ shifted (2 ^ top.0) fits in
    record {
      none = λ zero. absurd (omega (arith, zero, some));
      some = λ positive. (top.0, power, omega (arith, power, top.2), subst (λ (m : ℕ). number < 2 ^ m) (sym (add-one top.0)) top.3);
    }
  where
    shifted : (n : ℕ) → n < 2 ^ 32 → 1 * n % 4294967296 ≡ n
    shifted n low = omega arith

-- digits that differ add up to an odd number
odd_sum : (a b : ℕ) → a < 2 → b < 2 → (b ≡ a → ⊥) → (a + b) % 2 ≡ 1
odd_sum zero zero low also apart = absurd (apart refl)
odd_sum zero (suc b) low also apart = omega arith
odd_sum (suc a) zero low also apart = omega arith
odd_sum (suc a) (suc b) low also apart = absurd (apart (omega arith))

even_sum : (a b : ℕ) → a < 2 → b ≡ a → (a + b) % 2 ≡ 0
even_sum a b low same = omega arith

same_from_even : (a b : ℕ) → a < 2 → b < 2 → (a + b) % 2 ≡ 0 → b ≡ a
same_from_even a b low also even = omega arith

module _ (v w : ℕ) where
  digit_apart : (place : ℕ) → bit_at (bit_xor v w) place ≡ 1 → bit_at w place ≡ bit_at v place → ⊥
  digit_apart place one same =
      let even : (bit_at v place + bit_at w place) % 2 ≡ 0 = even_sum (bit_at v place) (bit_at w place) (bit_at-lt v place) same in
      omega (arith, even, one, bit_at_xor v w place)

  digit_same : (place : ℕ) → bit_at (bit_xor v w) place ≡ 0 → bit_at w place ≡ bit_at v place
  digit_same place none =
      same_from_even (bit_at v place) (bit_at w place) (bit_at-lt v place) (bit_at-lt w place) (sym (bit_at_xor v w place) ∙ none)

  digit_differs : (place : ℕ) → (bit_at w place ≡ bit_at v place → ⊥) → bit_at (bit_xor v w) place ≡ 1
  digit_differs place apart = bit_at_xor v w place ∙ odd_sum (bit_at v place) (bit_at w place) (bit_at-lt v place) (bit_at-lt w place) apart

  digit_agrees : (place : ℕ) → bit_at w place ≡ bit_at v place → bit_at (bit_xor v w) place ≡ 0
  digit_agrees place same = bit_at_xor v w place ∙ even_sum (bit_at v place) (bit_at w place) (bit_at-lt v place) same

  -- the top of the differing bits is where w turns from v, and nowhere else does it turn
  turns_at_top : (top : ℕ) → 2 ^ top < bit_xor v w + 1 → bit_xor v w < 2 ^ (top + 1) → Turns v w top
  turns_at_top top low high =
      record {
        above = λ i over. digit_same i (bit_at_above (bit_xor v w) (top + 1) i high (omega (arith, over)));
        differs = digit_apart top (top_bit (bit_xor v w) top low high);
      }

  turns_at_no_other : (top place : ℕ) → 2 ^ top < bit_xor v w + 1 → bit_xor v w < 2 ^ (top + 1) → Turns v w place → place ≡ top
  turns_at_no_other top place low high turns =
      let one : bit_at (bit_xor v w) place ≡ 1 = digit_differs place turns.differs in
      let top_one : bit_at (bit_xor v w) top ≡ 1 = top_bit (bit_xor v w) top low high in
      elim (cases_lt top place) [
        | inl over ↦ absurd (omega (arith, one, bit_at_above (bit_xor v w) (top + 1) place high (omega (arith, over))))
        | inr under ↦
            elim (cases_lt place top) [
              | inl below ↦ absurd (omega (arith, top_one, digit_agrees top (turns.above top below)))
              | inr at ↦ omega arith
            ]
      ]

  some_differ : (lead : ℕ) → IsLeadOf (bit_xor v w) lead → 0 < bit_xor v w → (place : ℕ) → (bit_at lead place ≡ 1) ↔ Turns v w place
  some_differ lead is some place =
      let top = is.some some in
      let low : 2 ^ top.0 < bit_xor v w + 1 = omega (arith, top.1, top.2) in
      let digit : bit_at lead place ≡ bit_at (2 ^ top.0) place = ap (λ (n : ℕ). bit_at n place) top.1 in (
        (λ one.
            elim (cases_eq place top.0) [
              | inr other ↦ absurd (omega (arith, one, digit, bit_at-pow_other top.0 place other))
              | inl here ↦ subst (Turns v w) (sym here) (turns_at_top top.0 low top.3)
            ]),
        (λ turns.
            let here : place ≡ top.0 = turns_at_no_other top.0 place low top.3 turns in
            digit ∙ (ap (λ (i : ℕ). bit_at (2 ^ top.0) i) here ∙ bit_at-pow_same top.0)),
      )

  none_differ : (lead : ℕ) → IsLeadOf (bit_xor v w) lead → bit_xor v w ≡ 0 → (place : ℕ) → (bit_at lead place ≡ 1) ↔ Turns v w place
  none_differ lead is none place = (
    (λ one. absurd (omega (arith, one, ap (λ (n : ℕ). bit_at n place) (is.none none), bit_at-zero place))),
    (λ turns. absurd (omega (arith, digit_differs place turns.differs, ap (λ (n : ℕ). bit_at n place) none, bit_at-zero place))),
  )

  -- the highest bit of the bits that differ is where the one turns from the other
  lead_turns : (lead : ℕ) → IsLeadOf (bit_xor v w) lead → (place : ℕ) → (bit_at lead place ≡ 1) ↔ Turns v w place
  lead_turns lead is place =
      elim (cases_eq (bit_xor v w) 0) [
        | inl none ↦ none_differ lead is none place
        | inr some ↦ some_differ lead is (omega (arith, some)) place
      ]

  lead_below : (lead width : ℕ) → IsLeadOf (bit_xor v w) lead → v < 2 ^ width → w < 2 ^ width → lead < 2 ^ width
  lead_below lead width is low also =
      let small : bit_xor v w < 2 ^ width = xor_lt width v w low also in
      elim (cases_eq (bit_xor v w) 0) [
        | inl none ↦ omega (arith, is.none none, small)
        | inr some ↦ let top = is.some (omega (arith, some)) in omega (arith, top.2, small)
      ]

-- ---- turns among some numbers
pub turns_none : (number width : ℕ) → AreTurns [] number width 0
turns_none number width =
    record {
      each = λ place. ((λ one. absurd (omega (arith, one, bit_at-zero place))), (λ some. absurd (Contains-none some.0 some.1)));
      below = pow_pos width;
    }

pub turns_more : (front : List ℕ) (number width care other lead : ℕ) → number < 2 ^ width → other < 2 ^ width → IsLeadOf (bit_xor number other) lead
    → AreTurns front number width care → AreTurns (front ++ other ∷ []) number width (bit_or care lead)
turns_more front number width care other lead low also is turns =
    record {
      each = λ place. (
        (λ one.
            elim (cases_eq (bit_at care place) 1) [
              | inl before ↦ let old = (turns.each place).0 before in (old.0, Contains-append_left front (other ∷ []) old.0 old.1, old.2)
              | inr not_before ↦
                  let last : bit_at lead place ≡ 1 = from_max (bit_at care place) (bit_at lead place) (bit_at-lt lead place) (sym (bit_at_or care lead place) ∙ one) not_before in
                  (other, Contains-push front other, (lead_turns number other lead is place).0 last)
            ]),
        (λ some.
            bit_at_or care lead place
            ∙ elim (Contains-push_cases front other some.0 some.1) [
              | inl before ↦ to_max_left (bit_at care place) (bit_at lead place) (bit_at-lt lead place) ((turns.each place).1 (some.0, before, some.2))
              | inr last ↦
                  to_max_right (bit_at care place) (bit_at lead place) (bit_at-lt care place)
                  ((lead_turns number other lead is place).1 (subst (λ (n : ℕ). Turns number n place) (sym last) some.2))
            ]),
      );
      below = or_lt width care lead turns.below (lead_below number other lead width is low also);
    }
  where
    from_max : (a b : ℕ) → b < 2 → max a b ≡ 1 → (a ≡ 1 → ⊥) → b ≡ 1
    from_max a b low one apart = omega arith

    to_max_left : (a b : ℕ) → b < 2 → a ≡ 1 → max a b ≡ 1
    to_max_left a b low one = omega arith

    to_max_right : (a b : ℕ) → a < 2 → b ≡ 1 → max a b ≡ 1
    to_max_right a b low one = omega arith

-- ---- the symbols of numbers
-- numbers with the same highest bits have symbols with the same front
same_front : (width v w k : ℕ) → k ≤ width → ((i : ℕ) → i < width → width ≤ i + k → bit w i ≡ bit v i) → take k (symbol_of width w) ≡ take k (symbol_of width v)
unfolding symbol_of
same_front width v w zero low same = refl
same_front zero v w (suc k) low same = absurd (omega arith)
same_front (suc width) v w (suc k) low same =
    let first : bit w width ≡ bit v width = same width (omega arith) (omega (arith, low)) in
    let rest : take k (symbol_of width w) ≡ take k (symbol_of width v) = same_front width v w k (omega (arith, low)) (λ i below high. same i (omega (arith, below)) (omega (arith, high))) in
    cc

-- the character of a field at a place
character_at : (width care value k place : ℕ) → place + k + 1 ≡ width → slice_get (characters width care value) k ≡ Some (character care value place)
unfolding characters
character_at zero care value k place at = absurd (omega (arith, at))
character_at (suc width) care value zero place at = let here : width ≡ place = omega (arith, at) in ap (λ (i : ℕ). Some (character care value i)) here
character_at (suc width) care value (suc k) place at = character_at width care value k place (omega (arith, at))

character_cared : (care value place : ℕ) (b : Bool) → bit care place ≡ true → bit value place ≡ b → character care value place ≡ Some b
character_cared care value place b cares is = ap (λ (c : Bool). cond c (Some (bit value place)) None) cares ∙ ap (λ (c : Bool). Some c) is

character_free : (care value place : ℕ) → bit care place ≡ false → character care value place ≡ None
character_free care value place free = ap (λ (c : Bool). cond c (Some (bit value place)) None) free

-- ---- the field
module _ (shown : List ℕ) (number width care : ℕ) (turns : AreTurns shown number width care) (small : All (λ other. other < 2 ^ width) shown) (low : number < 2 ^ width) where
  abbrev value : ℕ
  value = bit_and number care

  -- a symbol that leaves the number's symbol turns from it
  turns_from_leaves : (k place : ℕ) → place + k + 1 ≡ width → (leaves : LeavesAt (IsSymbolAmong shown width) (symbol_of width number) k)
      → Turns number leaves.shown.number place
  turns_from_leaves k place at leaves =
      let w : ℕ = leaves.shown.number in
      let w_low : w < 2 ^ width = All-contains (λ other. other < 2 ^ width) shown w small leaves.shown.among in
      let front : take k (symbol_of width w) ≡ take k (symbol_of width number) = ap (λ (x : List Bool). take k x) leaves.shown.spelled ∙ leaves.before in
      record {
        above = λ i over.
            elim (cases_lt i width) [
              | inr past ↦ bit_at_above w width i w_low past ∙ sym (bit_at_above number width i low past)
              | inl below ↦
                  let j : ℕ = width - 1 - i in
                  let there : i + j + 1 ≡ width = omega (arith, below) in
                  let earlier : j < k = omega (arith, there, at, over) in
                  let same : Some (bit w i) ≡ Some (bit number i) =
                  sym (symbol_at width w j i there) ∙ (same_in_front (symbol_of width w) (symbol_of width number) j k earlier front ∙ symbol_at width number j i there) in
                  same_digits w number i i (cc)
            ];
        differs = λ same.
            leaves.differs
            (ap (λ (x : List Bool). slice_get x k) (sym leaves.shown.spelled)
            ∙ (symbol_at width w k place at ∙ (ap (λ (b : Bool). Some b) (same_bits w number place place same) ∙ sym (symbol_at width number k place at))));
      }

  -- the symbol of a number that turns leaves the number's symbol
  leaves_from_turns : (k place : ℕ) → place + k + 1 ≡ width → (w : ℕ) → Contains shown w → Turns number w place
      → LeavesAt (IsSymbolAmong shown width) (symbol_of width number) k
  leaves_from_turns k place at w among turned =
      record {
        other = symbol_of width w;
        shown = record { number = w; among = among; spelled = refl };
        before = same_front width number w k (omega (arith, at)) (λ i below high. same_bits w number i i (turned.above i (omega (arith, at, high))));
        differs = λ same.
            let bits : Some (bit w place) ≡ Some (bit number place) = sym (symbol_at width w k place at) ∙ (same ∙ symbol_at width number k place at) in
            turned.differs (same_digits w number place place (cc));
      }

  literal_at : (k : ℕ) (b : Bool) → slice_get (symbol_of width number) k ≡ Some b → LeavesAt (IsSymbolAmong shown width) (symbol_of width number) k
      → slice_get (characters width care value) k ≡ Some (Some b)
  literal_at k b is leaves =
      let below : k < width = omega (arith, slice_get_within (symbol_of width number) k b is, length-symbol_of width number) in
      let place : ℕ = width - 1 - k in
      let at : place + k + 1 ≡ width = omega (arith, below) in
      let one : bit_at care place ≡ 1 = (turns.each place).1 (leaves.shown.number, leaves.shown.among, turns_from_leaves k place at leaves) in
      let kept : bit_at value place ≡ bit_at number place = bit_at_and number care place ∙ kept_by (bit_at number place) (bit_at care place) (bit_at-lt number place) one in
      let own : Some (bit number place) ≡ Some b = sym (symbol_at width number k place at) ∙ is in
      let known : bit value place ≡ b = same_bits value number place place kept ∙ same_Some (bit number place) b own in
      character_at width care value k place at ∙ ap (λ (c : Option Bool). Some c) (character_cared care value place b (bit_from_one care place one) known)
    where
      kept_by : (a c : ℕ) → a < 2 → c ≡ 1 → min a c ≡ a
      kept_by a c small one = omega arith

  dash_at : (k : ℕ) → k < length (symbol_of width number) → (LeavesAt (IsSymbolAmong shown width) (symbol_of width number) k → ⊥)
      → slice_get (characters width care value) k ≡ Some None
  dash_at k inside stays =
      let below : k < width = omega (arith, inside, length-symbol_of width number) in
      let place : ℕ = width - 1 - k in
      let at : place + k + 1 ≡ width = omega (arith, below) in
      elim (cases_Bool (bit care place)) [
        | inl cares ↦
            let found = (turns.each place).0 (one_from_bit care place cares) in
            absurd (stays (leaves_from_turns k place at found.0 found.1 found.2))
        | inr free ↦ character_at width care value k place at ∙ ap (λ (c : Option Bool). Some c) (character_free care value place free)
      ]

  pub field_among : IsFieldAmong shown number width (record { care = care; value = bit_and number care })
  field_among =
      record {
        field_is = record {
          size = length-characters width care value ∙ sym (length-symbol_of width number);
          literal = literal_at;
          dash = dash_at;
        };
        care_below = turns.below;
        value_below = omega (arith, and_le_r number care, turns.below);
        value_in_care = λ k one. bit_from_one care k (in_both (bit_at number k) (bit_at care k) (bit_at-lt care k) (sym (bit_at_and number care k) ∙ one_from_bit value k one));
      }
    where
      in_both : (a c : ℕ) → c < 2 → min a c ≡ 1 → c ≡ 1
      in_both a c small one = omega arith
