use Rattle.std.proofs.Common.{◌≡◌, ℕ, ◌-◌, ◌<◌, ◌≤◌, ◌^◌, ◌∙◌, ⊎_elim, inl, inr, List, Option, Some, None, length, set, get_or, min, bit_and, sym, ap, subst, arith}
use Rattle.std.specs.Int.{bit_at, bit_not, w128, trailing_zeros}
use Rattle.std.proofs.lemmas.Bool.{cases_eq, cases_lt}
use Rattle.std.proofs.lemmas.List.{get_or-set_same, get_or-set_other, length-set}
use Rattle.std.proofs.lemmas.Nat.{and_le_r, pow_pos}
use Rattle.std.proofs.lemmas.Nat.Bits.{bit_at-lt, bit_at_above, bit_at_and, bit_at_not, bit_at_ones, bit_at-trailing_zeros, same_from_bits}
use Rattle.cover_terms.specs.declared.term.Term.{Term}
use Rattle.cover_terms.specs.Term.{FitsWidth, Holds, LooksAt}
use Rattle.cover_terms.specs.Charts.{IsFilled, IsFound}
use Rattle.cover_terms.specs.Pair.{IsColumnHalf}
use Rattle.cover_terms.specs.Laws.Bits.{below_width, bits_of_zero, both_one, zero_or_one}
use Rattle.cover_terms.specs.Laws.Terms.{holds_own}

-- the value of a term is one of its width
pub value_below : (w : ℕ) (t : Term) → FitsWidth w t → t.value < 2 ^ w
value_below w t fits =
    let le : t.value ≤ t.care = subst (λ (n : ℕ). n ≤ t.care) t.inside (and_le_r t.value t.care) in
    omega arith

-- the lowest column below the width at which care has no bit
pub open_below : (w care all outside : ℕ) → all ≡ 2 ^ w - 1 → outside ≡ bit_and all (bit_not w128 care) → outside < 2 ^ 128 → (outside ≡ 0 → ⊥) → trailing_zeros w128 outside < w
open_below w care all outside e is q some =
    let i = trailing_zeros w128 outside in
    let lowest = bit_at-trailing_zeros w128 outside (omega arith) q in
    let both = both_one (bit_at all i) (bit_at (bit_not w128 care) i) (bit_at-lt all i) (bit_at-lt (bit_not w128 care) i)
    (sym (ap (λ n. bit_at n i) is ∙ bit_at_and all (bit_not w128 care) i) ∙ lowest.1) in
    let p = pow_pos w in
    below_width w all i (omega (arith, p)) both.0

-- with no such column the term looks at each
pub looks_below : (w : ℕ) (t : Term) (all : ℕ) → w ≤ 16 → t.care < 2 ^ 128 → all ≡ 2 ^ w - 1 → bit_and all (bit_not w128 t.care) ≡ 0 → (i : ℕ) → i < w → LooksAt t i
looks_below w t all few p e none i below =
    closed (bit_at all i) (bit_at t.care i) (bit_at-lt t.care i) (ap (λ n. bit_at n i) e ∙ bit_at_ones w i below)
    (sym (bit_at_and all (bit_not w128 t.care) i ∙ ap (λ n. min (bit_at all i) n) (bit_at_not w128 t.care i p (omega arith))) ∙ bits_of_zero _ none i)
  where
    closed : (a b : ℕ) → b < 2 → a ≡ 1 → min a (1 - b) ≡ 0 → b ≡ 1
    closed a b p q r = omega arith

-- and holds no value but its own
pub own_value : (w : ℕ) (t : Term) → FitsWidth w t → ((i : ℕ) → i < w → LooksAt t i) → (x : ℕ) → x < 2 ^ w → Holds t x → x ≡ t.value
unfolding Holds
own_value w t fits looks x below p =
    same_from_bits x t.value (λ i. ⊎_elim (λ h. p i (looks i h)) (λ h. bit_at_above x w i below h ∙ sym (bit_at_above t.value w i (value_below w t fits) h)) (cases_lt i w))

pub filled_one : (w : ℕ) (t : Term) (number : ℕ) (chart : List ℕ) → FitsWidth w t → length chart ≡ 2 ^ w → ((i : ℕ) → i < w → LooksAt t i) → IsFilled w t number chart (set chart t.value number)
filled_one w t number chart fits size looks = record {
  size = length-set chart t.value number;
  all = λ x below p. subst (λ (k : ℕ). get_or (set chart t.value number) k 0 ≡ number) (sym (own_value w t fits looks x below p))
      (get_or-set_same chart t.value number 0 (let v = value_below w t fits in omega arith));
  rest = λ x below.
      ⊎_elim (λ same. inr (subst (λ (k : ℕ). Holds t k) (sym same) (holds_own t))) (λ ne. inl (get_or-set_other chart t.value x number 0 ne)) (cases_eq x t.value);
}

-- one half, and then the other
pub filled_halves : (w : ℕ) (t zero one : Term) (number column : ℕ) (before between after : List ℕ) → IsColumnHalf t column 0 zero → IsColumnHalf t column 1 one → IsFilled w zero number before between → IsFilled w one number between after → IsFilled w t number before after
filled_halves w t zero one number column before between after low high first second = record {
  size = second.size ∙ first.size;
  all = λ x below p. ⊎_elim
      (λ b. ⊎_elim (λ same. same ∙ first.all x below ((low x).1 (p, b))) (λ q. second.all x below q) (second.rest x below))
      (λ b. second.all x below ((high x).1 (p, b))) (zero_or_one (bit_at x column) (bit_at-lt x column));
  rest = λ x below. ⊎_elim
      (λ same. ⊎_elim (λ again. inl (same ∙ again)) (λ q. inr ((low x).0 q).0) (first.rest x below))
      (λ q. inr ((high x).0 q).0) (second.rest x below);
}

-- the only value has the number, or it has not
pub found_one : (w : ℕ) (t : Term) (number : ℕ) (chart : List ℕ) → FitsWidth w t → get_or chart t.value 0 ≡ number → IsFound w t number chart (Some t.value)
found_one w t number chart fits e = (value_below w t fits, holds_own t, e)

pub found_none : (w : ℕ) (t : Term) (number : ℕ) (chart : List ℕ) → FitsWidth w t → ((i : ℕ) → i < w → LooksAt t i) → (get_or chart t.value 0 ≡ number → ⊥) → IsFound w t number chart None
found_none w t number chart fits looks differs = λ x below p e.
    differs (subst (λ (k : ℕ). get_or chart k 0 ≡ number) (own_value w t fits looks x below p) e)

-- what is found in a half
pub found_in_half : (w : ℕ) (t half : Term) (number column bit x : ℕ) (chart : List ℕ) → IsColumnHalf t column bit half → IsFound w half number chart (Some x) → IsFound w t number chart (Some x)
found_in_half w t half number column bit x chart split h = (h.0, ((split x).0 h.1).0, h.2)

pub found_in_halves : (w : ℕ) (t zero one : Term) (number column : ℕ) (chart : List ℕ) (found : Option ℕ) → IsColumnHalf t column 0 zero → IsColumnHalf t column 1 one → IsFound w zero number chart None → IsFound w one number chart found → IsFound w t number chart found
found_in_halves w t zero one number column chart None low high none h = λ x below p e. ⊎_elim
    (λ b. none x below ((low x).1 (p, b)) e) (λ b. h x below ((high x).1 (p, b)) e) (zero_or_one (bit_at x column) (bit_at-lt x column))
found_in_halves w t zero one number column chart (Some x) low high none h = found_in_half w t one number column 1 x chart high h

-- of the values below `count`, those with the mark 0 have the number 0; any other value has the number that it had
pub record IsClearedBelow (count : ℕ) (marks before after : List ℕ) : Type 0 where
  pub size : length after ≡ length before
  pub none : (x : ℕ) → x < count → x < length before → get_or marks x 0 ≡ 0 → get_or after x 0 ≡ 0
  pub same : (x : ℕ) → x < count → x < length before → (get_or marks x 0 ≡ 0 → ⊥) → get_or after x 0 ≡ get_or before x 0
  pub rest : (x : ℕ) → count ≤ x → get_or after x 0 ≡ get_or before x 0
