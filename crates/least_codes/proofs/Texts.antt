-- The order of codes by their texts is total and transitive.
use Rattle.std.proofs.Common.{◌≡◌, ◌≢◌, ◌⊎◌, ◌∙◌, ℕ, zero, suc, ◌<◌, List, get_or, inl, inr, ap, subst, sym, arith}
use Rattle.std.proofs.lemmas.Bool.{cases_eq, cases_order}
use Rattle.std.proofs.lemmas.List.{ext_get_or}
use Rattle.std.proofs.lemmas.Nat.Bits.{bit_at-lt, same_from_bits_below}
use Rattle.std.specs.Int.{bit_at}
use Rattle.least_codes.specs.LeastCode.{AreCodeWords, TextsBefore}

-- the first number at which two functions differ
record Unlike (f g : ℕ → ℕ) (k : ℕ) : Type 0 where
  at : ℕ
  within : at < k
  same_before : (i : ℕ) → i < at → f i ≡ g i
  differ : f at ≢ g at

unlike_or_same : (f g : ℕ → ℕ) (k : ℕ) → Unlike f g k ⊎ ((i : ℕ) → i < k → f i ≡ g i)
unlike_or_same f g zero = inr (λ i below. absurd (omega (arith, below)))
unlike_or_same f g (suc k) =
    elim (unlike_or_same f g k) [
      | inl found ↦ inl (record { at = found.at; within = omega (arith, found.within); same_before = found.same_before; differ = found.differ })
      | inr same ↦ elim (cases_eq (f k) (g k)) [
        | inl here ↦ inr (λ i below. elim (cases_eq i k) [
          | inl at ↦ subst (λ (j : ℕ). f j ≡ g j) (sym at) here
          | inr other ↦ same i (omega (arith, below, other))
        ])
        | inr other ↦ inl (record { at = k; within = omega arith; same_before = same; differ = other })
      ]
    ]

pub texts_total : (n bits : ℕ) (one other : List ℕ) → AreCodeWords n bits one → AreCodeWords n bits other → (one ≡ other) ⊎ (TextsBefore one other ⊎ TextsBefore other one)
texts_total n bits one other codes codes_other =
    elim (unlike_or_same (λ s. get_or one s 0) (λ s. get_or other s 0) n) [
      | inr same ↦ inl (ext_get_or 0 one other (codes.count ∙ sym codes_other.count) (λ s within. same s (omega (arith, within, codes.count))))
      | inl state ↦ inr (elim (unlike_or_same (bit_at (get_or one state.at 0)) (bit_at (get_or other state.at 0)) bits) [
        | inr same ↦ absurd (state.differ (same_from_bits_below bits (get_or one state.at 0) (get_or other state.at 0) (codes.short state.at state.within) (codes_other.short state.at state.within) same))
        | inl bit ↦ elim (cases_eq (bit_at (get_or one state.at 0) bit.at) 0) [
          | inl none ↦ inl (record {
            state = state.at;
            bit = bit.at;
            states_before = state.same_before;
            bits_before = bit.same_before;
            zero = none;
            one = omega (arith, none, bit.differ, bit_at-lt (get_or other state.at 0) bit.at);
          })
          | inr some ↦ inr (record {
            state = state.at;
            bit = bit.at;
            states_before = λ s below. sym (state.same_before s below);
            bits_before = λ i below. sym (bit.same_before i below);
            zero = omega (arith, some, bit.differ, bit_at-lt (get_or one state.at 0) bit.at, bit_at-lt (get_or other state.at 0) bit.at);
            one = omega (arith, some, bit_at-lt (get_or one state.at 0) bit.at);
          })
        ]
      ])
    ]

-- the texts differ first at this bit of this state
record DifferAt (words others : List ℕ) (state bit : ℕ) : Type 0 where
  states_before : (s : ℕ) → s < state → get_or words s 0 ≡ get_or others s 0
  bits_before : (i : ℕ) → i < bit → bit_at (get_or words state 0) i ≡ bit_at (get_or others state 0) i
  none : bit_at (get_or words state 0) bit ≡ 0
  some : bit_at (get_or others state 0) bit ≡ 1

differ_at : (words others : List ℕ) → (order : TextsBefore words others) → DifferAt words others order.state order.bit
differ_at words others order = record { states_before = order.states_before; bits_before = order.bits_before; none = order.zero; some = order.one }

module _ (a b c : List ℕ) where
  at_one_state : (s i j : ℕ) → DifferAt a b s i → DifferAt b c s j → TextsBefore a c
  at_one_state s i j first second =
      elim (cases_order i j) [
        | inl at ↦ absurd (omega (arith, first.some, second.none, ap (λ (k : ℕ). bit_at (get_or b s 0) k) at))
        | inr apart ↦ elim apart [
          | inl low ↦ record {
            state = s;
            bit = i;
            states_before = λ u below. first.states_before u below ∙ second.states_before u below;
            bits_before = λ k below. first.bits_before k below ∙ second.bits_before k (omega (arith, low, below));
            zero = first.none;
            one = sym (second.bits_before i low) ∙ first.some;
          }
          | inr high ↦ record {
            state = s;
            bit = j;
            states_before = λ u below. first.states_before u below ∙ second.states_before u below;
            bits_before = λ k below. first.bits_before k (omega (arith, high, below)) ∙ second.bits_before k below;
            zero = first.bits_before j high ∙ second.none;
            one = second.some;
          }
        ]
      ]

  pub texts_transitive : TextsBefore a b → TextsBefore b c → TextsBefore a c
  texts_transitive first second =
      elim (cases_order first.state second.state) [
        | inl at ↦ at_one_state second.state first.bit second.bit (subst (λ (s : ℕ). DifferAt a b s first.bit) at (differ_at a b first)) (differ_at b c second)
        | inr apart ↦ elim apart [
          | inl low ↦ record {
            state = first.state;
            bit = first.bit;
            states_before = λ u below. first.states_before u below ∙ second.states_before u (omega (arith, low, below));
            bits_before = λ k below. first.bits_before k below ∙ ap (λ (word : ℕ). bit_at word k) (second.states_before first.state low);
            zero = first.zero;
            one = ap (λ (word : ℕ). bit_at word first.bit) (sym (second.states_before first.state low)) ∙ first.one;
          }
          | inr high ↦ record {
            state = second.state;
            bit = second.bit;
            states_before = λ u below. first.states_before u (omega (arith, high, below)) ∙ second.states_before u below;
            bits_before = λ k below. ap (λ (word : ℕ). bit_at word k) (first.states_before second.state high) ∙ second.bits_before k below;
            zero = ap (λ (word : ℕ). bit_at word second.bit) (first.states_before second.state high) ∙ second.zero;
            one = second.one;
          }
        ]
      ]
