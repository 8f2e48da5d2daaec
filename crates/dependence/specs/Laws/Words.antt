-- Bits of words.
use Rattle.std.proofs.Common.{◌≡◌, ◌↔◌, ◌⊎◌, ◌∙◌, ℕ, ◌+◌, ◌*◌, ◌%◌, ◌^◌, ◌<◌, min, inl, inr, sym, subst, arith, bit_and, bit_or}
use Rattle.std.proofs.lemmas.Bool.{cases_eq, cases_lt}
use Rattle.std.proofs.lemmas.Nat.Bits.{bit_at_and, bit_at_above, bit_at_set_same, bit_at_set_other, bit_at_clear_same, bit_at_clear_other}
use Rattle.std.specs.Int.{bit_at, bit_not}
use Rattle.std.proofs.Common.{w64}
use Rattle.dependence.specs.SufficientBits.{InWord}
use Rattle.dependence.specs.ReadRule.{Without}

-- the word with a bit
pub with_bit : (set c : ℕ) → c < 64 → (d : ℕ) → InWord (bit_or set (1 * 2 ^ c % 2 ^ 64)) d ↔ (InWord set d ⊎ (d ≡ c))
with_bit set c within d =
    elim (cases_eq d c) [
      | inl at ↦ ((λ is. inr at), (λ is. subst (λ (e : ℕ). InWord (bit_or set (1 * 2 ^ c % 2 ^ 64)) e) (sym at) (bit_at_set_same w64 set c within)))
      | inr other ↦
          let same : bit_at (bit_or set (1 * 2 ^ c % 2 ^ 64)) d ≡ bit_at set d = bit_at_set_other w64 set c within d other in
          ((λ is. inl (sym same ∙ is)), (λ is. elim is [ inl in_set ↦ same ∙ in_set | inr at ↦ absurd (other at) ]))
    ]

-- the word without a bit
pub without_bit : (set c : ℕ) → set < 2 ^ 64 → c < 64 → (d : ℕ) → InWord (bit_and set (bit_not w64 (1 * 2 ^ c % 2 ^ 64))) d ↔ Without (InWord set) c d
without_bit set c small within d =
    elim (cases_eq d c) [
      | inl at ↦
          let none : bit_at (bit_and set (bit_not w64 (1 * 2 ^ c % 2 ^ 64))) d ≡ 0 = subst (λ (e : ℕ). bit_at (bit_and set (bit_not w64 (1 * 2 ^ c % 2 ^ 64))) e ≡ 0) (sym at) (bit_at_clear_same w64 set c within) in
          ((λ is. absurd (omega (arith, none, is))), (λ is. absurd (is.1 at)))
      | inr other ↦
          elim (cases_lt d 64) [
            | inl below ↦
                let same : bit_at (bit_and set (bit_not w64 (1 * 2 ^ c % 2 ^ 64))) d ≡ bit_at set d = bit_at_clear_other w64 set c within d below other in
                ((λ is. (sym same ∙ is, other)), (λ is. same ∙ is.0))
            | inr above ↦
                let none : bit_at set d ≡ 0 = bit_at_above set 64 d small above in
                let masked : bit_at (bit_and set (bit_not w64 (1 * 2 ^ c % 2 ^ 64))) d ≡ min (bit_at set d) (bit_at (bit_not w64 (1 * 2 ^ c % 2 ^ 64)) d) = bit_at_and set (bit_not w64 (1 * 2 ^ c % 2 ^ 64)) d in
                ((λ is. absurd (omega (arith, none, masked, is))), (λ is. absurd (omega (arith, none, is.0))))
          ]
    ]

-- a bit of a word of 64 bits
pub bit_within : (set c : ℕ) → set < 2 ^ 64 → InWord set c → c < 64
bit_within set c small is =
    elim (cases_lt c 64) [
      | inl below ↦ below
      | inr above ↦ absurd (omega (arith, bit_at_above set 64 c small above, is))
    ]

-- a bit is in the word or not
pub in_or_out : (set c : ℕ) → InWord set c ⊎ (InWord set c → ⊥)
in_or_out set c = cases_eq (bit_at set c) 1

-- the set of the numbers below a of which P holds, with a as well
pub set_more : (P : ℕ → Type 0) (set new a : ℕ) → ((d : ℕ) → InWord set d ↔ (d < a × P d)) → ((d : ℕ) → InWord new d ↔ (InWord set d ⊎ (d ≡ a))) → P a → (d : ℕ) → InWord new d ↔ (d < a + 1 × P d)
set_more P set new a before added holds d = (
  (λ is. elim ((added d).0 is) [
    | inl in_set ↦ (omega (arith, ((before d).0 in_set).0), ((before d).0 in_set).1)
    | inr at ↦ (omega (arith, at), subst P (sym at) holds)
  ]),
  (λ both. elim (cases_eq d a) [
    | inl at ↦ (added d).1 (inr at)
    | inr other ↦ (added d).1 (inl ((before d).1 (omega (arith, both.0, other), both.1)))
  ]),
)

-- the same set, where P does not hold of a
pub set_same : (P : ℕ → Type 0) (set a : ℕ) → ((d : ℕ) → InWord set d ↔ (d < a × P d)) → (P a → ⊥) → (d : ℕ) → InWord set d ↔ (d < a + 1 × P d)
set_same P set a before fails d = (
  (λ is. (omega (arith, ((before d).0 is).0), ((before d).0 is).1)),
  (λ both. elim (cases_eq d a) [
    | inl at ↦ absurd (fails (subst P at both.1))
    | inr other ↦ (before d).1 (omega (arith, both.0, other), both.1)
  ]),
)
