-- The number of bits that a number of blocks needs.
use Rattle.std.proofs.Common.{◌≡◌, ℕ, zero, suc, ◌^◌, ◌<◌, ◌≤◌, inl, inr, leb, get_or, sym, ap, ◌∙◌, arith}
use Rattle.std.proofs.lemmas.Bool.{cases_lt, leb-true, le-leb, lt-leb, false≢true}
use Rattle.std.proofs.lemmas.List.{get_or_past}
use Rattle.std.proofs.lemmas.List.FromFn.{length-range_with_len, get_or-range_with_len}
use Rattle.std.proofs.lemmas.List.Sums.{position_or_len_is, fails_before_first, passes_at_first}
use Rattle.std.proofs.lemmas.Nat.{pow_below}
use Rattle.std.proofs.Math.Pow.{pow_mono}
use Rattle.std.specs.List.{position_or_len, range_with_len}
use Rattle.state_codes.specs.Code.{need, IsNeed, NeedIsLeast}

pub lt-pow : (n : ℕ) → n < 2 ^ n
lt-pow zero = omega arith
lt-pow (suc n) = omega (arith, lt-pow n, pow_below n (suc n) (omega arith))

enough_at : (blocks bits : ℕ) → bits < blocks → leb blocks (2 ^ get_or (range_with_len 0 blocks) bits 0) ≡ leb blocks (2 ^ bits)
enough_at blocks bits below = ap (λ (k : ℕ). leb blocks (2 ^ k)) (get_or-range_with_len 0 blocks bits 0 below ∙ omega arith)

pub need_is : (blocks bits : ℕ) → IsNeed blocks bits → need blocks ≡ bits
unfolding need
need_is blocks bits needed =
    let small : bits ≤ blocks = needed.least blocks (omega (arith, lt-pow blocks)) in
    position_or_len_is (λ k. leb blocks (2 ^ k)) (range_with_len 0 blocks) bits 0
    (omega (arith, length-range_with_len 0 blocks))
    (λ k below. enough_at blocks k (omega arith) ∙ lt-leb blocks (2 ^ k) (too_few k below))
    (λ inside. enough_at blocks bits (omega (arith, length-range_with_len 0 blocks)) ∙ le-leb blocks (2 ^ bits) needed.enough)
  where
    too_few : (k : ℕ) → k < bits → 2 ^ k < blocks
    too_few k below = elim (cases_lt (2 ^ k) blocks) [
      | inl fewer ↦ fewer
      | inr enough ↦ absurd (omega (arith, needed.least k enough))
    ]

pub need-enough : (blocks : ℕ) → blocks ≤ 2 ^ need blocks
unfolding need
need-enough blocks =
    let first : ℕ = position_or_len (λ k. leb blocks (2 ^ k)) (range_with_len 0 blocks) in
    elim (cases_lt first blocks) [
      | inl inside ↦ leb-true blocks (2 ^ first) (sym (enough_at blocks first inside) ∙ passes_at_first (λ k. leb blocks (2 ^ k)) (range_with_len 0 blocks) 0 (omega (arith, length-range_with_len 0 blocks)))
      | inr past ↦ omega (arith, lt-pow blocks, pow_mono {i = blocks} {j = first} past)
    ]

pub need-least : (blocks fewer : ℕ) → blocks ≤ 2 ^ fewer → need blocks ≤ fewer
unfolding need
need-least blocks fewer enough =
    let first : ℕ = position_or_len (λ k. leb blocks (2 ^ k)) (range_with_len 0 blocks) in
    elim (cases_lt fewer first) [
      | inl below ↦ elim (cases_lt fewer blocks) [
        | inl inside ↦ absurd (false≢true (sym (fails_before_first (λ k. leb blocks (2 ^ k)) (range_with_len 0 blocks) fewer 0 below) ∙ enough_at blocks fewer inside ∙ le-leb blocks (2 ^ fewer) enough))
        | inr past ↦ absurd (false≢true (sym (fails_before_first (λ k. leb blocks (2 ^ k)) (range_with_len 0 blocks) fewer blocks below) ∙ ap (λ (k : ℕ). leb blocks (2 ^ k)) (get_or_past (range_with_len 0 blocks) fewer blocks (omega (arith, length-range_with_len 0 blocks))) ∙ le-leb blocks (2 ^ blocks) (omega (arith, lt-pow blocks))))
      ]
      | inr above ↦ above
    ]

-- a number of bits that is enough, where no smaller number is, is the need
pub first_enough : (blocks bits : ℕ) → blocks ≤ 2 ^ bits → ((fewer : ℕ) → fewer < bits → 2 ^ fewer < blocks) → bits ≡ need blocks
first_enough blocks bits enough too_few =
    sym (need_is blocks bits (record {
      enough = enough;
      least = λ fewer holds. elim (cases_lt fewer bits) [
        | inl below ↦ absurd (omega (arith, too_few fewer below))
        | inr above ↦ above
      ];
    }))

pub need_is_least : NeedIsLeast
need_is_least blocks = record { enough = need-enough blocks; least = need-least blocks }
