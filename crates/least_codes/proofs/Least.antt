-- The best of all codes with zeros for state 0 is the least code.
use Rattle.std.proofs.Common.{◌≡◌, ◌∙◌, ℕ, ◌-◌, ◌^◌, ◌<◌, ◌≤◌, List, None, length, get_or, inl, inr, ap, sym, arith}
use Rattle.std.proofs.lemmas.Bool.{cases_eq}
use Rattle.std.proofs.lemmas.List.FromFn.{get_or-range_with_len, length-range_with_len}
use Rattle.std.proofs.lemmas.Nat.{pow_pos}
use Rattle.std.proofs.lemmas.Nat.Bits.{bit_at-zero}
use Rattle.std.proofs.Math.Pow.{pow_mono}
use Rattle.std.specs.Int.{bit_at}
use Rattle.std.specs.List.{range_with_len}
use Rattle.kiss_file.specs.declared.file.KissFile.{KissFile}
use Rattle.machine_table.specs.NextStates.{NeverLeaves}
use Rattle.state_codes.specs.Code.{need}
use Rattle.state_codes.specs.Laws.Need.{first_enough, need-enough}
use Rattle.least_codes.specs.declared.code.Best.{Best}
use Rattle.least_codes.specs.Inner.Lists.{AreBefore, AreSeen, IsBest, IsDraft, IsBestSeen}
use Rattle.least_codes.specs.LeastCode.{AreCodeWords, IsLeastCode, TextsBefore}
use Rattle.least_codes.proofs.Turning.{before_nonzero, cost_alike, turned, turned_alike, turned_at, turned_codes, xor_itself}

-- two bits for 3 and 4 states
pub need_of_four : (n : ℕ) → 3 ≤ n → n ≤ 4 → 2 ≡ need n
need_of_four n some few = first_enough n 2 (omega (arith, few)) (λ fewer below. omega (arith, some, pow_mono {i = fewer} {j = 1} (omega (arith, below))))

-- and three for 5 to 8
pub need_of_eight : (n : ℕ) → 4 < n → n ≤ 8 → 3 ≡ need n
need_of_eight n some few = first_enough n 3 (omega (arith, few)) (λ fewer below. omega (arith, some, pow_mono {i = fewer} {j = 2} (omega (arith, below))))

-- the numbers of the states, as codes
pub numbers_are_codes : (n bits : ℕ) → n ≤ 2 ^ bits → AreCodeWords n bits (range_with_len 0 n)
numbers_are_codes n bits enough = record {
  count = length-range_with_len 0 n;
  short = λ s within. omega (arith, get_or-range_with_len 0 n s 0 within, within, enough);
  distinct = λ s t in_s in_t same. omega (arith, get_or-range_with_len 0 n s 0 in_s, get_or-range_with_len 0 n t 0 in_t, same);
}

-- a draft with zeros alone, of which the code of state 0 is whole
module _ (words : List ℕ) (zeros : (s : ℕ) → get_or words s 0 ≡ 0) where
  pub draft_begun : (bits : ℕ) → 0 < length words → IsDraft bits words 1 0
  draft_begun bits some = record {
    state = omega (arith, some);
    bit = omega arith;
    short = λ u below. omega (arith, zeros u, pow_pos bits);
    distinct = λ u v in_u in_v same. omega (arith, in_u, in_v);
    begun = λ c above. ap (λ (word : ℕ). bit_at word c) (zeros 1) ∙ bit_at-zero c;
    later = λ u above. zeros u;
  }

  -- no codes are before it
  pub none_before : (others : List ℕ) → AreBefore words 1 0 others → ⊥
  none_before others before =
      let order : TextsBefore others words = before.order in
      omega (arith, order.one, ap (λ (word : ℕ). bit_at word order.bit) (zeros order.state), bit_at-zero order.bit)

  seen_zero : (others : List ℕ) → get_or others 0 0 ≡ 0 → AreSeen words 1 0 others
  seen_zero others none = inr (record {
    states = λ u below. let at : u ≡ 0 = omega (arith, below) in ap (λ (s : ℕ). get_or others s 0) at ∙ none ∙ sym (zeros u);
    bits = λ c below. absurd (omega (arith, below));
  })

  zero_seen : (others : List ℕ) → AreSeen words 1 0 others → get_or others 0 0 ≡ 0
  zero_seen others seen = elim seen [ inl before ↦ absurd (none_before others before) | inr same ↦ same.states 0 (omega arith) ∙ zeros 0 ]

  module _ (F : KissFile) (some : 0 < length F.states) where
    -- there are codes
    pub some_kept : IsBestSeen F (need (length F.states)) (AreSeen words 1 0) None → ⊥
    some_kept kept =
        let n : ℕ = length F.states in
        kept (range_with_len 0 n) (numbers_are_codes n (need n) (need-enough n)) (seen_zero (range_with_len 0 n) (get_or-range_with_len 0 n 0 0 some ∙ omega arith))

    module _ (best : Best) (is : IsBest F (need (length F.states)) (AreSeen words 1 0) best) where
      pub best_zero : get_or best.words.items 0 0 ≡ 0
      best_zero = zero_seen best.words.items is.seen

      pub best_is_least : NeverLeaves F → IsLeastCode F best.words.items
      best_is_least stays = record {
        codes = is.codes;
        cost = best.cost;
        costs = is.cost;
        least = λ others other codes cost.
            let mask : ℕ = get_or others 0 0 in
            let small : mask < 2 ^ need (length F.states) = codes.short 0 some in
            let none : get_or (turned mask others) 0 0 ≡ 0 = turned_at (length F.states) others codes.count mask 0 some ∙ xor_itself mask in
            is.least (turned mask others) other (turned_codes (length F.states) others codes.count mask (need (length F.states)) small codes) (seen_zero (turned mask others) none)
            (cost_alike F stays others (turned mask others) (need (length F.states)) other (turned_alike (length F.states) others codes.count mask) cost);
        first = λ others codes cost. elim (cases_eq (get_or others 0 0) 0) [
          | inl none ↦ is.first others codes (seen_zero others none) cost
          | inr other ↦ inr (before_nonzero (need (length F.states)) best.words.items others best_zero (codes.short 0 some) other)
        ];
      }
