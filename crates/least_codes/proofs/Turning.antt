-- Turning a bit of all codes over changes no cost, so the least code has zeros for state 0.
use Rattle.std.proofs.Common.{◌≡◌, ◌≢◌, ◌⊎◌, ◌∙◌, ◌==◌, ℕ, zero, suc, ◌+◌, ◌%◌, ◌^◌, ◌<◌, Contains, List, length, get_or, map, bit_xor, inl, inr, ap, sym, subst, arith}
use Rattle.std.proofs.lemmas.Bool.{cases_eq}
use Rattle.std.proofs.lemmas.List.{get_or-map, length-map}
use Rattle.std.proofs.lemmas.Nat.{xor_lt, pow_pos}
use Rattle.std.proofs.lemmas.Nat.Bits.{bit_at-lt, bit_at_xor, bit_at-zero, same_from_bits, same_from_bits_below}
use Rattle.std.specs.Int.{bit_at}
use Rattle.cubes.specs.Symbol.{bit}
use Rattle.kiss_file.specs.declared.file.KissFile.{KissFile}
use Rattle.kiss_file.specs.Machine.{next}
use Rattle.machine_table.specs.NextStates.{NeverLeaves}
use Rattle.state_codes.specs.Agreement.{CodesAgreeAt}
use Rattle.dependence.specs.SufficientBits.{PermitsValue, next_value}
use Rattle.least_codes.specs.Cost.{IsCost, IsLatchCost}
use Rattle.least_codes.specs.LeastCode.{AreCodeWords, TextsBefore}
use Rattle.least_codes.specs.LeastReads.{AreEnoughBits}
use Rattle.least_codes.proofs.Rows.{same_from_tests}

-- any two states agree in the same bits
pub record AgreeAlike (n : ℕ) (words others : List ℕ) : Type 0 where
  pub to : (c s t : ℕ) → s < n → t < n → CodesAgreeAt words c s t → CodesAgreeAt others c s t
  pub from : (c s t : ℕ) → s < n → t < n → CodesAgreeAt others c s t → CodesAgreeAt words c s t

turned_round : (n : ℕ) (words others : List ℕ) → AgreeAlike n words others → AgreeAlike n others words
turned_round n words others alike = record { to = alike.from; from = alike.to }

module _ (F : KissFile) (stays : NeverLeaves F) where
  enough_alike : (words others : List ℕ) → AgreeAlike (length F.states) words others → (Candidate : ℕ → Type 0) (i : ℕ) (reads : List ℕ) → AreEnoughBits F words Candidate (next_value F words i) reads → AreEnoughBits F others Candidate (next_value F others i) reads
  enough_alike words others alike Candidate i reads enough = record {
    ascending = enough.ascending;
    candidates = enough.candidates;
    permit = permit;
  } where
    permit : PermitsValue F others (Contains reads) (next_value F others i)
    permit s t x in_s in_t agree size =
        let u : ℕ = next F s x in
        let v : ℕ = next F t x in
        let same : bit (get_or words u 0) i ≡ bit (get_or words v 0) i = enough.permit s t x in_s in_t (λ c is. alike.from c s t in_s in_t (agree c is)) size in
        let bits : CodesAgreeAt words i u v = same_from_tests (bit_at (get_or words u 0) i) (bit_at (get_or words v 0) i) (bit_at-lt (get_or words u 0) i) (bit_at-lt (get_or words v 0) i) same in
        ap (λ (n : ℕ). n == 1) (alike.to i u v (stays s x in_s size) (stays t x in_t size) bits)

  pub cost_alike : (words others : List ℕ) (bits cost : ℕ) → AgreeAlike (length F.states) words others → IsCost F words bits cost → IsCost F others bits cost
  cost_alike words others bits cost alike costs = record {
    costs = costs.costs;
    count = costs.count;
    each = λ i below.
        let latch : IsLatchCost F words bits i (get_or costs.costs i 0) = costs.each i below in
        record {
          reads = latch.reads;
          fewest = record {
            enough = enough_alike words others alike (λ c. c < bits) i latch.reads latch.fewest.enough;
            fewest = λ more enough. latch.fewest.fewest more (enough_alike others words (turned_round (length F.states) words others alike) (λ c. c < bits) i more enough);
          };
          size = latch.size;
        };
    total = costs.total;
  }

-- the words with some bits turned over
pub turned : ℕ → List ℕ → List ℕ
turned mask words = map (λ (word : ℕ). bit_xor word mask) words

xor_same : (a b m : ℕ) → a < 2 → b < 2 → m < 2 → (a + m) % 2 ≡ (b + m) % 2 → a ≡ b
xor_same a b m small_a small_b small_m same = omega (arith, small_a, small_b, small_m, same)

module _ (n : ℕ) (words : List ℕ) (size : length words ≡ n) (mask : ℕ) where
  pub turned_at : (s : ℕ) → s < n → get_or (turned mask words) s 0 ≡ bit_xor (get_or words s 0) mask
  unfolding turned
  turned_at s within = get_or-map (λ (word : ℕ). bit_xor word mask) words s 0 0 (omega (arith, within, size))

  turned_bit : (s c : ℕ) → s < n → bit_at (get_or (turned mask words) s 0) c ≡ (bit_at (get_or words s 0) c + bit_at mask c) % 2
  turned_bit s c within = ap (λ (word : ℕ). bit_at word c) (turned_at s within) ∙ bit_at_xor (get_or words s 0) mask c

  pub turned_alike : AgreeAlike n words (turned mask words)
  turned_alike = record {
    to = λ c s t in_s in_t agree. turned_bit s c in_s ∙ ap (λ (b : ℕ). (b + bit_at mask c) % 2) agree ∙ sym (turned_bit t c in_t);
    from = λ c s t in_s in_t agree. xor_same (bit_at (get_or words s 0) c) (bit_at (get_or words t 0) c) (bit_at mask c) (bit_at-lt (get_or words s 0) c) (bit_at-lt (get_or words t 0) c) (bit_at-lt mask c)
        (sym (turned_bit s c in_s) ∙ agree ∙ turned_bit t c in_t);
  }

  pub turned_codes : (bits : ℕ) → mask < 2 ^ bits → AreCodeWords n bits words → AreCodeWords n bits (turned mask words)
  unfolding turned
  turned_codes bits small codes = record {
    count = counted;
    short = λ s within. subst (λ (word : ℕ). word < 2 ^ bits) (sym (turned_at s within)) (xor_lt bits (get_or words s 0) mask (codes.short s within) small);
    distinct = λ s t in_s in_t same. codes.distinct s t in_s in_t (same_from_bits (get_or words s 0) (get_or words t 0) (λ c. turned_alike.from c s t in_s in_t (ap (λ (word : ℕ). bit_at word c) same)));
  } where
    counted : length (turned mask words) ≡ n
    counted = length-map words (λ (word : ℕ). bit_xor word mask) ∙ size

-- a word without itself
pub xor_itself : (word : ℕ) → bit_xor word word ≡ 0
xor_itself word = same_from_bits (bit_xor word word) 0 (λ c. bit_at_xor word word c ∙ double (bit_at word c) (bit_at-lt word c) ∙ sym (bit_at-zero c)) where
  double : (b : ℕ) → b < 2 → (b + b) % 2 ≡ 0
  double b small = omega (arith, small)

-- the lowest bit of a number
pub record LowestBit (number : ℕ) : Type 0 where
  pub at : ℕ
  pub one : bit_at number at ≡ 1
  pub none_below : (c : ℕ) → c < at → bit_at number c ≡ 0

lowest_below : (number k : ℕ) → LowestBit number ⊎ ((c : ℕ) → c < k → bit_at number c ≡ 0)
lowest_below number zero = inr (λ c below. absurd (omega (arith, below)))
lowest_below number (suc k) =
    elim (lowest_below number k) [
      | inl found ↦ inl found
      | inr none ↦ elim (cases_eq (bit_at number k) 1) [
        | inl one ↦ inl (record { at = k; one = one; none_below = none })
        | inr other ↦ inr (λ c below. elim (cases_eq c k) [
          | inl at ↦ subst (λ (d : ℕ). bit_at number d ≡ 0) (sym at) (omega (arith, other, bit_at-lt number k))
          | inr less ↦ none c (omega (arith, below, less))
        ])
      ]
    ]

pub lowest_bit : (number bits : ℕ) → number < 2 ^ bits → number ≢ 0 → LowestBit number
lowest_bit number bits small some =
    elim (lowest_below number bits) [
      | inl found ↦ found
      | inr none ↦ absurd (some (same_from_bits_below bits number 0 small (pow_pos bits) (λ c below. none c below ∙ sym (bit_at-zero c))))
    ]

-- codes with zeros for state 0 are before those without
pub before_nonzero : (bits : ℕ) (words others : List ℕ) → get_or words 0 0 ≡ 0 → get_or others 0 0 < 2 ^ bits → get_or others 0 0 ≢ 0 → TextsBefore words others
before_nonzero bits words others none small some =
    let lowest : LowestBit (get_or others 0 0) = lowest_bit (get_or others 0 0) bits small some in
    let zeros : (c : ℕ) → bit_at (get_or words 0 0) c ≡ 0 = λ c. ap (λ (word : ℕ). bit_at word c) none ∙ bit_at-zero c in
    record {
      state = 0;
      bit = lowest.at;
      states_before = λ s below. absurd (omega (arith, below));
      bits_before = λ c below. zeros c ∙ sym (lowest.none_below c below);
      zero = zeros lowest.at;
      one = lowest.one;
    }
