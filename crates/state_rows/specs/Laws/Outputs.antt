-- Where two rows give 0 and 1 at one output.
use Rattle.std.proofs.Common.{◌≡◌, ◌≢◌, ℕ, ◌+◌, ◌-◌, ◌%◌, ◌^◌, ◌<◌, ◌⊎◌, ◌↔◌, min, Bool, true, false, Some, None, IsSome, Option, subst, ap, sym, ◌∙◌, arith, bit_and, inl, inr, is_some, refl}
use Rattle.std.proofs.lemmas.Bool.{cases_Bool, true≢false}
use Rattle.std.proofs.lemmas.Nat.Bits.{bit_at_and, bit_at_xor, bit_at-lt, bit_at-zero, bit_at_ones}
use Rattle.std.specs.Int.{bit_at}
use Rattle.std.specs.Int.RustNames.{bit_xor}
use Rattle.cubes.specs.Symbol.{bit}
use Rattle.cubes.specs.Laws.Bits.{one_from_bit, zero_from_bit, bit_from_one, bit_from_zero}
use Rattle.kiss_file.specs.declared.file.KissRow.{KissRow}
use Rattle.kiss_file.specs.Machine.{GiveBoth, given_bit}

-- the outputs that both rows give, and at which they differ
abbrev pub clash_of : KissRow → KissRow → ℕ
clash_of row other = bit_and (bit_and row.care other.care) (bit_xor row.value other.value)

digits_differ : (a b v w : ℕ) → a < 2 → b < 2 → v < 2 → w < 2 → min (min a b) ((v + w) % 2) ≡ 1
    → (a ≡ 1) × (b ≡ 1) × (((v ≡ 0) × (w ≡ 1)) ⊎ ((v ≡ 1) × (w ≡ 0)))
digits_differ a b v w la lb lv lw one = grind arith

digits_clash : (a b v w : ℕ) → a ≡ 1 → b ≡ 1 → v + w ≡ 1 → min (min a b) ((v + w) % 2) ≡ 1
digits_clash a b v w ha hb sum = grind arith

pub clash_digit : (row other : KissRow) (k : ℕ)
    → bit_at (clash_of row other) k ≡ min (min (bit_at row.care k) (bit_at other.care k)) ((bit_at row.value k + bit_at other.value k) % 2)
clash_digit row other k =
    bit_at_and (bit_and row.care other.care) (bit_xor row.value other.value) k
    ∙ ap (λ n. min n (bit_at (bit_xor row.value other.value) k)) (bit_at_and row.care other.care k)
    ∙ ap (λ n. min (min (bit_at row.care k) (bit_at other.care k)) n) (bit_at_xor row.value other.value k)

given_at : (row : KissRow) (k : ℕ) (b : Bool) → bit_at row.care k ≡ 1 → bit row.value k ≡ b → given_bit k row ≡ Some b
given_at row k b cares value = rw (bit_from_one row.care k cares) (ap Some value)

-- a bit of the clash shows an output with 0 and 1
pub both_at : (row other : KissRow) (k : ℕ) → bit_at (clash_of row other) k ≡ 1 → GiveBoth row other ⊎ GiveBoth other row
both_at row other k one =
    let digits = digits_differ (bit_at row.care k) (bit_at other.care k) (bit_at row.value k) (bit_at other.value k)
    (bit_at-lt row.care k) (bit_at-lt other.care k) (bit_at-lt row.value k) (bit_at-lt other.value k)
    (sym (clash_digit row other k) ∙ one) in
    elim digits.2 [
      | inl up ↦ inl (k, given_at row k false digits.0 (bit_from_zero row.value k up.0), given_at other k true digits.1 (bit_from_one other.value k up.1))
      | inr down ↦ inr (k, given_at other k false digits.1 (bit_from_zero other.value k down.1), given_at row k true digits.0 (bit_from_one row.value k down.0))
    ]

-- what a given bit says of the row's numbers
care_of_given : (row : KissRow) (k : ℕ) (b : Bool) → given_bit k row ≡ Some b → bit row.care k ≡ true
care_of_given row k b given =
    elim (cases_Bool (bit row.care k)) [
      | inl cares ↦ cares
      | inr not_there ↦ let none : None ≡ Some b = rw not_there at given in cc
    ]

pub value_of_given : (row : KissRow) (k : ℕ) (b : Bool) → given_bit k row ≡ Some b → bit row.value k ≡ b
value_of_given row k b given =
    let there : Some (bit row.value k) ≡ Some b = rw (care_of_given row k b given) at given in cc

-- an output with 0 and 1 is a clash
pub clash_from_both : (row other : KissRow) → GiveBoth row other → clash_of row other ≢ 0
clash_from_both row other (k, zero_there, one_there) none =
    let digit = clash_digit row other k in
    let clash = digits_clash (bit_at row.care k) (bit_at other.care k) (bit_at row.value k) (bit_at other.value k)
    (one_from_bit row.care k (care_of_given row k false zero_there)) (one_from_bit other.care k (care_of_given other k true one_there))
    (omega (arith, zero_from_bit row.value k (value_of_given row k false zero_there), one_from_bit other.value k (value_of_given other k true one_there))) in
    let zero_digit = ap (λ n. bit_at n k) none ∙ bit_at-zero k in
    omega (arith, digit, clash, zero_digit)

-- the other way round it is the same clash
pub clash_from_both_back : (row other : KissRow) → GiveBoth other row → clash_of row other ≢ 0
clash_from_both_back row other (k, zero_there, one_there) none =
    let digit = clash_digit row other k in
    let clash = digits_clash (bit_at row.care k) (bit_at other.care k) (bit_at row.value k) (bit_at other.value k)
    (one_from_bit row.care k (care_of_given row k true one_there)) (one_from_bit other.care k (care_of_given other k false zero_there))
    (omega (arith, zero_from_bit other.value k (value_of_given other k false zero_there), one_from_bit row.value k (value_of_given row k true one_there))) in
    let zero_digit = ap (λ n. bit_at n k) none ∙ bit_at-zero k in
    omega (arith, digit, clash, zero_digit)

-- a row that gives each of so many outputs gives each below
pub given_in_all : (row : KissRow) (outputs b : ℕ) → row.care ≡ 2 ^ outputs - 1 → b < outputs → IsSome (given_bit b row)
given_in_all row outputs b all within =
    let cares : bit row.care b ≡ true = bit_from_one row.care b (ap (λ n. bit_at n b) all ∙ bit_at_ones outputs b within) in
    let given : given_bit b row ≡ Some (bit row.value b) = given_at row b (bit row.value b) (one_from_bit row.care b cares) refl in
    subst (λ (o : Option Bool). IsSome o) (sym given) refl

-- what a row gives is the bit of its value
pub given_value : (row : KissRow) (b : ℕ) → IsSome (given_bit b row) → given_bit b row ≡ Some (bit row.value b)
given_value row b some =
    elim (cases_Bool (bit row.care b)) [
      | inl cares ↦ given_at row b (bit row.value b) (one_from_bit row.care b cares) refl
      | inr not_there ↦
          let gone : given_bit b row ≡ None = rw not_there refl in
          absurd (true≢false (sym some ∙ ap is_some gone))
    ]

-- a row gives an output where its care has the bit
pub gives_where_cares : (row : KissRow) (b : ℕ) → IsSome (given_bit b row) ↔ (bit row.care b ≡ true)
gives_where_cares row b = (
  λ some. care_of_given row b (bit row.value b) (given_value row b some),
  λ cares. subst (λ (o : Option Bool). IsSome o) (sym (given_at row b (bit row.value b) (one_from_bit row.care b cares) refl)) refl,
)
