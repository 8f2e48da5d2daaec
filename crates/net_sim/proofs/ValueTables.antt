-- Tables of values that are made half by half.
use Rattle.std.proofs.Common.{◌≡◌, Result, Ok, Err, OnOk, ℕ, zero, suc, ◌+◌, ◌*◌, ◌/◌, ◌%◌, ◌-◌, ◌^◌, ◌<◌, ◌≤◌, inl, inr, All, Bool, true, false, not, ◌&&◌, ◌||◌, if◌then◌else◌, List, [], ◌∷◌, ◌++◌, Some, None, filter, length, get_or, refl, sym, ◌∙◌, ap, subst, arith}
use Rattle.std.proofs.Math.ListN.{replicate}
use Rattle.std.specs.List.{list_any}
use Rattle.std.proofs.lemmas.Bool.{cases_lt, false≢true}
use Rattle.std.specs.Bool.{◌==◌}
use Rattle.std.proofs.lemmas.List.{get_or_append_left, get_or-append_right, get_or-replicate, length-append, length-replicate, append_assoc}
use Rattle.std.proofs.lemmas.List.Elements.{All-head, All-tail}
use Rattle.cubes.specs.declared.cube.Cube.{Cube}
use Rattle.cubes.specs.Cube.{holds}
use Rattle.cubes.specs.Field.{allows, character, characters, characters_hold}
use Rattle.cubes.specs.Symbol.{bit, symbol_of}
use Rattle.cubes.specs.Laws.Bits.{bit_from_zero}
use Rattle.cubes.specs.Laws.Numbers.{bit-above, bit-top, length-symbol_of, pow-suc, symbol_of-low_top}
use Rattle.std.proofs.lemmas.Nat.Bits.{bit_at_cat_low, bit_at-zero}
use Rattle.std.proofs.Math.Nat.{pow-le-pow_right}
use Rattle.std.proofs.Math.Pow.{split}
use Rattle.std.specs.Int.{bit_at}
use Rattle.net_core.specs.declared.gate_order.NumberedGate.{NumberedGate}
use Rattle.net_sim.specs.Inner.GateValues.{value_for}
use Rattle.net_sim.specs.Inner.Forms.{IsCubes, IsValueTable}
use Rattle.net_sim.specs.Inner.ValueTables.{AreLowValues, HasAdded, allows_at, holds_low, low_value}

-- a test on what a filter keeps
any_kept : {X : Type 0} (p q : X → Bool) (xs : List X) → list_any q (filter p xs) ≡ list_any (λ x. p x && q x) xs
any_kept p q [] = refl
any_kept p q (x ∷ xs) =
    elim (p x) as (λ b. list_any q (if b then x ∷ filter p xs else filter p xs) ≡ ((b && q x) || list_any (λ y. p y && q y) xs)) [
      | true ↦ ap (λ b. q x || b) (any_kept p q xs)
      | false ↦ any_kept p q xs
    ]

-- one place more: the cubes that allow the number's bit there, by their lower places
any_next : (place number : ℕ) (one : Bool) (cubes : List Cube) → bit number place ≡ one → list_any (holds_low place number) (filter (allows_at place one) cubes) ≡ list_any (holds_low (suc place) number) cubes
unfolding characters symbol_of
any_next place number one cubes is =
    any_kept (allows_at place one) (holds_low place number) cubes
    ∙ ap (λ b. list_any (λ cube. allows_at place b cube && holds_low place number cube) cubes) (sym is)

module _ (on : Bool) (cubes : List Cube) (place : ℕ) where
  -- the values of both halves
  halves : (lower upper : List Bool) → AreLowValues on (filter (allows_at place false) cubes) place lower → AreLowValues on (filter (allows_at place true) cubes) place upper → AreLowValues on cubes (suc place) (lower ++ upper)
  halves lower upper low high = record {
    whole = omega (arith, length-append lower upper, low.whole, high.whole, pow-suc place);
    each = λ k lt.
        elim (cases_lt k (2 ^ place)) [
          | inl below ↦
              get_or_append_left lower upper false k (omega (arith, below, low.whole))
              ∙ (low.each k below ∙ ap (λ b. if b then on else not on) (any_next place k false cubes (bit-above place k below)))
          | inr from ↦
              let j : ℕ = k - 2 ^ place in
              let same : 2 ^ place + j ≡ k = omega (arith, from) in
              let less : j < 2 ^ place = omega (arith, lt, from, pow-suc place) in
              let top : bit k place ≡ true = subst (λ (n : ℕ). bit n place ≡ true) same (bit-top place j less) in
              let low_bits : symbol_of place j ≡ symbol_of place k = sym (symbol_of-low_top place place j (omega arith)) ∙ ap (symbol_of place) same in
              let kept : List Cube = filter (allows_at place true) cubes in
              get_or-append_right lower upper (2 ^ place) k false low.whole from
              ∙ (high.each j less
              ∙ ap (λ b. if b then on else not on)
              (ap (λ symbol. list_any (λ cube. characters_hold (characters place cube.care cube.value) symbol) kept) low_bits
              ∙ any_next place k true cubes top))
        ];
  }

  pub halves_added : (old middle new : List Bool) → HasAdded on (filter (allows_at place false) cubes) place old middle → HasAdded on (filter (allows_at place true) cubes) place middle new → HasAdded on cubes (suc place) old new
  halves_added old middle new (lower, first, low) (upper, second, high) =
      (lower ++ upper, second ∙ (ap (λ list. list ++ upper) first ∙ append_assoc old lower upper), halves lower upper low high)

-- equal values, where the value is the same at all numbers
pub equal_added : (on value : Bool) (cubes : List Cube) (places : ℕ) (old new : List Bool) → ((k : ℕ) → low_value on cubes places k ≡ value) → new ≡ old ++ replicate (2 ^ places) value → HasAdded on cubes places old new
equal_added on value cubes places old new same is = (
  replicate (2 ^ places) value,
  is,
  record {
    whole = length-replicate (2 ^ places) value;
    each = λ k lt. get_or-replicate (2 ^ places) k value false lt ∙ sym (same k);
  },
)

-- a number without a remainder has no bits below
low_zero : (number places i : ℕ) → number % 2 ^ places ≡ 0 → i < places → bit number i ≡ false
low_zero number places i none lt =
    let parts : number / 2 ^ places * 2 ^ places + number % 2 ^ places ≡ number = split number places in
    bit_from_zero number i
    (ap (λ (n : ℕ). bit_at n i) (sym parts)
    ∙ (bit_at_cat_low (number / 2 ^ places) places (number % 2 ^ places) i lt ∙ (ap (λ (n : ℕ). bit_at n i) none ∙ bit_at-zero i)))

-- a cube without bits at the lowest places holds all there
dashes_hold : (cube : Cube) (places : ℕ) → ((i : ℕ) → i < places → bit cube.care i ≡ false) → (number : ℕ) → holds_low places number cube ≡ true
unfolding characters symbol_of
dashes_hold cube zero none number = refl
dashes_hold cube (suc place) none number =
    ap (λ b. allows (if b then Some (bit cube.value place) else None) (bit number place) && holds_low place number cube) (none place (omega arith))
    ∙ dashes_hold cube place (λ i lt. none i (omega (arith, lt))) number

pub open_holds : (cube : Cube) (places : ℕ) → cube.care % 2 ^ places ≡ 0 → (number : ℕ) → holds_low places number cube ≡ true
open_holds cube places none =
    dashes_hold cube places (λ i lt. low_zero cube.care places i none lt)

-- an item that passes
pub any_at : {X : Type 0} (test : X → Bool) (xs : List X) (i : ℕ) (x : X) → i < length xs → test (get_or xs i x) ≡ true → list_any test xs ≡ true
any_at test [] i x lt passes = absurd (omega (arith, lt))
any_at test (y ∷ ys) zero x lt passes = ap (λ b. b || list_any test ys) passes
any_at test (y ∷ ys) (suc i) x lt passes =
    elim (test y) as (λ b. (b || list_any test ys) ≡ true) [
      | true ↦ refl
      | false ↦ any_at test ys i x (omega (arith, lt)) passes
    ]

-- without places, a cube holds all
pub some_at_none : (cubes : List Cube) (number : ℕ) → (length cubes == 0) ≡ false → list_any (holds_low 0 number) cubes ≡ true
unfolding characters symbol_of
some_at_none [] number some = absurd (false≢true (sym some))
some_at_none (cube ∷ cubes) number some = refl

-- cubes as wide as the gate hold what its rows hold
low_of_wide : (width number : ℕ) (cubes : List Cube) → All (λ cube. cube.width ≡ width) cubes → list_any (holds_low width number) cubes ≡ list_any (λ cube. holds cube (symbol_of width number)) cubes
low_of_wide width number [] all = refl
low_of_wide width number (cube ∷ cubes) all =
    ap (λ (n : ℕ). characters_hold (characters n cube.care cube.value) (symbol_of width number) || list_any (holds_low width number) cubes) (sym (All-head (λ (c : Cube). c.width ≡ width) cube cubes all))
    ∙ ap (λ b. holds cube (symbol_of width number) || b) (low_of_wide width number cubes (All-tail (λ (c : Cube). c.width ≡ width) cube cubes all))

pub whole_table : (gate : NumberedGate) (cubes : List Cube) (table : List Bool) → length gate.inputs.items ≤ 16 → IsCubes gate cubes → HasAdded gate.on cubes (length gate.inputs.items) [] table → IsValueTable gate table
whole_table gate cubes table few is (values, same, are) =
    let width : ℕ = length gate.inputs.items in
    subst (IsValueTable gate) (sym same) (record {
      few = few;
      whole = are.whole;
      values = λ k lt.
          are.each k (subst (λ (n : ℕ). k < n) are.whole lt)
          ∙ ap (λ b. if b then gate.on else not gate.on)
          (low_of_wide width k cubes is.widths ∙ is.held (symbol_of width k) (length-symbol_of width k));
    })

-- both halves of the numbers of some places were added, unless memory ran out
pub both_added :
    {V E : Type 0} (result : Result V E) (on : Bool) (cubes with_zero with_one : List Cube) (places : ℕ) (old middle new : List Bool) → 0 < places →
    with_zero ≡ filter (allows_at (places - 1) false) cubes → with_one ≡ filter (allows_at (places - 1) true) cubes →
    HasAdded on with_zero (places - 1) old middle → OnOk result (HasAdded on with_one (places - 1) middle new) → OnOk result (HasAdded on cubes places old new)
both_added (Err _) on cubes with_zero with_one places old middle new some zeros ones first second = tt
both_added (Ok _) on cubes with_zero with_one places old middle new some zeros ones first second =
    let place : ℕ = places - 1 in
    subst (λ (n : ℕ). HasAdded on cubes n old new) (omega (arith, some))
    (halves_added on cubes place old middle new
    (subst (λ (kept : List Cube). HasAdded on kept place old middle) zeros first)
    (subst (λ (kept : List Cube). HasAdded on kept place middle new) ones second))

-- a power of two that a word holds
pub power_fits : (places : ℕ) → places ≤ 16 → 1 * 2 ^ places % 2 ^ 32 ≡ 2 ^ places
power_fits places few = let most : 2 ^ places ≤ 2 ^ 16 = pow-le-pow_right {n = 2} (omega arith) {i = places} {j = 16} (omega arith) in omega (arith, most)

-- a cube without bits at the lowest places is in the list
pub open_at : (cubes : List Cube) (i places : ℕ) (cube : Cube) → places ≤ 16 → i < length cubes → cube ≡ get_or cubes i cube → cube.care % (1 * 2 ^ places % 2 ^ 32) ≡ 0 → (number : ℕ) → list_any (holds_low places number) cubes ≡ true
open_at cubes i places cube few lt is none number =
    any_at (holds_low places number) cubes i cube lt
    (subst (λ (c : Cube). holds_low places number c ≡ true) is (open_holds cube places (ap (λ (n : ℕ). cube.care % n) (sym (power_fits places few)) ∙ none) number))

-- the value where some cube holds all
pub value_of_held : (on : Bool) (cubes : List Cube) (places number : ℕ) → list_any (holds_low places number) cubes ≡ true → low_value on cubes places number ≡ on
value_of_held on cubes places number held = ap (λ b. if b then on else not on) held

pub value_without_places : (on : Bool) (cubes : List Cube) (places number : ℕ) → places ≡ 0 → (length cubes == 0) ≡ false → low_value on cubes places number ≡ on
value_without_places on cubes places number none some =
    value_of_held on cubes places number (subst (λ (n : ℕ). list_any (holds_low n number) cubes ≡ true) (sym none) (some_at_none cubes number some))
