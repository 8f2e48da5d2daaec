-- Rows by number: those of a machine, counted by state and then by symbol.
use Rattle.std.proofs.Common.{◌≡◌, ℕ, zero, suc, ◌+◌, ◌*◌, ◌/◌, ◌%◌, ◌^◌, ◌<◌, ◌≤◌, Some, List, [], ◌∷◌, ◌++◌, length, length-append, slice_get, inl, inr, refl, sym, subst, ap, ◌∙◌, arith}
use Rattle.std.proofs.Math.Nat.{mul-le-mul_right}
use Rattle.std.proofs.Math.Pow.{pow_pos}
use Rattle.std.proofs.lemmas.Nat.{div-mul-add, div_below, mod-mul-add, mod_below}
use Rattle.std.proofs.lemmas.Bool.{cases_lt}
use Rattle.kiss_file.specs.declared.file.KissRow.{KissRow}
use Rattle.machine_gen.specs.declared.rows.Place.{Place}
use Rattle.machine_gen.specs.Inner.Draws.{IsRowOfPlace, next_of, place_of}
use Rattle.machine_gen.specs.WordMachine.{AreRows, AreSizes, next_first, next_second}

-- a row stands at a number
abbrev pub StandsAt : (ℕ → ℕ) → ℕ → ℕ → ℕ → List KissRow → ℕ → Type 0
StandsAt word a b k rows n =
    (row : KissRow) × (slice_get rows n ≡ Some row) × IsRowOfPlace b k (place_of b k n) (next_of word a b k (place_of b k n)) row

-- so do all below a number, and no others
pub record AreRowsBelow (word : ℕ → ℕ) (a b k number : ℕ) (rows : List KissRow) : Type 0 where
  pub count : length rows ≡ number
  pub each : (n : ℕ) → n < number → StandsAt word a b k rows n

-- of two digits, the first below p and the second below q, the number is below p * q
pub two_digits : (i j p q : ℕ) → i < p → j < q → i * q + j < p * q
two_digits i j p q low within = let rows : (i + 1) * q ≤ p * q = mul-le-mul_right q (omega arith) in omega (arith, rows)

-- ---- the place of a number
module _ (a b k number : ℕ) (sizes : AreSizes a b k) (within : number < a * b * 2 ^ k) where
  pub first_within : (place_of b k number).first < a
  first_within = div_below (number / 2 ^ k) b a (omega (arith, sizes.b_low)) (div_below number (2 ^ k) (a * b) (pow_pos k) within)

  pub second_within : (place_of b k number).second < b
  second_within = mod_below (number / 2 ^ k) b (omega (arith, sizes.b_low))

  pub symbol_within : (place_of b k number).symbol < 2 ^ k
  symbol_within = mod_below number (2 ^ k) (pow_pos k)

-- ---- one row more
get_left : (xs ys : List KissRow) (i : ℕ) → i < length xs → slice_get (xs ++ ys) i ≡ slice_get xs i
get_left [] ys i lt = absurd (omega arith)
get_left (x ∷ xs) ys zero lt = refl
get_left (x ∷ xs) ys (suc i) lt = get_left xs ys i (omega arith)

get_last : (xs : List KissRow) (y : KissRow) → slice_get (xs ++ y ∷ []) (length xs) ≡ Some y
get_last [] y = refl
get_last (x ∷ xs) y = get_last xs y

module _ (word : ℕ → ℕ) (a b k : ℕ) where
  pub stands_still : (rows more : List KissRow) (n : ℕ) → n < length rows → StandsAt word a b k rows n → StandsAt word a b k (rows ++ more) n
  stands_still rows more n within (row, there, is) = (row, get_left rows more n within ∙ there, is)

  pub rows-more : (number : ℕ) (rows new : List KissRow) (row : KissRow) → AreRowsBelow word a b k number rows → new ≡ rows ++ row ∷ []
      → IsRowOfPlace b k (place_of b k number) (next_of word a b k (place_of b k number)) row → AreRowsBelow word a b k (number + 1) new
  rows-more number rows new row before added is = subst (AreRowsBelow word a b k (number + 1)) (sym added) (record { count = counted; each = each }) where
    counted : length (rows ++ row ∷ []) ≡ number + 1
    counted = length-append rows (row ∷ []) ∙ ap (λ n. n + 1) before.count

    last : StandsAt word a b k (rows ++ row ∷ []) number
    last = (row, ap (slice_get (rows ++ row ∷ [])) (sym before.count) ∙ get_last rows row, is)

    each : (n : ℕ) → n < number + 1 → StandsAt word a b k (rows ++ row ∷ []) n
    each n within =
        elim (cases_lt n number) [
          | inl below ↦ stands_still rows (row ∷ []) n (subst (λ m. n < m) (sym before.count) below) (before.each n below)
          | inr above ↦ let here : number ≡ n = omega arith in subst (StandsAt word a b k (rows ++ row ∷ [])) here last
        ]

-- ---- from numbers to parts and symbols
pub place_back : (b k i j x : ℕ) → j < b → x < 2 ^ k → place_of b k ((i * b + j) * 2 ^ k + x) ≡ record { first = i; second = j; symbol = x }
place_back b k i j x second symbol =
    let state : ((i * b + j) * 2 ^ k + x) / 2 ^ k ≡ i * b + j = div-mul-add (i * b + j) (2 ^ k) x symbol in
    let rest : ((i * b + j) * 2 ^ k + x) % 2 ^ k ≡ x = mod-mul-add (i * b + j) (2 ^ k) x symbol in
    let first : (i * b + j) / b ≡ i = div-mul-add i b j second in
    let other : (i * b + j) % b ≡ j = mod-mul-add i b j second in
    rw (state, rest, first, other) refl

pub rows_whole : (word : ℕ → ℕ) (a b k : ℕ) (rows : List KissRow) → AreRowsBelow word a b k (a * b * 2 ^ k) rows → AreRows word a b k rows
rows_whole word a b k rows all = record {
  count = all.count;
  each = λ i j x first second symbol.
      let number = (i * b + j) * 2 ^ k + x in
      let within : number < a * b * 2 ^ k = two_digits (i * b + j) x (a * b) (2 ^ k) (two_digits i j a b first second) symbol in
      let there = all.each number within in
      let Is : Place → Type 0 = λ place. IsRowOfPlace b k place (next_of word a b k place) there.0 in
      (there.0, there.1, subst Is (place_back b k i j x second symbol) there.2);
}

-- where words lead is a state
pub next_within : (word : ℕ → ℕ) (a b k : ℕ) (place : Place) → AreSizes a b k → next_of word a b k place < a * b
next_within word a b k place sizes =
    two_digits (next_first word a k place.first place.symbol) (next_second word b k place.second place.symbol) a b
    (mod_below _ a (omega (arith, sizes.a_low))) (mod_below _ b (omega (arith, sizes.b_low)))
