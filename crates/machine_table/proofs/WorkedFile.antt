-- The first conflict and the first open entry of a file with three rows.
use Rattle.std.proofs.Common.{◌≡◌, ℕ, zero, suc, ◌+◌, ◌<◌, IsSome, inl, inr, get_or, lit<, refl, sym, ap, ◌∙◌, subst, arith}
use Rattle.std.proofs.lemmas.Bool.{false≢true}
use Rattle.cubes.specs.Cube.{Holds}
use Rattle.cubes.specs.Symbol.{symbol_of}
use Rattle.cubes.specs.Laws.Held.{held_from_mask, mask_from_held}
use Rattle.kiss_file.specs.declared.file.KissRow.{KissRow}
use Rattle.kiss_file.specs.Machine.{given_bit}
use Rattle.state_rows.specs.Worked.{high_half, low_half, odd_symbols, high_row, low_row, three_rows}
use Rattle.state_rows.specs.Laws.WorkedConflict.{first_two, only_two}
use Rattle.machine_table.specs.declared.open_part.Missing.{Missing}
use Rattle.machine_table.specs.declared.open_part.Missing.TheVariants.{Next, Output}
use Rattle.machine_table.specs.Conflict.{IsFirstConflict}
use Rattle.machine_table.specs.OpenEntries.{IsEntry, IsFirstOpen, IsSaid, StandsBefore, Says, place_of}
use Rattle.machine_table.specs.Worked.{three_row_file}

-- ---- the conflict
pub conflict : IsFirstConflict three_row_file 1 3
conflict = (0, 2, refl, refl, first_two)

pub no_other : (a b : ℕ) → IsFirstConflict three_row_file a b → (a ≡ 1) × (b ≡ 3)
no_other a b (i, j, is_a, is_b, two) =
    let these = only_two i j two.order two.contradict in
    (is_a ∙ ap (λ n. n + 1) these.0, is_b ∙ ap (λ n. n + 1) these.1)

-- ---- the open entry
-- the first row gives all below
said_by_first : (x : ℕ) → x < 2 → (part : Missing) → place_of part < 3 → IsSaid three_row_file 0 x part
said_by_first x below part place = (low_row, record { among = (0, lit< tt, refl); from = refl; held = held x below }, gives part place) where
  held : (y : ℕ) → y < 2 → Holds low_half (symbol_of 2 y)
  held zero low = held_from_mask low_half 0 refl
  held (suc zero) low = held_from_mask low_half 1 refl
  held (suc (suc y)) low = absurd (omega (arith, low))

  gives : (p : Missing) → place_of p < 3 → Says p low_row
  gives Next low = refl
  gives (Output zero) low = refl
  gives (Output (suc zero)) low = refl
  gives (Output (suc (suc b))) low = absurd (omega (arith, low))

-- the second row gives the next state and output 0 at symbol 2
said_by_second : (part : Missing) → place_of part < 2 → IsSaid three_row_file 0 2 part
said_by_second part place = (high_row, record { among = (1, lit< tt, refl); from = refl; held = held_from_mask high_half 2 refl }, gives part place) where
  gives : (p : Missing) → place_of p < 2 → Says p high_row
  gives Next low = refl
  gives (Output zero) low = refl
  gives (Output (suc b)) low = absurd (omega (arith, low))

-- no row gives output 1 there
none_gives : (k : ℕ) (row : KissRow) → k < 3 → get_or three_rows k row ≡ row → Holds row.cube (symbol_of 2 2) → IsSome (given_bit 1 row) → ⊥
none_gives zero row within is held says =
    let bits : 2 ≡ 0 = mask_from_held low_half 2 (subst (λ (r : KissRow). Holds r.cube (symbol_of 2 2)) (sym is) held) in omega (arith, bits)
none_gives (suc zero) row within is held says = false≢true (subst (λ (r : KissRow). IsSome (given_bit 1 r)) (sym is) says)
none_gives (suc (suc zero)) row within is held says =
    let bits : 0 ≡ 1 = mask_from_held odd_symbols 2 (subst (λ (r : KissRow). Holds r.cube (symbol_of 2 2)) (sym is) held) in omega (arith, bits)
none_gives (suc (suc (suc k))) row within is held says = absurd (omega (arith, within))

earlier_said : (t other : ℕ) (part : Missing) → IsEntry three_row_file t other part → StandsBefore t other part 0 2 (Output 1) → IsSaid three_row_file t other part
earlier_said t other part entry (inl less) = absurd (omega (arith, less))
earlier_said t other part entry (inr (inl (state, less))) = subst (λ n. IsSaid three_row_file n other part) (sym state) (said_by_first other less part entry.kind)
earlier_said t other part entry (inr (inr (state, symbol, less))) =
    subst (λ n. IsSaid three_row_file n other part) (sym state) (subst (λ n. IsSaid three_row_file 0 n part) (sym symbol) (said_by_second part less))

pub entry : IsFirstOpen three_row_file 0 2 (Output 1)
entry = record {
  entry = record { among_states = lit< tt; among_symbols = lit< tt; kind = lit< tt };
  open_there = λ said. none_gives said.1.among.0 said.0 said.1.among.1 said.1.among.2 said.1.held said.2;
  first = earlier_said;
}
