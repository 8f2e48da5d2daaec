-- Of three rows the first and the third contradict one another, and no other two.
use Rattle.std.proofs.Common.{◌≡◌, ℕ, ◌<◌, true, false, None, Some, slice_get, inl, inr, sym, ◌∙◌, subst, refl, arith, ap}
use Rattle.std.proofs.lemmas.Bool.{cases_Bool, cases_eq, true≢false}
use Rattle.std.proofs.lemmas.Option.{slice_get_within}
use Rattle.cubes.specs.Symbol.{bit}
use Rattle.cubes.specs.Laws.Ends.{meets_not_from_difference}
use Rattle.cubes.specs.Laws.Held.{held_from_mask}
use Rattle.cubes.specs.Laws.SharedCubes.{meets_from_held}
use Rattle.kiss_file.specs.declared.file.KissRow.{KissRow}
use Rattle.kiss_file.specs.Machine.{given_bit}
use Rattle.state_rows.specs.Conflict.{AreFirstTwo, ContradictAt, Contradicts}
use Rattle.state_rows.specs.Worked.{high_row, low_row, odd_row, three_rows}

first_and_third : Contradicts low_row odd_row
first_and_third = record {
  state = refl;
  symbol = meets_from_held low_row.cube odd_row.cube 1 refl (held_from_mask low_row.cube 1 refl) (held_from_mask odd_row.cube 1 refl);
  said = inr (inl (0, refl, refl));
}

-- the first two have different bits at place 1
not_first_and_second : Contradicts low_row high_row → ⊥
not_first_and_second both = meets_not_from_difference low_row.cube high_row.cube refl (1, omega arith, refl, refl, λ same. true≢false (sym same)) both.symbol

-- a row that gives ones alone gives no 0
ones_alone : (ones k : ℕ) → (given : (row : KissRow) × (row.care ≡ ones) × (row.value ≡ ones) × (given_bit k row ≡ Some false)) → ⊥
ones_alone ones k (row, care, value, gives) =
    let same : row.value ≡ row.care = value ∙ sym care in
    elim (cases_Bool (bit row.care k)) [
      | inl cares ↦
          let there : Some (bit row.value k) ≡ Some false = rw cares at gives in
          let one : bit row.value k ≡ true = ap (λ n. bit n k) same ∙ cares in
          let zero : bit row.value k ≡ false = cc in
          true≢false (sym one ∙ zero)
      | inr free ↦ let none : None ≡ Some false = rw free at gives in cc
    ]

not_second_and_third : Contradicts high_row odd_row → ⊥
not_second_and_third both =
    elim both.said [
      | inl two ↦ let none : None ≡ Some two.1 = two.3 in cc
      | inr bits ↦
          elim bits [
            | inl there ↦ ones_alone 1 there.0 (high_row, refl, refl, there.1)
            | inr back ↦ ones_alone 1 back.0 (odd_row, refl, refl, back.1)
          ]
    ]

module _ (row other : KissRow) (i j : ℕ) (before : i < j) (at_i : slice_get three_rows i ≡ Some row) (at_j : slice_get three_rows j ≡ Some other) (both : Contradicts row other) where
  these : (x y : KissRow) → slice_get three_rows i ≡ Some x → slice_get three_rows j ≡ Some y → Contradicts x y
  these x y is_x is_y =
      let first : row ≡ x = (let one : Some row ≡ Some x = sym at_i ∙ is_x in cc) in
      let second : other ≡ y = (let one : Some other ≡ Some y = sym at_j ∙ is_y in cc) in
      subst (λ (r : KissRow). Contradicts r y) first (subst (λ (r : KissRow). Contradicts row r) second both)

  only_these : (i ≡ 0) × (j ≡ 2)
  only_these =
      let within : j < 3 = slice_get_within three_rows j other at_j in
      elim (cases_eq j 2) [
        | inl last ↦
            elim (cases_eq i 0) [
              | inl first ↦ (first, last)
              | inr later ↦
                  let second : i ≡ 1 = omega arith in
                  absurd (not_second_and_third (these high_row odd_row (ap (slice_get three_rows) second) (ap (slice_get three_rows) last)))
            ]
        | inr earlier ↦
            let second : j ≡ 1 = omega arith in
            let first : i ≡ 0 = omega arith in
            absurd (not_first_and_second (these low_row high_row (ap (slice_get three_rows) first) (ap (slice_get three_rows) second)))
      ]

pub only_two : (i j : ℕ) → i < j → ContradictAt three_rows i j → (i ≡ 0) × (j ≡ 2)
only_two i j before (row, other, at_i, at_j, both) = only_these row other i j before at_i at_j both

pub first_two : AreFirstTwo three_rows 0 2
first_two = record {
  order = omega arith;
  contradict = (low_row, odd_row, refl, refl, first_and_third);
  first = λ k l before both. let these = only_two k l before both in inr (sym these.1, omega arith);
}
