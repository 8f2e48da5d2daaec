-- A file is conflicting exactly where two of its rows contradict one another.
use Rattle.std.proofs.Common.{◌≡◌, ℕ, ◌+◌, ◌<◌, ◌^◌, ◌⊎◌, true, false, Contains, List, length, Some, slice_get, inl, inr, sym, ◌∙◌, subst, arith, ap}
use Rattle.std.proofs.lemmas.Bool.{cases_lt, true≢false}
use Rattle.std.proofs.lemmas.Option.{get_or_from_slice_get, slice_get_within}
use Rattle.kiss_file.specs.declared.file.KissFile.{KissFile}
use Rattle.kiss_file.specs.declared.file.KissRow.{KissRow}
use Rattle.kiss_file.specs.Machine.{Conflicting, GiveBoth, NameTwo}
use Rattle.state_rows.specs.Conflict.{AreFirstTwo, ContradictAt}
use Rattle.state_pairs.specs.Laws.Asking.{number_of_row}

module _ (F : KissFile) where
  stands : (i : ℕ) (row : KissRow) → slice_get F.rows i ≡ Some row → Contains F.rows row
  stands i row at_i = (i, slice_get_within F.rows i row at_i, get_or_from_slice_get F.rows i row row at_i)

  pub conflicting_at : (i j : ℕ) → ContradictAt F.rows i j → Conflicting F
  conflicting_at i j (row, other, at_i, at_j, contradicts) =
      let shared = contradicts.symbol in
      elim contradicts.said [
        | inl two ↦ (row, other, stands i row at_i, stands j other at_j, contradicts.state, shared, inl two)
        | inr both ↦
            elim both [
              | inl there ↦ (row, other, stands i row at_i, stands j other at_j, contradicts.state, shared, inr there)
              | inr back ↦ (other, row, stands j other at_j, stands i row at_i, sym contradicts.state, (shared.0, shared.2, shared.1), inr back)
            ]
      ]

  -- a row does not contradict itself
  not_itself : (row : KissRow) → NameTwo row row ⊎ GiveBoth row row → ⊥
  not_itself row said =
      elim said [
        | inl two ↦ two.4 (let both : Some two.0 ≡ Some two.1 = sym two.2 ∙ two.3 in cc)
        | inr bits ↦ true≢false (let both : Some true ≡ Some false = sym bits.2 ∙ bits.1 in cc)
      ]

  pub none_conflicting : ((i j : ℕ) → i < j → ContradictAt F.rows i j → ⊥) → Conflicting F → ⊥
  none_conflicting none (row, other, among, also, from, meet, said) =
      let at_row = number_of_row F row among in
      let at_other = number_of_row F other also in
      elim (cases_lt among.0 also.0) [
        | inl before ↦ none among.0 also.0 before (row, other, at_row, at_other, record { state = from; symbol = meet; said = ahead said })
        | inr from_on ↦
            elim (cases_lt also.0 among.0) [
              | inl behind ↦
                  none also.0 among.0 behind (other, row, at_other, at_row, record { state = sym from; symbol = (meet.0, meet.2, meet.1); said = back said })
              | inr same ↦
                  let at : among.0 ≡ also.0 = omega arith in
                  let both : Some row ≡ Some other = sym at_row ∙ ap (slice_get F.rows) at ∙ at_other in
                  let it : other ≡ row = cc in
                  not_itself row (subst (λ (r : KissRow). NameTwo row r ⊎ GiveBoth row r) it said)
            ]
      ]
    where
      ahead : NameTwo row other ⊎ GiveBoth row other → NameTwo row other ⊎ (GiveBoth row other ⊎ GiveBoth other row)
      ahead (inl two) = inl two
      ahead (inr both) = inr (inl both)

      back : NameTwo row other ⊎ GiveBoth row other → NameTwo other row ⊎ (GiveBoth other row ⊎ GiveBoth row other)
      back (inl (t, u, goes, other_goes, apart)) = inl (u, t, other_goes, goes, λ same. apart (sym same))
      back (inr both) = inr (inr both)

-- where rows contradict one another their numbers, counted from 1, fit
pub few_rows : (F : KissFile) (read : List KissRow) (i j : ℕ) → read ≡ F.rows → (Conflicting F → length F.rows < 2 ^ 32) → AreFirstTwo read i j
    → (i < j) × (j + 1 < 2 ^ 32)
few_rows F read i j same numbered two =
    let pair = subst (λ (rows : List KissRow). AreFirstTwo rows i j) same two in
    let at = pair.contradict in
    let other = at.1 in
    (pair.order, omega (arith, numbered (conflicting_at F i j at), slice_get_within F.rows j other at.3))
