-- The machine of a file of three rows.
use Rattle.std.proofs.Common.{◌≡◌, ℕ, zero, suc, ◌<◌, ◌⊎◌, inl, inr, Bool, true, false, List, [], ◌∷◌, Some, None, Contains, sym, ap, ◌∙◌, refl, subst, arith}
use Rattle.std.specs.Prelude.{IsNone, IsSome}
use Rattle.std.proofs.lemmas.Bool.{false≢true}
use Rattle.std.proofs.lemmas.Option.{same_Some}
use Rattle.list_facts.specs.Laws.Members.{Contains-cons, Contains-here, Contains-one, Contains-there}
use Rattle.cubes.specs.declared.cube.Cube.{Cube}
use Rattle.cubes.specs.Cube.{Holds, Meets, holds}
use Rattle.cubes.specs.Field.{characters, characters_hold}
use Rattle.cubes.specs.Laws.Deciding.{held_from_test, test_from_held}
use Rattle.kiss_file.specs.declared.file.KissRow.{KissRow}
use Rattle.kiss_file.specs.Machine.{Conflicting, GiveBoth, IsRowAt, IsSpecifiedAt, NameTwo, answers, given_bit, next, out}
use Rattle.kiss_file.specs.Worked.{AreCubes, file, first_row, second_row, symbol_0, symbol_1, symbol_2, third_row, whole}

pub some_cubes : (first : Cube) × (second : Cube) × (third : Cube) × AreCubes first second third
unfolding characters
some_cubes = (
  record { care = 2; value = 0; width = 2; width_positive = omega arith; width_bound = omega arith; value_in_care = refl; care_in_width = omega arith },
  record { care = 3; value = 2; width = 2; width_positive = omega arith; width_bound = omega arith; value_in_care = refl; care_in_width = omega arith },
  record { care = 1; value = 1; width = 2; width_positive = omega arith; width_bound = omega arith; value_in_care = refl; care_in_width = omega arith },
  record { first_is = refl; second_is = refl; third_is = refl },
)

-- no symbol begins with both bits, and none ends with both
first_apart : (x : List Bool) → characters_hold (Some false ∷ None ∷ []) x ≡ true → characters_hold (Some true ∷ Some false ∷ []) x ≡ true → ⊥
first_apart [] h k = false≢true h
first_apart (true ∷ xs) h k = false≢true h
first_apart (false ∷ xs) h k = false≢true k

last_apart : (x : List Bool) → characters_hold (Some true ∷ Some false ∷ []) x ≡ true → characters_hold (None ∷ Some true ∷ []) x ≡ true → ⊥
last_apart [] h k = false≢true h
last_apart (b ∷ []) h k = false≢true k
last_apart (true ∷ true ∷ xs) h k = false≢true h
last_apart (false ∷ true ∷ xs) h k = false≢true h
last_apart (b ∷ false ∷ xs) h k = false≢true k

-- a row does not contradict itself
names_one : (row : KissRow) → NameTwo row row → ⊥
names_one row (t, u, is, also, two) = two (same_Some t u (sym is ∙ also))

gives_one : (row : KissRow) → GiveBoth row row → ⊥
gives_one row (b, low, high) = false≢true (same_Some false true (sym low ∙ high))

-- two rows whose cubes do not meet do not contradict one another
none_of_two : (a b : KissRow) → (Meets a.cube b.cube → ⊥) → Conflicting (file (a ∷ b ∷ [])) → ⊥
none_of_two a b apart (row, other, among, also, state, (x, held, both), said) =
    by (Contains-cons a row (b ∷ []) among) (Contains-cons a other (b ∷ []) also) where
      itself : row ≡ other → ⊥
      itself same =
          elim (subst (λ r. NameTwo row r ⊎ GiveBoth row r) (sym same) said) [
            | inl two ↦ names_one row two
            | inr bits ↦ gives_one row bits
          ]

      by : (a ≡ row) ⊎ Contains (b ∷ []) row → (a ≡ other) ⊎ Contains (b ∷ []) other → ⊥
      by (inl p) (inl q) = itself (sym p ∙ q)
      by (inl p) (inr q) = apart (x, subst (λ r. Holds r.cube x) (sym p) held, subst (λ r. Holds r.cube x) (sym (Contains-one b other q)) both)
      by (inr p) (inl q) = apart (x, subst (λ r. Holds r.cube x) (sym q) both, subst (λ r. Holds r.cube x) (sym (Contains-one b row p)) held)
      by (inr p) (inr q) = itself (sym (Contains-one b row p) ∙ Contains-one b other q)

-- the first row gives each output
gives_each : (cube : Cube) (b : ℕ) → b < 2 → IsSome (given_bit b (first_row cube))
gives_each cube zero lt = refl
gives_each cube (suc zero) lt = refl
gives_each cube (suc (suc b)) lt = absurd (omega arith)

module _ (first second third : Cube) (are : AreCubes first second third) where
  first_holds : (x : List Bool) → holds first x ≡ characters_hold (Some false ∷ None ∷ []) x
  first_holds x = ap (λ field. characters_hold field x) are.first_is

  second_holds : (x : List Bool) → holds second x ≡ characters_hold (Some true ∷ Some false ∷ []) x
  second_holds x = ap (λ field. characters_hold field x) are.second_is

  third_holds : (x : List Bool) → holds third x ≡ characters_hold (None ∷ Some true ∷ []) x
  third_holds x = ap (λ field. characters_hold field x) are.third_is

  pub conflict : Conflicting (file (first_row first ∷ third_row third ∷ []))
  conflict = (
    first_row first,
    third_row third,
    Contains-here (first_row first) (third_row third ∷ []),
    Contains-there (first_row first) (third_row third) (third_row third ∷ []) (Contains-here (third_row third) []),
    refl,
    (symbol_1, held_from_test first symbol_1 (first_holds symbol_1), held_from_test third symbol_1 (third_holds symbol_1)),
    inl (1, 0, refl, refl, λ same. absurd (omega (arith, same))),
  )

  pub no_conflict_before : Conflicting (file (first_row first ∷ second_row second ∷ [])) → ⊥
  no_conflict_before =
      none_of_two (first_row first) (second_row second)
      (λ meets. let x = meets.0 in first_apart x (sym (first_holds x) ∙ test_from_held first x meets.1) (sym (second_holds x) ∙ test_from_held second x meets.2))

  pub no_conflict_after : Conflicting (file (second_row second ∷ third_row third ∷ [])) → ⊥
  no_conflict_after =
      none_of_two (second_row second) (third_row third)
      (λ meets. let x = meets.0 in last_apart x (sym (second_holds x) ∙ test_from_held second x meets.1) (sym (third_holds x) ∙ test_from_held third x meets.2))

  first_at : (x : List Bool) → holds first x ≡ true → IsRowAt (whole first second third) 0 x (first_row first)
  first_at x passes = record { among = Contains-here (first_row first) (second_row second ∷ third_row third ∷ []); from = refl; held = held_from_test first x passes }

  specified : (x : List Bool) → holds first x ≡ true → IsSpecifiedAt (whole first second third) 0 x
  specified x passes = record { next = (first_row first, first_at x passes, refl); outputs = λ b lt. (first_row first, first_at x passes, gives_each first b lt) }

  pub said_at_0 : IsSpecifiedAt (whole first second third) 0 symbol_0
  said_at_0 = specified symbol_0 (first_holds symbol_0)

  pub said_at_1 : IsSpecifiedAt (whole first second third) 0 symbol_1
  said_at_1 = specified symbol_1 (first_holds symbol_1)

  pub second_at : IsRowAt (whole first second third) 0 symbol_2 (second_row second)
  second_at = record {
    among = Contains-there (first_row first) (second_row second) (second_row second ∷ third_row third ∷ []) (Contains-here (second_row second) (third_row third ∷ []));
    from = refl;
    held = held_from_test second symbol_2 (second_holds symbol_2);
  }

  -- a row that holds that symbol is the second
  pub open_at_2 : (row : KissRow) → IsRowAt (whole first second third) 0 symbol_2 row → IsNone (given_bit 1 row)
  open_at_2 row at =
      elim (Contains-cons (first_row first) row (second_row second ∷ third_row third ∷ []) at.among) [
        | inl is ↦ absurd (false≢true (sym (first_holds symbol_2) ∙ test_from_held first symbol_2 (subst (λ r. Holds r.cube symbol_2) (sym is) at.held)))
        | inr more ↦ elim (Contains-cons (second_row second) row (third_row third ∷ []) more) [
          | inl is ↦ subst (λ r. IsNone (given_bit 1 r)) is refl
          | inr last ↦ absurd
              (false≢true (sym (third_holds symbol_2) ∙ test_from_held third symbol_2 (subst (λ r. Holds r.cube symbol_2) (sym (Contains-one (third_row third) row last)) at.held)))
        ]
      ]

  pub next_at_2 : next (whole first second third) 0 symbol_2 ≡ 1
  next_at_2 = rw (first_holds symbol_2, second_holds symbol_2) refl

  pub outputs_at_2 : out (whole first second third) 0 symbol_2 ≡ true ∷ false ∷ []
  outputs_at_2 = rw (first_holds symbol_2, second_holds symbol_2, third_holds symbol_2) refl

  pub answered : answers (whole first second third) 0 (symbol_2 ∷ symbol_0 ∷ []) ≡ (true ∷ false ∷ []) ∷ (false ∷ false ∷ []) ∷ []
  answered = ap (λ bits. bits ∷ answers (whole first second third) (next (whole first second third) 0 symbol_2) (symbol_0 ∷ [])) outputs_at_2 ∙ ap (λ s. (true ∷ false ∷ []) ∷ answers (whole first second third) s (symbol_0 ∷ [])) next_at_2
