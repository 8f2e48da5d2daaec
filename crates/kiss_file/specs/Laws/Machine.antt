-- The machine of a file: what its rows say, and that it never leaves its states.
use Rattle.std.proofs.Common.{◌≡◌, ℕ, ◌<◌, ◌⊎◌, ◌&&◌, inl, inr, Bool, true, false, cond, eqb, Option, Some, None, is_some, List, [], ◌∷◌, filter, length, get_or, slice_get, Contains, IfSome, ap, sym, ◌∙◌, refl, subst, arith}
use Rattle.std.specs.List.{filter_map, cons_option}
use Rattle.std.specs.Option.{IsNone}
use Rattle.std.proofs.lemmas.Bool.{cases_Bool, cases_eq, eqb-true, eq-eqb, false≢true, and_parts, and_from}
use Rattle.std.proofs.lemmas.List.Elements.{All-contains, Contains-append_cases, Contains-append_right}
use Rattle.std.proofs.lemmas.List.FromFn.{get_or-map-range_with_len, length-map-range_with_len}
use Rattle.std.proofs.lemmas.Option.{same_Some, slice_get-get_or}
use Rattle.list_facts.specs.Laws.Members.{Contains-one}
use Rattle.cubes.specs.Cube.{holds}
use Rattle.cubes.specs.Laws.Deciding.{held_from_test, test_from_held}
use Rattle.kiss_file.specs.declared.file.KissFile.{KissFile}
use Rattle.kiss_file.specs.declared.file.KissRow.{KissRow}
use Rattle.kiss_file.specs.LawfulFile.{IsLawfulRow}
use Rattle.kiss_file.specs.Machine.{given_bit, next, output_bit, out, IsRowAt, Conflicting, NextIsAState, RowsDecide}

-- ---- the first value that some item gives
module _ {X V : Type 0} (test : X → Bool) (gives : X → Option V) where
  -- the first value that an item that passes the test gives, or the other value
  abbrev first_given : List X → V → V
  first_given xs other = get_or (filter_map gives (filter test xs)) 0 other

  -- an item of the list that passes the test and gives this value
  abbrev Gives : List X → V → Type 0
  Gives xs v = (x : X) × Contains xs x × (test x ≡ true) × (gives x ≡ Some v)

  -- no item of the list that passes the test gives a value
  abbrev GivesNone : List X → Type 0
  GivesNone xs = (x : X) → Contains xs x → test x ≡ true → IsNone (gives x)

  -- the first value is one that some item gives, or none gives one
  abbrev FirstIsGiven : List X → V → Type 0
  FirstIsGiven xs other = Gives xs (first_given xs other) ⊎ (GivesNone xs × (first_given xs other ≡ other))

  -- one more item that passes only if it gives nothing
  gives_none_more : (x : X) (xs : List X) → (test x ≡ true → IsNone (gives x)) → GivesNone xs → GivesNone (x ∷ xs)
  gives_none_more x xs here there y among passes =
      elim (Contains-append_cases (x ∷ []) xs y among) [
        | inl first ↦ subst (λ z. test z ≡ true → IsNone (gives z)) (Contains-one x y first) here passes
        | inr later ↦ there y later passes
      ]

  -- one more item that fails the test, or gives no value
  first_is_given-skip : (x : X) (xs : List X) (other : V) → (test x ≡ true → IsNone (gives x))
      → first_given (x ∷ xs) other ≡ first_given xs other → FirstIsGiven xs other → FirstIsGiven (x ∷ xs) other
  first_is_given-skip x xs other here same (inl (y, among, passes, is)) =
      inl (y, Contains-append_right (x ∷ []) xs y among, passes, is ∙ ap Some (sym same))
  first_is_given-skip x xs other here same (inr (none, is)) = inr (gives_none_more x xs here none, same ∙ is)

  -- one more item that passes the test
  first_is_given-passed : (x : X) (xs : List X) (other : V) (o : Option V) → test x ≡ true → gives x ≡ o → FirstIsGiven xs other → FirstIsGiven (x ∷ xs) other
  first_is_given-passed x xs other None passes e rest =
      first_is_given-skip x xs other (λ p. ap is_some e)
      (ap (λ b. get_or (filter_map gives (cond b (x ∷ filter test xs) (filter test xs))) 0 other) passes
      ∙ ap (λ o. get_or (cons_option o (filter_map gives (filter test xs))) 0 other) e)
      rest
  first_is_given-passed x xs other (Some v) passes e rest =
      let first : first_given (x ∷ xs) other ≡ v =
      ap (λ b. get_or (filter_map gives (cond b (x ∷ filter test xs) (filter test xs))) 0 other) passes
      ∙ ap (λ o. get_or (cons_option o (filter_map gives (filter test xs))) 0 other) e in
      inl (x, (0, omega arith, refl), passes, e ∙ ap Some (sym first))

  -- so it is with each list
  pub first_is_given : (xs : List X) (other : V) → FirstIsGiven xs other
  first_is_given [] other = inr (λ x none. absurd (omega (arith, none.1)), refl)
  first_is_given (x ∷ xs) other =
      elim (cases_Bool (test x)) [
        | inl passes ↦ first_is_given-passed x xs other (gives x) passes refl (first_is_given xs other)
        | inr fails ↦
            first_is_given-skip x xs other (λ p. absurd (false≢true (sym fails ∙ p)))
            (ap (λ b. get_or (filter_map gives (cond b (x ∷ filter test xs) (filter test xs))) 0 other) fails)
            (first_is_given xs other)
      ]

  -- where all values that are given are one, it is the first
  pub first_given-is : (xs : List X) (other v : V) → Gives xs v → ((w : V) → Gives xs w → w ≡ v) → first_given xs other ≡ v
  first_given-is xs other v (x, among, passes, is) one =
      elim (first_is_given xs other) [
        | inl given ↦ one (first_given xs other) given
        | inr none ↦ absurd (false≢true (sym (none.0 x among passes) ∙ ap is_some is))
      ]

  -- where none is given, it is the other
  pub first_given-none : (xs : List X) (other : V) → GivesNone xs → first_given xs other ≡ other
  first_given-none xs other none =
      elim (first_is_given xs other) [
        | inl given ↦ absurd (false≢true (sym (none given.0 given.1 given.2) ∙ ap is_some given.3))
        | inr left ↦ left.1
      ]

-- the rows of a state that hold a symbol, as a test
abbrev stands_at : ℕ → List Bool → KissRow → Bool
stands_at s x row = eqb row.from s && holds row.cube x

-- a row of the file that passes is a row of the state that holds the symbol
row_at-from_test : (F : KissFile) (s : ℕ) (x : List Bool) (row : KissRow) → Contains F.rows row → stands_at s x row ≡ true → IsRowAt F s x row
row_at-from_test F s x row among passes =
    let both = and_parts (eqb row.from s) (holds row.cube x) passes in
    record { among = among; from = eqb-true row.from s both.0; held = held_from_test row.cube x both.1 }

-- and such a row passes
test-from_row_at : (F : KissFile) (s : ℕ) (x : List Bool) (row : KissRow) → IsRowAt F s x row → stands_at s x row ≡ true
test-from_row_at F s x row at =
    and_from (eqb row.from s) (holds row.cube x) (eq-eqb row.from s at.from) (test_from_held row.cube x at.held)

-- a next state that a row of a lawful file names is a state
below_states : (n t : ℕ) (o : Option ℕ) → o ≡ Some t → IfSome o (λ state. state < n) → t < n
below_states n t (Some u) e h = subst (λ v. v < n) (same_Some u t e) h
below_states n t None e h = absurd (cc)

-- the machine of a lawful file never leaves its states
pub next_is_a_state : NextIsAState
next_is_a_state F s x lawful within =
    elim (first_is_given (stands_at s x) (λ row. row.to) F.rows s) [
      | inl given ↦
          below_states (length F.states) (next F s x) (given.0).to given.3
          (All-contains (IsLawfulRow F.inputs F.outputs (length F.states)) F.rows given.0 lawful.rows given.1).to
      | inr none ↦ subst (λ t. t < length F.states) (sym none.1) within
    ]

-- ---- two rows of one state that hold one symbol
module _ (F : KissFile) (s : ℕ) (x : List Bool) (apart : Conflicting F → ⊥) where
  -- they name one next state
  one_next : (row other : KissRow) (t u : ℕ) → IsRowAt F s x row → IsRowAt F s x other → row.to ≡ Some t → other.to ≡ Some u → u ≡ t
  one_next row other t u at bt names also =
      elim (cases_eq t u) [
        | inl same ↦ sym same
        | inr two ↦ absurd (apart (row, other, at.among, bt.among, at.from ∙ sym bt.from, (x, at.held, bt.held), inl (t, u, names, also, two)))
      ]

  -- they give one bit at an output
  one_bit : (row other : KissRow) (b : ℕ) (v w : Bool) → IsRowAt F s x row → IsRowAt F s x other → given_bit b row ≡ Some v → given_bit b other ≡ Some w → w ≡ v
  one_bit row other b true true at bt gives also = refl
  one_bit row other b false false at bt gives also = refl
  one_bit row other b false true at bt gives also =
      absurd (apart (row, other, at.among, bt.among, at.from ∙ sym bt.from, (x, at.held, bt.held), inr (b, gives, also)))
  one_bit row other b true false at bt gives also =
      absurd (apart (other, row, bt.among, at.among, bt.from ∙ sym at.from, (x, bt.held, at.held), inr (b, also, gives)))

  -- the next state is the one that a row names
  pub next_said : (row : KissRow) (t : ℕ) → IsRowAt F s x row → row.to ≡ Some t → next F s x ≡ t
  next_said row t at names =
      first_given-is (stands_at s x) (λ r. r.to) F.rows s t (row, at.among, test-from_row_at F s x row at, names)
      (λ u given. one_next row given.0 t u at (row_at-from_test F s x given.0 given.1 given.2) names given.3)

  -- an output is the bit that a row gives
  pub output_bit_said : (row : KissRow) (b : ℕ) (value : Bool) → IsRowAt F s x row → given_bit b row ≡ Some value → output_bit F s x b ≡ value
  output_bit_said row b value at gives =
      first_given-is (stands_at s x) (given_bit b) F.rows false value (row, at.among, test-from_row_at F s x row at, gives)
      (λ w given. one_bit row given.0 b value w at (row_at-from_test F s x given.0 given.1 given.2) gives given.3)

-- the next state is the state itself where no row names one
pub next_not_said : (F : KissFile) (s : ℕ) (x : List Bool) → ((row : KissRow) → IsRowAt F s x row → IsNone row.to) → next F s x ≡ s
next_not_said F s x none =
    first_given-none (stands_at s x) (λ row. row.to) F.rows s (λ row among passes. none row (row_at-from_test F s x row among passes))

-- an output is 0 where no row gives it
pub output_bit_not_said : (F : KissFile) (s : ℕ) (x : List Bool) (b : ℕ) → ((row : KissRow) → IsRowAt F s x row → IsNone (given_bit b row)) → output_bit F s x b ≡ false
output_bit_not_said F s x b none =
    first_given-none (stands_at s x) (given_bit b) F.rows false (λ row among passes. none row (row_at-from_test F s x row among passes))

-- the outputs, place by place
pub out_at : (F : KissFile) (s : ℕ) (x : List Bool) (b : ℕ) → b < F.outputs → slice_get (out F s x) b ≡ Some (output_bit F s x b)
out_at F s x b lt =
    let inside : b < length (out F s x) = subst (λ n. b < n) (sym (length-map-range_with_len (output_bit F s x) 0 F.outputs)) lt in
    slice_get-get_or (out F s x) b false inside
    ∙ ap Some (get_or-map-range_with_len (output_bit F s x) 0 F.outputs b b false lt (omega arith))

-- so at its place stands the bit that a row gives
pub output_said : (F : KissFile) (s : ℕ) (x : List Bool) → (Conflicting F → ⊥) → (row : KissRow) (b : ℕ) (value : Bool) → b < F.outputs → IsRowAt F s x row
    → given_bit b row ≡ Some value → slice_get (out F s x) b ≡ Some value
output_said F s x apart row b value lt at gives = out_at F s x b lt ∙ ap Some (output_bit_said F s x apart row b value at gives)

-- and 0 where no row gives it
pub output_not_said : (F : KissFile) (s : ℕ) (x : List Bool) (b : ℕ) → b < F.outputs → ((row : KissRow) → IsRowAt F s x row → IsNone (given_bit b row))
    → slice_get (out F s x) b ≡ Some false
output_not_said F s x b lt none = out_at F s x b lt ∙ ap Some (output_bit_not_said F s x b none)

-- it does not matter which of several rows is asked
pub rows_decide : RowsDecide
rows_decide F s x apart =
    record {
      next_state = next_said F s x apart;
      no_next = next_not_said F s x;
      output = output_said F s x apart;
      no_output = output_not_said F s x;
    }
