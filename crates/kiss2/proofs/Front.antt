-- The faults of a row up to its names.
use Rattle.std.proofs.Common.{◌≡◌, ℕ, zero, suc, ◌<◌, true, false, not, cond, eqb, ltb, List, [], ◌∷◌, length, get_or, Option, Some, None, ap, sym, ◌∙◌, refl, arith}
use Rattle.std.specs.Prelude.{filter}
use Rattle.std.specs.Option.{option_map}
use Rattle.std.proofs.lemmas.Bool.{eq-eqb, lt-ltb}
use Rattle.std.proofs.lemmas.Option.{none-some}
use Rattle.hs_io.specs.declared.lines.Line.{Line}
use Rattle.kiss2.specs.declared.fault.KissKind.{KissKind}
use Rattle.kiss2.specs.declared.fault.KissKind.TheVariants.{AnyState, BadCube, BadFields, BadOutput, MissingCounts, OverLimit}
use Rattle.kiss2.specs.declared.fault.KissLimit.TheVariants.{NameBytes, Rows, States}
use Rattle.kiss2.specs.Faults.{fault_where, first_of, long_name, row_fault}
use Rattle.kiss2.specs.Words.{current_field, input_field, is_character_field, is_name, is_open, next_field, output_field}
use Rattle.kiss2.specs.Laws.Finding.{find_first, none_long}
use Rattle.kiss2.specs.Laws.Stood.{skip}

-- the number of inputs or that of outputs is missing
pub no_inputs : (inputs outputs : Option ℕ) (rows : ℕ) (states : List (List ℕ)) (line : Line) → inputs ≡ None → row_fault inputs outputs rows states line ≡ Some MissingCounts
no_inputs None outputs rows states line e = refl
no_inputs (Some i) outputs rows states line e = absurd (none-some i (sym e))

pub no_outputs : (inputs outputs : Option ℕ) (rows : ℕ) (states : List (List ℕ)) (line : Line) → outputs ≡ None → row_fault inputs outputs rows states line ≡ Some MissingCounts
no_outputs None outputs rows states line e = refl
no_outputs (Some i) None rows states line e = refl
no_outputs (Some i) (Some o) rows states line e = absurd (none-some o (sym e))

-- the first of two names, and the second where it is one
long_at : (names : List (List ℕ)) (i : ℕ) → i < length names → ((k : ℕ) → k < i → ltb 64 (length (get_or names k [])) ≡ false) → ltb 64 (length (get_or names i [])) ≡ true
    → long_name names ≡ Some (OverLimit NameBytes (length (get_or names i [])))
long_at names i inside before test = ap (option_map (λ name. OverLimit NameBytes (length name))) (find_first (λ name. ltb 64 (length name)) names [] i inside before test)

below_one : (names : List (List ℕ)) → ltb 64 (length (get_or names 0 [])) ≡ false → (k : ℕ) → k < 1 → ltb 64 (length (get_or names k [])) ≡ false
below_one names short zero lt = short
below_one names short (suc k) lt = absurd (omega arith)

below_two : (names : List (List ℕ)) → ltb 64 (length (get_or names 0 [])) ≡ false → ltb 64 (length (get_or names 1 [])) ≡ false → (k : ℕ) → k < 2 → ltb 64 (length (get_or names k [])) ≡ false
below_two names first second zero lt = first
below_two names first second (suc zero) lt = second
below_two names first second (suc (suc k)) lt = absurd (omega arith)

module _ (i o rows : ℕ) (line : Line) (four : length line.fields ≡ 4) (few : rows < 65536) (cube : is_character_field i (input_field line) ≡ true) (named : is_open (current_field line) ≡ false) (states : List (List ℕ)) where
  abbrev pub last : List (Option KissKind)
  last = fault_where (ltb 256 (length states)) (OverLimit States 257) ∷ fault_where (not (is_character_field o (output_field line))) BadOutput ∷ []

  front : row_fault (Some i) (Some o) rows states line ≡ first_of (long_name (current_field line ∷ filter is_name (next_field line ∷ [])) ∷ last)
  front =
      let names = λ (n : List (List ℕ)). long_name n ∷ last in
      let named_first = names (filter is_name (current_field line ∷ next_field line ∷ [])) in
      let current = fault_where (is_open (current_field line)) AnyState ∷ named_first in
      let inputs = fault_where (not (is_character_field i (input_field line))) BadCube ∷ current in
      let many = fault_where (not (ltb rows 65536)) (OverLimit Rows 65537) ∷ inputs in
      skip (not (eqb (length line.fields) 4)) BadFields many (ap not (eq-eqb (length line.fields) 4 four))
      ∙ (skip (not (ltb rows 65536)) (OverLimit Rows 65537) inputs (ap not (lt-ltb rows 65536 few))
      ∙ (skip (not (is_character_field i (input_field line))) BadCube current (ap not cube)
      ∙ (skip (is_open (current_field line)) AnyState named_first named
      ∙ ap (λ t. first_of (names (cond (not t) (current_field line ∷ filter is_name (next_field line ∷ [])) (filter is_name (next_field line ∷ []))))) named)))

  -- its current state is too long
  pub long_current : ltb 64 (length (current_field line)) ≡ true → row_fault (Some i) (Some o) rows states line ≡ Some (OverLimit NameBytes (length (current_field line)))
  long_current long = front ∙ ap (λ fault. first_of (fault ∷ last)) (long_at (current_field line ∷ filter is_name (next_field line ∷ [])) 0 (omega arith) (λ k lt. absurd (omega arith)) long)

  module _ (short : ltb 64 (length (current_field line)) ≡ false) where
    closed : is_open (next_field line) ≡ false → row_fault (Some i) (Some o) rows states line ≡ first_of (long_name (current_field line ∷ next_field line ∷ []) ∷ last)
    closed next = front ∙ ap (λ t. first_of (long_name (current_field line ∷ cond (not t) (next_field line ∷ []) []) ∷ last)) next

    -- its next state is too long
    pub long_next : is_open (next_field line) ≡ false → ltb 64 (length (next_field line)) ≡ true → row_fault (Some i) (Some o) rows states line ≡ Some (OverLimit NameBytes (length (next_field line)))
    long_next next long =
        let names = current_field line ∷ next_field line ∷ [] in
        closed next ∙ ap (λ fault. first_of (fault ∷ last)) (long_at names 1 (omega arith) (below_one names short) long)

    -- both names are short, or the second is none
    pub short_next : is_open (next_field line) ≡ false → ltb 64 (length (next_field line)) ≡ false → row_fault (Some i) (Some o) rows states line ≡ first_of last
    short_next next small =
        let names = current_field line ∷ next_field line ∷ [] in
        closed next ∙ ap (λ fault. first_of (fault ∷ last)) (none_long names (λ k lt. below_two names short small k (omega arith)))

    pub open_next : is_open (next_field line) ≡ true → row_fault (Some i) (Some o) rows states line ≡ first_of last
    open_next next =
        let names = current_field line ∷ [] in
        front
        ∙ (ap (λ t. first_of (long_name (current_field line ∷ cond (not t) (next_field line ∷ []) []) ∷ last)) next
        ∙ ap (λ fault. first_of (fault ∷ last)) (none_long names (λ k lt. below_one names short k (omega arith))))
