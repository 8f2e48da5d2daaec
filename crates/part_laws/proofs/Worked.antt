-- Two small machines that read each other.
use Rattle.std.proofs.Common.{◌≡◌, ◌∙◌, ℕ, All, Bool, true, false, cond, List, [], ◌∷◌, None, Some, codes, get_or, refl, sym, ap, arith}
use Rattle.std.specs.Str.{bytes_eq}
use Rattle.std.proofs.lemmas.Bool.{false≢true}
use Rattle.std.proofs.lemmas.List.Elements.{All-cons, All-head, All-nil, All-tail}
use Rattle.cubes.specs.Cube.{holds}
use Rattle.cubes.specs.Field.{characters, characters_hold}
use Rattle.kiss_file.specs.Machine.{next, out}
use Rattle.part_laws.specs.Together.{AnswerTogether, GoesBy, IsReading, MachineAt, ReadsOutputs, StepTogether}
use Rattle.part_laws.specs.Worked.{Cubes, copier, high, input_x, loop, low, machine_a, machine_b, machine_z, places}

pub some_cubes : Cubes
unfolding characters
some_cubes = record {
  zero_cube = record { care = 1; value = 0; width = 1; width_positive = omega arith; width_bound = omega arith; value_in_care = refl; care_in_width = omega arith };
  one_cube = record { care = 1; value = 1; width = 1; width_positive = omega arith; width_bound = omega arith; value_in_care = refl; care_in_width = omega arith };
  any_cube = record { care = 0; value = 0; width = 1; width_positive = omega arith; width_bound = omega arith; value_in_care = refl; care_in_width = omega arith };
  both = record { care = 3; value = 3; width = 2; width_positive = omega arith; width_bound = omega arith; value_in_care = refl; care_in_width = omega arith };
  off = record { care = 1; value = 0; width = 2; width_positive = omega arith; width_bound = omega arith; value_in_care = refl; care_in_width = omega arith };
  last = record { care = 3; value = 1; width = 2; width_positive = omega arith; width_bound = omega arith; value_in_care = refl; care_in_width = omega arith };
  any_two = record { care = 0; value = 0; width = 2; width_positive = omega arith; width_bound = omega arith; value_in_care = refl; care_in_width = omega arith };
  zero_is = refl;
  one_is = refl;
  any_is = refl;
  both_is = refl;
  off_is = refl;
  last_is = refl;
  any_two_is = refl;
}

module _ (cubes : Cubes) where
  zero_holds : (x : List Bool) → holds cubes.zero_cube x ≡ characters_hold (Some false ∷ []) x
  zero_holds x = ap (λ field. characters_hold field x) cubes.zero_is

  one_holds : (x : List Bool) → holds cubes.one_cube x ≡ characters_hold (Some true ∷ []) x
  one_holds x = ap (λ field. characters_hold field x) cubes.one_is

  any_holds : (x : List Bool) → holds cubes.any_cube x ≡ characters_hold (None ∷ []) x
  any_holds x = ap (λ field. characters_hold field x) cubes.any_is

  both_holds : (x : List Bool) → holds cubes.both x ≡ characters_hold (Some true ∷ Some true ∷ []) x
  both_holds x = ap (λ field. characters_hold field x) cubes.both_is

  off_holds : (x : List Bool) → holds cubes.off x ≡ characters_hold (None ∷ Some false ∷ []) x
  off_holds x = ap (λ field. characters_hold field x) cubes.off_is

  last_holds : (x : List Bool) → holds cubes.last x ≡ characters_hold (Some false ∷ Some true ∷ []) x
  last_holds x = ap (λ field. characters_hold field x) cubes.last_is

  two_holds : (x : List Bool) → holds cubes.any_two x ≡ characters_hold (None ∷ None ∷ []) x
  two_holds x = ap (λ field. characters_hold field x) cubes.any_two_is

  -- ---- what the machines give, and where they go
  a_gives_0 : (v : Bool) → out (machine_a cubes) 0 (v ∷ []) ≡ low
  a_gives_0 v = rw (any_holds (v ∷ [])) refl

  a_gives_1 : (v : Bool) → out (machine_a cubes) 1 (v ∷ []) ≡ high
  a_gives_1 true = rw (zero_holds (true ∷ []), one_holds (true ∷ [])) refl
  a_gives_1 false = rw (zero_holds (false ∷ [])) refl

  b_gives_0 : (v w : Bool) → out (machine_b cubes) 0 (v ∷ w ∷ []) ≡ low
  b_gives_0 true true = rw (both_holds (true ∷ true ∷ [])) refl
  b_gives_0 true false = rw (both_holds (true ∷ false ∷ []), off_holds (true ∷ false ∷ [])) refl
  b_gives_0 false true = rw (both_holds (false ∷ true ∷ []), off_holds (false ∷ true ∷ []), last_holds (false ∷ true ∷ [])) refl
  b_gives_0 false false = rw (both_holds (false ∷ false ∷ []), off_holds (false ∷ false ∷ [])) refl

  b_gives_1 : (v w : Bool) → out (machine_b cubes) 1 (v ∷ w ∷ []) ≡ high
  b_gives_1 v w = rw (two_holds (v ∷ w ∷ [])) refl

  z_gives : (v : Bool) → out (machine_z cubes) 0 (v ∷ []) ≡ v ∷ []
  z_gives true = rw (zero_holds (true ∷ []), one_holds (true ∷ [])) refl
  z_gives false = rw (zero_holds (false ∷ [])) refl

  -- ---- one step
  module _ (s t s' t' : ℕ) (v a b : Bool) (a_gives : (w : Bool) → out (machine_a cubes) s (w ∷ []) ≡ a ∷ []) (b_gives : (u w : Bool) → out (machine_b cubes) t (u ∷ w ∷ []) ≡ b ∷ [])
      (a_goes : next (machine_a cubes) s (b ∷ []) ≡ s') (b_goes : next (machine_b cubes) t (v ∷ a ∷ []) ≡ t') where
    head_of : (c d : Bool) → ◌≡◌ {A = List Bool} (c ∷ []) (d ∷ []) → c ≡ d
    head_of c d e = ap (λ (list : List Bool). get_or list 0 false) e

    -- what a reading has
    record Has (reading : List ℕ → Bool) : Type 0 where
      of_x : reading (codes "x") ≡ v
      of_a : reading (codes "a") ≡ a
      of_b : reading (codes "b") ≡ b

    has : (reading : List ℕ → Bool) → IsReading input_x (places cubes s t) (v ∷ []) reading → Has reading
    has reading is =
        let place_a : MachineAt = record { machine = machine_a cubes; state = s } in
        let place_b : MachineAt = record { machine = machine_b cubes; state = t } in
        let first : ReadsOutputs reading place_a = All-head (ReadsOutputs reading) place_a (place_b ∷ []) is.outputs in
        let rest : All (ReadsOutputs reading) (place_b ∷ []) = All-tail (ReadsOutputs reading) place_a (place_b ∷ []) is.outputs in
        let second : ReadsOutputs reading place_b = All-head (ReadsOutputs reading) place_b [] rest in
        record {
          of_x = head_of (reading (codes "x")) v is.symbol;
          of_a = head_of (reading (codes "a")) a (first ∙ a_gives (reading (codes "b")));
          of_b = head_of (reading (codes "b")) b (second ∙ b_gives (reading (codes "x")) (reading (codes "a")));
        }

    two_places : (p q : ℕ) → p ≡ s' → q ≡ t' → places cubes p q ≡ places cubes s' t'
    two_places p q e f = ap (λ (n : ℕ). places cubes n q) e ∙ ap (λ (n : ℕ). places cubes s' n) f

    goes : (reading : List ℕ → Bool) → Has reading → GoesBy (machine_z cubes) (places cubes s t) reading (b ∷ []) (places cubes s' t')
    goes reading is = record {
      gives = ap (λ (w : Bool). out (machine_z cubes) 0 (w ∷ [])) is.of_b ∙ z_gives b;
      goes = two_places (next (machine_a cubes) s (reading (codes "b") ∷ [])) (next (machine_b cubes) t (reading (codes "x") ∷ reading (codes "a") ∷ []))
          (ap (λ (w : Bool). next (machine_a cubes) s (w ∷ [])) is.of_b ∙ a_goes)
          (ap (λ (w : Bool). next (machine_b cubes) t (w ∷ reading (codes "a") ∷ [])) is.of_x ∙ (ap (λ (w : Bool). next (machine_b cubes) t (v ∷ w ∷ [])) is.of_a ∙ b_goes));
    }

    abbrev the_reading : List ℕ → Bool
    the_reading name = cond (bytes_eq name (codes "x")) v (cond (bytes_eq name (codes "a")) a b)

    some : IsReading input_x (places cubes s t) (v ∷ []) the_reading
    some = record {
      symbol = refl;
      outputs = All-cons (ReadsOutputs the_reading) (record { machine = machine_a cubes; state = s }) (record { machine = machine_b cubes; state = t } ∷ []) (sym (a_gives b))
          (All-cons (ReadsOutputs the_reading) (record { machine = machine_b cubes; state = t }) [] (sym (b_gives v a)) (All-nil (ReadsOutputs the_reading)));
    }

    steps : StepTogether input_x (machine_z cubes) (places cubes s t) (v ∷ []) (b ∷ []) (places cubes s' t')
    steps = record { some = (the_reading, some, goes the_reading (has the_reading some)); every = λ reading is. goes reading (has reading is) }

  -- ---- three steps
  first_step : StepTogether input_x (machine_z cubes) (places cubes 0 0) high low (places cubes 1 0)
  first_step = steps 0 0 1 0 true false false a_gives_0 b_gives_0 (rw (any_holds low) refl)
      (rw (both_holds (true ∷ false ∷ []), off_holds (true ∷ false ∷ [])) refl)

  second_step : StepTogether input_x (machine_z cubes) (places cubes 1 0) high low (places cubes 1 1)
  second_step = steps 1 0 1 1 true true false a_gives_1 b_gives_0 (rw (zero_holds low) refl)
      (rw (both_holds (true ∷ true ∷ [])) refl)

  third_step : StepTogether input_x (machine_z cubes) (places cubes 1 1) low high (places cubes 0 0)
  third_step = steps 1 1 0 0 false true true a_gives_1 b_gives_1 (rw (zero_holds high, one_holds high) refl)
      (rw (two_holds (false ∷ true ∷ [])) refl)

  pub answered : AnswerTogether input_x (machine_z cubes) (places cubes 0 0) (high ∷ high ∷ low ∷ []) (low ∷ low ∷ high ∷ []) (places cubes 0 0)
  answered = (
    low,
    places cubes 1 0,
    low ∷ high ∷ [],
    refl,
    first_step,
    (
      low,
      places cubes 1 1,
      high ∷ [],
      refl,
      second_step,
      (high, places cubes 0 0, [], refl, third_step, (refl, refl)),
    ),
  )

  -- ---- a loop of copies
  reads_loop : (reading : List ℕ → Bool) → reading (codes "a") ≡ reading (codes "b") → reading (codes "x") ≡ true → IsReading input_x (loop cubes) high reading
  reads_loop reading same x =
      let place_b : MachineAt = record { machine = copier cubes (codes "a") (codes "b"); state = 0 } in
      let place_a : MachineAt = record { machine = copier cubes (codes "b") (codes "a"); state = 0 } in
      record {
        symbol = ap (λ (w : Bool). w ∷ []) x;
        outputs = All-cons (ReadsOutputs reading) place_b (place_a ∷ []) (ap (λ (w : Bool). w ∷ []) (sym same) ∙ sym (z_gives (reading (codes "a"))))
            (All-cons (ReadsOutputs reading) place_a [] (ap (λ (w : Bool). w ∷ []) same ∙ sym (z_gives (reading (codes "b")))) (All-nil (ReadsOutputs reading)));
      }

  pub no_step : (answer : List Bool) (nexts : List MachineAt) → StepTogether input_x (machine_z cubes) (loop cubes) high answer nexts → ⊥
  no_step answer nexts step =
      let ones : List ℕ → Bool = λ name. true in
      let zeros : List ℕ → Bool = λ name. bytes_eq name (codes "x") in
      let first : high ≡ answer = sym (z_gives true) ∙ (step.every ones (reads_loop ones refl refl)).gives in
      let second : low ≡ answer = sym (z_gives false) ∙ (step.every zeros (reads_loop zeros refl refl)).gives in
      false≢true (ap (λ (list : List Bool). get_or list 0 false) (second ∙ sym first))
