-- The names of the inputs and outputs of the machine of a part: no two are equal, and those that are short are lawful.
use Rattle.std.proofs.Common.{◌≡◌, ◌≢◌, ◌+◌, ◌<◌, ◌≤◌, ℕ, suc, false, inl, inr, All, Contains, List, [], ◌∷◌, ◌++◌, None, Option, Some, length, get_or, map, refl, sym, ◌∙◌, subst, arith}
use Rattle.std.specs.Prelude.{AllPairs, find}
use Rattle.std.specs.List.{position_or_len, range_with_len}
use Rattle.std.proofs.lemmas.Bool.{cases_lt}
use Rattle.std.proofs.lemmas.Bool.Decides.{nat_tests}
use Rattle.std.proofs.lemmas.List.{get_or-map, get_or_default, length-map}
use Rattle.std.proofs.lemmas.List.Elements.{All-append, All-contains, All-from_recursion, Contains-append_cases, Contains-append_left, Contains-append_right, Contains-get_or}
use Rattle.std.proofs.lemmas.List.Folds.{find_at}
use Rattle.std.proofs.lemmas.List.FromFn.{get_or-range_with_len, length-range_with_len}
use Rattle.std.proofs.lemmas.List.Kept.{AllPairs-cons, AllPairs-filter, AllPairs-from_increasing}
use Rattle.std.proofs.lemmas.List.Sums.{fails_before_first}
use Rattle.std.proofs.lemmas.Option.{none-some, slice_get-get_or}
use Rattle.answers.specs.declared.refusals.PartFlaw.TheVariants.{LongName}
use Rattle.answers.specs.declared.refusals.Refusal.TheVariants.{NoPart}
use Rattle.answers.specs.Cause.{CallsForNone}
use Rattle.blif_out.specs.Writable.{IsSignalName}
use Rattle.decomposition.specs.Laws.Writable.{AreSignalNames}
use Rattle.dependence.specs.declared.sets.ReadSet.{ReadSet}
use Rattle.dependence.specs.declared.sets.Reads.{Reads}
use Rattle.hs_io.specs.Spelling.{IsFieldByte}
use Rattle.kiss_file.specs.LawfulFile.{IsGivenName}
use Rattle.kiss_file.specs.Names.{AreDistinct}
use Rattle.list_facts.specs.Laws.Members.{Contains-from_map, Contains-here}
use Rattle.list_facts.specs.Laws.Places.{ascending_count}
use Rattle.net_core.specs.declared.SignalNames.{SignalNames}
use Rattle.net_core.specs.Laws.Members.{is_same_name, times, times-append, times-cons, times-some}
use Rattle.part_machines.specs.PartMachine.{input_names, output_names}
use Rattle.part_machines.specs.PartSet.{IsPartSet}
use Rattle.part_machines.specs.Which.{own_bits}
use Rattle.part_machines.specs.Laws.Blocks.{own_bit}
use Rattle.realise.specs.CodeNetwork.{name_at}
use Rattle.realise.specs.Laws.{ArePairwiseDistinct}
use Rattle.state_codes.specs.declared.Codes.{Codes}
use Rattle.state_codes.specs.declared.which.Which.{Which}
use Rattle.state_codes.specs.declared.which.Which.TheVariants.{Part as Numbered, Outputs}
use Rattle.part_texts.specs.PartCauses.{IsFirstLong, is_long}
use Rattle.part_texts.proofs.BlockNames.{one_place}

-- ---- distinct names
-- names that stand once each are distinct
distinct_once : (names : List (List ℕ)) → ((name : List ℕ) → times name names ≤ 1) → AreDistinct names
distinct_once [] once = λ i j d before within same. omega (arith, within)
distinct_once (x ∷ xs) once =
    let later : (name : List ℕ) → times name xs ≤ 1 = λ name. omega (arith, times-cons name x xs, once name) in
    let here : times x (x ∷ xs) ≡ 1 + times x xs = rw (times-cons x x xs, is_same_name x x refl) (omega arith) in
    AllPairs-cons (λ a b. a ≢ b) x xs
    (λ k d within same. absurd (omega (arith, here, once x, times-some x xs (k, within, get_or_default xs k x d within ∙ sym same))))
    (distinct_once xs later)

-- names at different places are distinct
distinct_at : (names : List (List ℕ)) (places : List ℕ) → AreDistinct names → AllPairs (λ a b. a < b) places → All (λ a. a < length names) places → AreDistinct (map (name_at names) places)
distinct_at names places distinct up within i j d before inside same =
    let size : length (map (name_at names) places) ≡ length places = length-map places (name_at names) in
    let low : i < length places = omega (arith, before, inside, size) in
    let high : j < length places = omega (arith, inside, size) in
    let a : ℕ = get_or places i 0 in
    let b : ℕ = get_or places j 0 in
    let one : a ≡ b =
    one_place names a b distinct (within i 0 low) (within j 0 high)
    (sym (get_or-map (name_at names) places i 0 d low) ∙ same ∙ get_or-map (name_at names) places j 0 d high) in
    omega (arith, one, up i j 0 before high)

-- names without a common one are distinct together
distinct_append : (xs ys : List (List ℕ)) → AreDistinct xs → AreDistinct ys → ((name : List ℕ) → Contains xs name → Contains ys name → ⊥) → AreDistinct (xs ++ ys)
distinct_append [] ys one other apart = other
distinct_append (x ∷ xs) ys one other apart =
    AllPairs-cons (λ a b. a ≢ b) x (xs ++ ys)
    (All-append (λ b. x ≢ b) xs ys (λ k d within. one 0 (suc k) d (omega arith) (omega (arith, within)))
    (λ k d within same. apart x (Contains-here x xs) (k, within, get_or_default ys k x d within ∙ sym same)))
    (distinct_append xs ys (λ i j d before within. one (suc i) (suc j) d (omega (arith, before)) (omega (arith, within))) other
    (λ name among. apart name (Contains-append_right (x ∷ []) xs name among)))

-- a name at one of some places
at_place : (names : List (List ℕ)) (places : List ℕ) (name : List ℕ) → All (λ a. a < length names) places → Contains (map (name_at names) places) name
    → (a : ℕ) × Contains places a × (a < length names) × (name_at names a ≡ name)
at_place names places name within among =
    let found = Contains-from_map (name_at names) places name among in
    (found.0, found.1, All-contains (λ a. a < length names) places found.0 within found.1, found.2)

-- it is among the names
among_names : (names : List (List ℕ)) (places : List ℕ) (name : List ℕ) → All (λ a. a < length names) places → Contains (map (name_at names) places) name → Contains names name
among_names names places name within among =
    let found = at_place names places name within among in
    subst (Contains names) found.3 (Contains-get_or names found.0 [] found.2)

-- the own bits of a part ascend
own_ascend : (codes : Codes) (j : ℕ) → AllPairs (λ a b. a < b) (own_bits codes (Numbered j))
own_ascend codes j =
    AllPairs-filter (λ a b. a < b) _ (range_with_len 0 codes.bits)
    (λ i k d before within.
    let size = length-range_with_len 0 codes.bits in
    omega (arith, get_or-range_with_len 0 codes.bits i d (omega (arith, before, within, size)), get_or-range_with_len 0 codes.bits k d (omega (arith, within, size)), before))

-- each is a bit of the code
pub own_low : (codes : Codes) (j count : ℕ) → codes.bits ≡ count → All (λ c. c < count) (own_bits codes (Numbered j))
own_low codes j count is k d within =
    omega (arith, is, (own_bit codes j (get_or (own_bits codes (Numbered j)) k d) (Contains-get_or (own_bits codes (Numbered j)) k d within)).0)

-- so there are at most as many as bits
pub few_own : (codes : Codes) (j : ℕ) → length (own_bits codes (Numbered j)) ≤ codes.bits
few_own codes j = ascending_count codes.bits (own_bits codes (Numbered j)) (λ k within. own_ascend codes j k (k + 1) 0 (omega arith) within) (own_low codes j codes.bits refl)

-- ---- short names
not_long : (name : List ℕ) → is_long name ≡ false → length name ≤ 64
not_long name is = grind (arith, nat_tests, is)

-- a test that finds nothing fails everywhere
none_found : (names : List (List ℕ)) → find is_long names ≡ None → (k : ℕ) → k < length names → is_long (get_or names k []) ≡ false
none_found names none k within =
    elim (cases_lt k (position_or_len is_long names)) [
      | inl before ↦ fails_before_first is_long names k [] before
      | inr upto ↦
          let inside : position_or_len is_long names < length names = omega (arith, upto, within) in
          absurd (none-some (get_or names (position_or_len is_long names) []) (sym none ∙ find_at is_long names ∙ slice_get-get_or names (position_or_len is_long names) [] inside))
    ]

-- where no name is called too long, each is short
short_name : (which : Which) (names : List (List ℕ)) → CallsForNone (IsFirstLong which names) → (name : List ℕ) → Contains names name → length name ≤ 64
short_name which names none name (k, within, is) = by (find is_long names) refl
  where
    by : (found : Option (List ℕ)) → find is_long names ≡ found → length name ≤ 64
    by None nothing =
        let passes : is_long (get_or names k []) ≡ false = none_found names nothing k within in
        let same : get_or names k [] ≡ name = get_or_default names k [] name within ∙ is in
        not_long name (subst (λ (n : List ℕ). is_long n ≡ false) same passes)
    by (Some first) found = absurd (none (NoPart (LongName which (length first))) (first, refl, found))

-- a short name of a signal may be given in a text
lawful_name : (name : List ℕ) → IsSignalName name → length name ≤ 64 → IsGivenName name
lawful_name name is short = record {
  some = is.field.some;
  short = short;
  visible = All-from_recursion IsFieldByte name is.field.visible;
  no_backslash = All-from_recursion (λ b. b ≢ 92) name is.no_backslash;
}

-- ---- of a network
module _ (names : SignalNames) (once : ArePairwiseDistinct names) where
  counted : (name : List ℕ) → times name names.inputs + times name names.outputs + times name names.latch_inputs + times name names.latch_outputs ≤ 1
  counted name =
      omega (
        arith,
        once name,
        times-append name (names.inputs ++ names.outputs ++ names.latch_inputs) names.latch_outputs,
        times-append name (names.inputs ++ names.outputs) names.latch_inputs,
        times-append name names.inputs names.outputs,
      )

  inputs_distinct : AreDistinct names.inputs
  inputs_distinct = distinct_once names.inputs (λ name. omega (arith, counted name))

  pub outputs_distinct : AreDistinct names.outputs
  outputs_distinct = distinct_once names.outputs (λ name. omega (arith, counted name))

  latches_distinct : AreDistinct names.latch_outputs
  latches_distinct = distinct_once names.latch_outputs (λ name. omega (arith, counted name))

  -- no name is that of two signals
  input_or_latch : (name : List ℕ) → Contains names.inputs name → Contains names.latch_outputs name → ⊥
  input_or_latch name one other = absurd (omega (arith, counted name, times-some name names.inputs one, times-some name names.latch_outputs other))

  input_or_output : (name : List ℕ) → Contains names.inputs name → Contains names.outputs name → ⊥
  input_or_output name one other = absurd (omega (arith, counted name, times-some name names.inputs one, times-some name names.outputs other))

  output_or_latch : (name : List ℕ) → Contains names.latch_outputs name → Contains names.outputs name → ⊥
  output_or_latch name one other = absurd (omega (arith, counted name, times-some name names.latch_outputs one, times-some name names.outputs other))

  -- ---- of a part
  module _ (codes : Codes) (sets : Reads) (set : ReadSet) (inputs : All (λ a. a < length names.inputs) set.inputs) (latches : All (λ c. c < length names.latch_outputs) set.latches) (count : codes.bits ≡ length names.latch_outputs) where
    abbrev ins : List (List ℕ)
    ins = map (name_at names.inputs) set.inputs

    abbrev reads : List (List ℕ)
    reads = map (name_at names.latch_outputs) set.latches

    own_within : (j : ℕ) → All (λ c. c < length names.latch_outputs) (own_bits codes (Numbered j))
    own_within j = own_low codes j (length names.latch_outputs) count

    module _ (which : Which) (read : IsPartSet codes sets which set) where
      read_distinct : AreDistinct (input_names names set)
      read_distinct =
          distinct_append ins reads
          (distinct_at names.inputs set.inputs inputs_distinct (AllPairs-from_increasing set.inputs read.inputs_ascend) inputs)
          (distinct_at names.latch_outputs set.latches latches_distinct (AllPairs-from_increasing set.latches read.latches_ascend) latches)
          (λ name one other. input_or_latch name (among_names names.inputs set.inputs name inputs one) (among_names names.latch_outputs set.latches name latches other))

    pub all_distinct : (which : Which) → IsPartSet codes sets which set → AreDistinct (input_names names set ++ output_names names codes which)
    all_distinct (Numbered j) read =
        let own : List ℕ = own_bits codes (Numbered j) in
        distinct_append (input_names names set) (map (name_at names.latch_outputs) own) (read_distinct (Numbered j) read)
        (distinct_at names.latch_outputs own latches_distinct (own_ascend codes j) (own_within j))
        (λ name one other.
        elim (Contains-append_cases ins reads name one) [
          | inl input ↦ input_or_latch name (among_names names.inputs set.inputs name inputs input) (among_names names.latch_outputs own name (own_within j) other)
          | inr latch ↦
              let c = at_place names.latch_outputs set.latches name latches latch in
              let d = at_place names.latch_outputs own name (own_within j) other in
              let same : c.0 ≡ d.0 = one_place names.latch_outputs c.0 d.0 latches_distinct c.2 d.2 (c.3 ∙ sym d.3) in
              ((read.latches c.0).0 c.1).1 (subst (Contains own) (sym same) d.1)
        ])
    all_distinct Outputs read =
        distinct_append (input_names names set) names.outputs (read_distinct Outputs read) outputs_distinct
        (λ name one other.
        elim (Contains-append_cases ins reads name one) [
          | inl input ↦ input_or_output name (among_names names.inputs set.inputs name inputs input) other
          | inr latch ↦ output_or_latch name (among_names names.latch_outputs set.latches name latches latch) other
        ])

    -- ---- each of them
    module _ (are : AreSignalNames names) where
      is_read_name : (name : List ℕ) → Contains (input_names names set) name → IsSignalName name
      is_read_name name among =
          elim (Contains-append_cases ins reads name among) [
            | inl input ↦ All-contains IsSignalName names.inputs name are.inputs (among_names names.inputs set.inputs name inputs input)
            | inr latch ↦ All-contains IsSignalName names.latch_outputs name are.latch_outputs (among_names names.latch_outputs set.latches name latches latch)
          ]

      is_given_name : (which : Which) (name : List ℕ) → Contains (output_names names codes which) name → IsSignalName name
      is_given_name (Numbered j) name among = All-contains IsSignalName names.latch_outputs name are.latch_outputs (among_names names.latch_outputs (own_bits codes (Numbered j)) name (own_within j) among)
      is_given_name Outputs name among = All-contains IsSignalName names.outputs name are.outputs among

      module _ (which : Which) (none : CallsForNone (IsFirstLong which (input_names names set ++ output_names names codes which))) where
        abbrev all : List (List ℕ)
        all = input_names names set ++ output_names names codes which

        pub inputs_lawful : All IsGivenName (input_names names set)
        inputs_lawful k d within =
            let among : Contains (input_names names set) (get_or (input_names names set) k d) = Contains-get_or (input_names names set) k d within in
            lawful_name (get_or (input_names names set) k d) (is_read_name (get_or (input_names names set) k d) among)
            (short_name which all none (get_or (input_names names set) k d) (Contains-append_left (input_names names set) (output_names names codes which) (get_or (input_names names set) k d) among))

        pub outputs_lawful : All IsGivenName (output_names names codes which)
        outputs_lawful k d within =
            let among : Contains (output_names names codes which) (get_or (output_names names codes which) k d) = Contains-get_or (output_names names codes which) k d within in
            lawful_name (get_or (output_names names codes which) k d) (is_given_name which (get_or (output_names names codes which) k d) among)
            (short_name which all none (get_or (output_names names codes which) k d) (Contains-append_right (input_names names set) (output_names names codes which) (get_or (output_names names codes which) k d) among))
