-- A gate of the network of codes reads exactly the latches of its set.
use Rattle.std.proofs.Common.{◌≡◌, ℕ, zero, suc, ◌+◌, ◌<◌, ◌≤◌, inl, inr, Bool, Contains, List, [], ◌∷◌, ◌++◌, Some, get_or, length, map, slice_get, sym, ap, ◌∙◌, subst, arith}
use Rattle.std.proofs.lemmas.Bool.{cases_order}
use Rattle.std.proofs.lemmas.List.{get_or-map, length-map}
use Rattle.std.proofs.lemmas.List.Elements.{All-contains, Contains-append_cases, Contains-append_right, Contains-get_or}
use Rattle.std.proofs.lemmas.Option.{get_or_from_slice_get, slice_get_within}
use Rattle.list_facts.specs.Laws.Members.{Contains-from_map, Contains-map}
use Rattle.list_facts.specs.Laws.Places.{item_at}
use Rattle.dependence.specs.declared.sets.ReadSet.{ReadSet}
use Rattle.kiss_file.specs.declared.file.KissFile.{KissFile}
use Rattle.net_core.specs.declared.Gate.{Gate}
use Rattle.net_core.specs.declared.Latch.{Latch}
use Rattle.net_core.specs.declared.Network.{Network}
use Rattle.net_core.specs.declared.SignalNames.{SignalNames}
use Rattle.net_core.specs.Laws.Members.{is_same_name, times, times-append, times-cons, times-some}
use Rattle.realise.specs.Laws.{ArePairwiseDistinct}
use Rattle.realise.specs.CodeNetwork.{AreCounted, IsGateFor, IsWithin, name_at}
use Rattle.decomposition.specs.OwnPairs.{ReadsLatch}

-- a name that stands at two places stands twice
twice : (names : List (List ℕ)) (i j : ℕ) → i < j → j < length names → get_or names i [] ≡ get_or names j [] → 2 ≤ times (get_or names j []) names
twice [] i j order within same = absurd (omega arith)
twice (name ∷ names) zero zero order within same = absurd (omega arith)
twice (name ∷ names) zero (suc j) order within same =
    let other : List ℕ = get_or names j [] in
    let later : 1 ≤ times other names = times-some other names (Contains-get_or names j [] (omega arith)) in
    rw (times-cons other name names, is_same_name other name (sym same)) (omega (arith, later))
twice (name ∷ names) (suc i) zero order within same = absurd (omega arith)
twice (name ∷ names) (suc i) (suc j) order within same =
    omega (arith, times-cons (get_or names j []) name names, twice names i j (omega arith) (omega arith) same)

-- so where no name stands twice, places of one name are one
one_place : (names : List (List ℕ)) (i j : ℕ) → ((name : List ℕ) → times name names ≤ 1) → i < length names → j < length names → get_or names i [] ≡ get_or names j [] → i ≡ j
one_place names i j once in_i in_j same =
    elim (cases_order i j) [
      | inl equal ↦ equal
      | inr other ↦ elim other [
        | inl below ↦ absurd (omega (arith, twice names i j below in_j same, once (get_or names j [])))
        | inr above ↦ absurd (omega (arith, twice names j i above in_i (sym same), once (get_or names i [])))
      ]
    ]

-- the names of latch outputs stand once among all, and none is that of an input
counts : (names : SignalNames) (name : List ℕ) → ArePairwiseDistinct names → times name names.inputs + times name names.latch_outputs ≤ 1
counts names name distinct =
    omega (
      arith,
      distinct name,
      times-append name (names.inputs ++ names.outputs ++ names.latch_inputs) names.latch_outputs,
      times-append name (names.inputs ++ names.outputs) names.latch_inputs,
      times-append name names.inputs names.outputs,
    )

module _ (F : KissFile) (bits : ℕ) (words : List ℕ) (names : SignalNames) (N : Network) (set : ReadSet) (value : ℕ → List Bool → Bool) (name : List ℕ) (gate : Gate)
    (counted : AreCounted F bits names) (distinct : ArePairwiseDistinct names) (outputs : map (λ latch. latch.output) N.latches ≡ names.latch_outputs) (within : IsWithin F.inputs bits set) (is : IsGateFor F words names set value name gate) where
  abbrev ins : List (List ℕ)
  ins = map (name_at names.inputs) set.inputs

  abbrev outs : List (List ℕ)
  outs = map (name_at names.latch_outputs) set.latches

  count : length N.latches ≡ bits
  count = sym (length-map N.latches (λ latch. latch.output)) ∙ ap length outputs ∙ counted.latch_outputs

  -- the output of a latch has the name of its number
  latch_name : (c : ℕ) (latch : Latch) → slice_get N.latches c ≡ Some latch → latch.output ≡ name_at names.latch_outputs c
  latch_name c latch stands =
      sym (ap (λ (l : Latch). l.output) (get_or_from_slice_get N.latches c latch latch stands))
      ∙ sym (get_or-map (λ (l : Latch). l.output) N.latches c latch [] (slice_get_within N.latches c latch stands))
      ∙ ap (λ (list : List (List ℕ)). get_or list c []) outputs

  -- a latch that is read is one of the set
  pub read_listed : (c : ℕ) → ReadsLatch N gate c → Contains set.latches c
  read_listed c reads =
      let latch : Latch = reads.0 in
      let in_c : c < bits = omega (arith, slice_get_within N.latches c latch reads.1, count) in
      let called : latch.output ≡ name_at names.latch_outputs c = latch_name c latch reads.1 in
      let there : Contains (ins ++ outs) latch.output = subst (λ (list : List (List ℕ)). Contains list latch.output) is.inputs reads.2 in
      elim (Contains-append_cases ins outs latch.output there) [
        | inl among ↦
            let found = Contains-from_map (name_at names.inputs) set.inputs latch.output among in
            let in_a : found.0 < F.inputs = All-contains (λ a. a < F.inputs) set.inputs found.0 within.inputs_within found.1 in
            let one : 1 ≤ times latch.output names.inputs = times-some latch.output names.inputs (subst (Contains names.inputs) found.2 (Contains-get_or names.inputs found.0 [] (omega (arith, in_a, counted.inputs)))) in
            let other : 1 ≤ times latch.output names.latch_outputs = times-some latch.output names.latch_outputs (subst (Contains names.latch_outputs) (sym called) (Contains-get_or names.latch_outputs c [] (omega (arith, in_c, counted.latch_outputs)))) in
            absurd (omega (arith, one, other, counts names latch.output distinct))
        | inr among ↦
            let found = Contains-from_map (name_at names.latch_outputs) set.latches latch.output among in
            let in_d : found.0 < bits = All-contains (λ d. d < bits) set.latches found.0 within.latches_within found.1 in
            let same : found.0 ≡ c =
            one_place names.latch_outputs found.0 c (λ n. omega (arith, counts names n distinct)) (omega (arith, in_d, counted.latch_outputs)) (omega (arith, in_c, counted.latch_outputs)) (found.2 ∙ called) in
            subst (Contains set.latches) same found.1
      ]

  -- and each of the set is read
  pub listed_read : (c : ℕ) → Contains set.latches c → ReadsLatch N gate c
  listed_read c listed =
      let in_c : c < bits = All-contains (λ d. d < bits) set.latches c within.latches_within listed in
      let found = item_at N.latches c (omega (arith, in_c, count)) in (
        found.0,
        found.1,
        subst (λ (list : List (List ℕ)). Contains list (found.0).output) (sym is.inputs)
            (Contains-append_right ins outs (found.0).output (subst (Contains outs) (sym (latch_name c found.0 found.1)) (Contains-map (name_at names.latch_outputs) set.latches c listed))),
      )
