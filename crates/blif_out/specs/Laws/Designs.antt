-- The plain design is a design of every network, and a name is found exactly where it is a signal.
use Rattle.std.proofs.Common.{◌≡◌, ◌||◌, ◌↔◌, ℕ, inl, inr, Bool, true, false, IsTrue, List, ◌++◌, Contains, map, refl, sym, ◌∙◌, subst, arith, codes}
use Rattle.std.specs.List.{list_any}
use Rattle.std.specs.Str.{bytes_eq}
use Rattle.std.proofs.lemmas.Bool.{or_cases, or_parts, true≢false}
use Rattle.std.proofs.lemmas.List.Elements.{Contains-append_cases, Contains-append_left, Contains-append_right}
use Rattle.std.proofs.lemmas.Slice.Eq.{bytes_eq-Decides}
use Rattle.list_facts.specs.Laws.Members.{Contains-from_map, Contains-map, fails_from_none, passes_from_any}
use Rattle.net_core.specs.declared.Gate.{Gate}
use Rattle.net_core.specs.declared.Latch.{Latch}
use Rattle.net_core.specs.declared.Network.{Network}
use Rattle.net_core.specs.SoundNetwork.{driven_by}
use Rattle.blif_out.specs.Design.{PlainDesignIsLawful, driven_signals, signals_of}
use Rattle.blif_out.specs.Inner.Signals.{is_of_gate, is_of_latch}
use Rattle.blif_out.specs.Laws.Words.{name_word}

pub plain_design_is_lawful : PlainDesignIsLawful
plain_design_is_lawful N = record { model = name_word (codes "hsdec") (omega arith) refl; clock = tt }

-- ---- names in a list
module _ (name : List ℕ) where
  same : (other : List ℕ) → bytes_eq name other ≡ true → other ≡ name
  same other is = sym ((bytes_eq-Decides name other).0 is)

  itself : bytes_eq name name ≡ false → ⊥
  itself other = true≢false (sym ((bytes_eq-Decides name name).1 refl) ∙ other)

  pub among : (names : List (List ℕ)) → list_any (bytes_eq name) names ≡ true → Contains names name
  among names is = let found = passes_from_any (bytes_eq name) names is in subst (Contains names) (same found.0 found.2) found.1

  pub outside : (names : List (List ℕ)) → list_any (bytes_eq name) names ≡ false → Contains names name → ⊥
  outside names none is = itself (fails_from_none (bytes_eq name) names none name is)

-- ---- names of signals
module _ (N : Network) (name : List ℕ) where
  abbrev latch_inputs : List (List ℕ)
  latch_inputs = map (λ (latch : Latch). latch.input) N.latches

  abbrev latch_outputs : List (List ℕ)
  latch_outputs = map (λ (latch : Latch). latch.output) N.latches

  of_others : Contains (latch_inputs ++ driven_signals N) name → Contains (signals_of N) name
  of_others is =
      Contains-append_right N.inputs (N.outputs ++ (latch_inputs ++ driven_signals N)) name
      (Contains-append_right N.outputs (latch_inputs ++ driven_signals N) name is)

  of_drivers : Contains (driven_signals N) name → Contains (signals_of N) name
  of_drivers is = of_others (Contains-append_right latch_inputs (driven_signals N) name is)

  pub by_input : list_any (bytes_eq name) N.inputs ≡ true → Contains (signals_of N) name
  by_input is = Contains-append_left N.inputs (N.outputs ++ (latch_inputs ++ driven_signals N)) name (among name N.inputs is)

  pub by_output : list_any (bytes_eq name) N.outputs ≡ true → Contains (signals_of N) name
  by_output is =
      Contains-append_right N.inputs (N.outputs ++ (latch_inputs ++ driven_signals N)) name
      (Contains-append_left N.outputs (latch_inputs ++ driven_signals N) name (among name N.outputs is))

  pub by_latch : list_any (is_of_latch name) N.latches ≡ true → Contains (signals_of N) name
  by_latch is =
      let found = passes_from_any (is_of_latch name) N.latches is in
      elim (or_cases (bytes_eq name found.0.input) (bytes_eq name found.0.output) found.2) [
        | inl input ↦
            of_others
            (Contains-append_left latch_inputs (driven_signals N) name
            (subst (Contains latch_inputs) (same name found.0.input input) (Contains-map (λ (latch : Latch). latch.input) N.latches found.0 found.1)))
        | inr output ↦
            of_drivers
            (Contains-append_left latch_outputs (driven_by N.gates) name
            (subst (Contains latch_outputs) (same name found.0.output output) (Contains-map (λ (latch : Latch). latch.output) N.latches found.0 found.1)))
      ]

  pub by_gate : list_any (is_of_gate name) N.gates ≡ true → Contains (signals_of N) name
  by_gate is =
      let found = passes_from_any (is_of_gate name) N.gates is in
      of_drivers
      (Contains-append_right latch_outputs (driven_by N.gates) name
      (subst (Contains (driven_by N.gates)) (same name found.0.output found.2) (Contains-map (λ (gate : Gate). gate.output) N.gates found.0 found.1)))

  -- ---- and names that are not
  no_latch : list_any (is_of_latch name) N.latches ≡ false → (latch : Latch) → Contains N.latches latch → (bytes_eq name latch.input ≡ false) × (bytes_eq name latch.output ≡ false)
  no_latch none latch is = or_parts (bytes_eq name latch.input) (bytes_eq name latch.output) (fails_from_none (is_of_latch name) N.latches none latch is)

  no_latch_input : list_any (is_of_latch name) N.latches ≡ false → Contains latch_inputs name → ⊥
  no_latch_input none is =
      let found = Contains-from_map (λ (latch : Latch). latch.input) N.latches name is in
      itself name (subst (λ (other : List ℕ). bytes_eq name other ≡ false) found.2 (no_latch none found.0 found.1).0)

  no_latch_output : list_any (is_of_latch name) N.latches ≡ false → Contains latch_outputs name → ⊥
  no_latch_output none is =
      let found = Contains-from_map (λ (latch : Latch). latch.output) N.latches name is in
      itself name (subst (λ (other : List ℕ). bytes_eq name other ≡ false) found.2 (no_latch none found.0 found.1).1)

  no_gate : list_any (is_of_gate name) N.gates ≡ false → Contains (driven_by N.gates) name → ⊥
  no_gate none is =
      let found = Contains-from_map (λ (gate : Gate). gate.output) N.gates name is in
      itself name (subst (λ (other : List ℕ). bytes_eq name other ≡ false) found.2 (fails_from_none (is_of_gate name) N.gates none found.0 found.1))

  no_driver : list_any (is_of_latch name) N.latches ≡ false → list_any (is_of_gate name) N.gates ≡ false → Contains (driven_signals N) name → ⊥
  no_driver none no_gates is =
      elim (Contains-append_cases latch_outputs (driven_by N.gates) name is) [ inl output ↦ no_latch_output none output | inr gate ↦ no_gate no_gates gate ]

  no_other : list_any (is_of_latch name) N.latches ≡ false → list_any (is_of_gate name) N.gates ≡ false → Contains (latch_inputs ++ driven_signals N) name → ⊥
  no_other none no_gates is =
      elim (Contains-append_cases latch_inputs (driven_signals N) name is) [ inl input ↦ no_latch_input none input | inr driver ↦ no_driver none no_gates driver ]

  none_at_all : list_any (bytes_eq name) N.inputs ≡ false → list_any (bytes_eq name) N.outputs ≡ false → list_any (is_of_latch name) N.latches ≡ false → list_any (is_of_gate name) N.gates ≡ false → Contains (signals_of N) name → ⊥
  none_at_all no_input no_output none no_gates is =
      elim (Contains-append_cases N.inputs (N.outputs ++ (latch_inputs ++ driven_signals N)) name is) [
        | inl input ↦ outside name N.inputs no_input input
        | inr later ↦ elim (Contains-append_cases N.outputs (latch_inputs ++ driven_signals N) name later) [
          | inl output ↦ outside name N.outputs no_output output
          | inr other ↦ no_other none no_gates other
        ]
      ]

  -- ---- the tests
  pub by_ends : (found : Bool) → found ≡ (list_any (bytes_eq name) N.inputs || list_any (bytes_eq name) N.outputs) → found ≡ true → IsTrue found ↔ Contains (signals_of N) name
  by_ends found test is = (
    λ _.
        elim (or_cases (list_any (bytes_eq name) N.inputs) (list_any (bytes_eq name) N.outputs) (sym test ∙ is)) [ inl input ↦ by_input input | inr output ↦ by_output output ],
    λ _. is,
  )

  pub by_inner : (ends found : Bool) → ends ≡ (list_any (bytes_eq name) N.inputs || list_any (bytes_eq name) N.outputs) → ends ≡ false
      → found ≡ (list_any (is_of_latch name) N.latches || list_any (is_of_gate name) N.gates) → IsTrue found ↔ Contains (signals_of N) name
  by_inner ends true of_ends no_end test = (
    λ _. elim (or_cases (list_any (is_of_latch name) N.latches) (list_any (is_of_gate name) N.gates) (sym test)) [ inl latch ↦ by_latch latch | inr gate ↦ by_gate gate ],
    λ _. refl,
  )
  by_inner ends false of_ends no_end test =
      let outer = or_parts (list_any (bytes_eq name) N.inputs) (list_any (bytes_eq name) N.outputs) (sym of_ends ∙ no_end) in
      let inner = or_parts (list_any (is_of_latch name) N.latches) (list_any (is_of_gate name) N.gates) (sym test) in
      (λ is. absurd (true≢false (sym is)), λ among. absurd (none_at_all outer.0 outer.1 inner.0 inner.1 among))
