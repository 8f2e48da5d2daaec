-- What the gates of a shift register drive.
use Rattle.std.proofs.Common.{◌≡◌, Bool, true, false, ℕ, zero, suc, ◌+◌, ◌-◌, ◌*◌, ◌<◌, ◌++◌, Contains, All, List, [], Option, None, Some, inl, inr, length, slice_get, get_or, map, unwrap_or, sym, ap, ◌∙◌, subst, arith}
use Rattle.std.proofs.Math.Nat.{add-mul, suc-mul}
use Rattle.std.proofs.lemmas.Bool.{cases_lt}
use Rattle.std.proofs.lemmas.List.Elements.{All-contains, All-map, Contains-append_left, Contains-append_right, Contains-get_or}
use Rattle.std.proofs.lemmas.List.FromFn.{length-map-range_with_len}
use Rattle.std.proofs.lemmas.Option.{get_or_from_slice_get}
use Rattle.gate_rows.specs.Names.{name_at}
use Rattle.kiss_file.specs.declared.file.KissFile.{KissFile}
use Rattle.kiss_file.specs.LawfulFile.{AreGiven, IsLawful}
use Rattle.net_core.specs.declared.Gate.{Gate}
use Rattle.net_core.specs.declared.Network.{Network}
use Rattle.net_core.specs.declared.SignalNames.{SignalNames}
use Rattle.net_core.specs.SoundNetwork.{driven_by}
use Rattle.realise.specs.Names.{AreNames, next_letter, output_letter, own_name, own_names}
use Rattle.shift_real.specs.Gates.{taking}
use Rattle.shift_real.specs.ShiftNetwork.{IsRegister, TakesAt}
use Rattle.state_reduce.specs.Work.{IsWorkOf}

-- ---- how many names there are
length_own : (count letter many : ℕ) → length (own_names count letter many) ≡ many
length_own count letter many = length-map-range_with_len (own_name count letter) 0 many

length_given : (given : Option (List (List ℕ))) (own : List (List ℕ)) (many : ℕ) → AreGiven many given → length own ≡ many → length (unwrap_or given own) ≡ many
length_given None own many are size = size
length_given (Some names) own many are size = are.0

outputs_counted : (F : KissFile) (latches : ℕ) (names : SignalNames) → IsLawful F → AreNames F latches names → length names.outputs ≡ F.outputs
outputs_counted F latches names lawful own =
    ap length own.outputs
    ∙ length_given F.output_names (own_names own.count output_letter F.outputs) F.outputs lawful.output_names (length_own own.count output_letter F.outputs)

pub latches_counted : (F : KissFile) (latches : ℕ) (names : SignalNames) → AreNames F latches names → length names.latch_inputs ≡ latches
latches_counted F latches names own = ap length own.latch_inputs ∙ length_own own.count next_letter latches

-- the machine that is worked on has the outputs of the file's
pub same_outputs : (reduce : Bool) (F W : KissFile) → IsWorkOf reduce F W → W.outputs ≡ F.outputs
same_outputs true F W (class, is) = is.quotient.outputs
same_outputs false F W (class, is) = ap (λ (G : KissFile). G.outputs) is.file

-- ---- gates
-- a number below k times n is that of some symbol and some bit
place : (k n i : ℕ) → i < k * n → (j : ℕ) × (r : ℕ) × (j < k) × (r < n) × (j * n + r ≡ i)
place zero n i lt = absurd (omega (arith, lt))
place (suc k) n i lt =
    elim (cases_lt i (k * n)) [
      | inl below ↦ let found = place k n i below in (found.0, found.1, omega (arith, found.2), found.3, found.4)
      | inr above ↦ (k, i - k * n, omega arith, omega (arith, lt, suc-mul k n, above), omega (arith, above))
    ]

module _ (F W : KissFile) (k : ℕ) (names : SignalNames) (N : Network) (lawful : IsLawful F) (outputs : W.outputs ≡ F.outputs) (own : AreNames F (k * W.inputs) names) (is : IsRegister W k names N) where
  -- the gate of a latch takes a signal
  latch_gate : (i : ℕ) → i < k * W.inputs → (signal : List ℕ) × TakesAt names N i signal
  latch_gate i lt = let found = place k W.inputs i lt in by found.0 found.1 found.2 found.3 found.4
    where
      by : (j r : ℕ) → j < k → r < W.inputs → j * W.inputs + r ≡ i → (signal : List ℕ) × TakesAt names N i signal
      by zero r below within at =
          let same : r ≡ i = omega (arith, at) in
          (name_at names.inputs r, subst (λ (n : ℕ). TakesAt names N n (name_at names.inputs r)) same (is.shifts.newest r within below))
      by (suc j) r below within at =
          let same : (j + 1) * W.inputs + r ≡ i = omega (arith, at, suc-mul j W.inputs, add-mul j 1 W.inputs) in
          let older : List ℕ = name_at names.latch_outputs (j * W.inputs + r) in
          (older, subst (λ (n : ℕ). TakesAt names N n older) same (is.shifts.older j r within (omega (arith, below))))

  -- each gate drives a latch input or an output
  abbrev Drives : Gate → Type 0
  Drives gate = Contains (names.latch_inputs ++ names.outputs) gate.output

  gates_drive : All Drives N.gates
  gates_drive i d lt =
      elim (cases_lt i (k * W.inputs)) [
        | inl below ↦
            let at = latch_gate i below in
            subst Drives (sym (get_or_from_slice_get N.gates i (taking at.0 (name_at names.latch_inputs i)) d at.1))
            (Contains-append_left names.latch_inputs names.outputs (name_at names.latch_inputs i)
            (Contains-get_or names.latch_inputs i [] (omega (arith, below, latches_counted F (k * W.inputs) names own))))
        | inr above ↦
            let b : ℕ = i - k * W.inputs in
            let same : k * W.inputs + b ≡ i = omega arith in
            let within : b < W.outputs = omega (arith, lt, is.gate_count) in
            let at = is.outputs b within in
            subst Drives (sym (get_or_from_slice_get N.gates i at.1 d (sym (ap (slice_get N.gates) same) ∙ at.2)))
            (subst (Contains (names.latch_inputs ++ names.outputs)) (sym at.3.output)
            (Contains-append_right names.latch_inputs names.outputs (name_at names.outputs b)
            (Contains-get_or names.outputs b [] (omega (arith, within, outputs, outputs_counted F (k * W.inputs) names lawful own)))))
      ]

  pub register_drives : (name : List ℕ) → Contains (driven_by N.gates) name → Contains (names.latch_inputs ++ names.outputs) name
  register_drives name driven =
      All-contains (Contains (names.latch_inputs ++ names.outputs)) (driven_by N.gates) name
      (All-map (Contains (names.latch_inputs ++ names.outputs)) (λ (gate : Gate). gate.output) N.gates gates_drive) driven
