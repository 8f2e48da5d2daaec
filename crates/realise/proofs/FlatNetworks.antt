-- The network of codes is flat.
use Rattle.std.proofs.Common.{◌≡◌, ℕ, ◌<◌, ◌≤◌, List, [], ◌++◌, length, map, get_or, All, Contains, ap, sym, ◌∙◌, subst, arith}
use Rattle.std.proofs.lemmas.List.Elements.{All-append, All-contains_itself, All-map, All-same, All-weaker, Contains-append_left, Contains-append_right, Contains-get_or}
use Rattle.list_facts.specs.Laws.Everywhere.{all_from_map}
use Rattle.dependence.specs.declared.sets.Reads.{Reads}
use Rattle.kiss_file.specs.declared.file.KissFile.{KissFile}
use Rattle.net_core.specs.declared.Gate.{Gate}
use Rattle.net_core.specs.declared.Latch.{Latch}
use Rattle.net_core.specs.declared.Network.{Network}
use Rattle.net_core.specs.declared.SignalNames.{SignalNames}
use Rattle.net_core.specs.FlatNetwork.{base_of}
use Rattle.net_core.specs.SoundNetwork.{driven_by, drivers_of}
use Rattle.net_core.specs.Laws.Members.{times, times-append}
use Rattle.realise.specs.Laws.{ArePairwiseDistinct, RealisedIsFlat}
use Rattle.realise.specs.CodeNetwork.{AreCounted, AreEnough, IsRealised, name_at}
use Rattle.realise.specs.Laws.Gates.{IsSomeGate, driven_names, each_gate}

-- names at numbers below their count are among them
named : (names : List (List ℕ)) (count : ℕ) (numbers : List ℕ) → length names ≡ count → All (λ a. a < count) numbers → All (Contains names) (map (name_at names) numbers)
named names count numbers counts within =
    All-map (Contains names) (name_at names) numbers (λ k d lt. Contains-get_or names (get_or numbers k d) [] (omega (arith, within k d lt, counts)))

module _ (F : KissFile) (bits : ℕ) (words : List ℕ) (reads : Reads) (names : SignalNames) (N : Network) (counted : AreCounted F bits names) (enough : AreEnough F bits words reads) (real : IsRealised F bits words reads names N) where
  abbrev drives : List (List ℕ)
  drives = names.latch_inputs ++ names.outputs

  same_drives : driven_by N.gates ≡ drives
  same_drives = driven_names F bits words reads names N counted enough real

  -- what the latches give
  same_base : base_of N ≡ names.inputs ++ names.latch_outputs
  same_base =
      ap (λ (ins : List (List ℕ)). ins ++ map (λ latch. latch.output) N.latches) real.inputs ∙ ap (λ (outs : List (List ℕ)). names.inputs ++ outs) real.latch_outputs

  same_drivers : drivers_of N ≡ names.inputs ++ (names.latch_outputs ++ drives)
  same_drivers =
      ap (λ (ins : List (List ℕ)). ins ++ (map (λ latch. latch.output) N.latches ++ driven_by N.gates)) real.inputs
      ∙ ap (λ (outs : List (List ℕ)). names.inputs ++ (outs ++ driven_by N.gates)) real.latch_outputs
      ∙ ap (λ (gates : List (List ℕ)). names.inputs ++ (names.latch_outputs ++ gates)) same_drives

  -- each is driven as often as it stands among the names
  once : ArePairwiseDistinct names → (name : List ℕ) → times name (drivers_of N) ≤ 1
  once distinct name =
      omega (
        arith,
        distinct name,
        ap (times name) same_drivers,
        times-append name names.inputs (names.latch_outputs ++ drives),
        times-append name names.latch_outputs drives,
        times-append name names.latch_inputs names.outputs,
        times-append name (names.inputs ++ names.outputs ++ names.latch_inputs) names.latch_outputs,
        times-append name (names.inputs ++ names.outputs) names.latch_inputs,
        times-append name names.inputs names.outputs,
      )

  -- a gate reads the base alone
  reads_base : (gate : Gate) → IsSomeGate F bits words names gate → All (Contains (base_of N)) gate.inputs
  reads_base gate some =
      let base : List (List ℕ) = names.inputs ++ names.latch_outputs in
      let ins : List (List ℕ) = map (name_at names.inputs) some.set.inputs in
      let outs : List (List ℕ) = map (name_at names.latch_outputs) some.set.latches in
      let all : All (Contains base) (ins ++ outs) =
      All-append (Contains base) ins outs
      (All-weaker (Contains names.inputs) (Contains base) (λ name h. Contains-append_left names.inputs names.latch_outputs name h) ins
      (named names.inputs F.inputs some.set.inputs counted.inputs some.within.inputs_within))
      (All-weaker (Contains names.latch_outputs) (Contains base) (λ name h. Contains-append_right names.inputs names.latch_outputs name h) outs
      (named names.latch_outputs bits some.set.latches counted.latch_outputs some.within.latches_within)) in
      All-same (Contains (base_of N)) gate.inputs (ins ++ outs) some.is.inputs (subst (λ (list : List (List ℕ)). All (Contains list) (ins ++ outs)) (sym same_base) all)

  -- gates drive outputs and latch inputs
  outputs_driven : All (Contains (driven_by N.gates)) N.outputs
  outputs_driven =
      subst (λ (list : List (List ℕ)). All (Contains list) N.outputs) (sym same_drives)
      (All-same (Contains drives) N.outputs names.outputs real.outputs
      (All-weaker (Contains names.outputs) (Contains drives) (λ name h. Contains-append_right names.latch_inputs names.outputs name h) names.outputs (All-contains_itself names.outputs)))

  inputs_driven : All (Contains (driven_by N.gates)) (map (λ latch. latch.input) N.latches)
  inputs_driven =
      subst (λ (list : List (List ℕ)). All (Contains list) (map (λ latch. latch.input) N.latches)) (sym same_drives)
      (All-same (Contains drives) (map (λ latch. latch.input) N.latches) names.latch_inputs real.latch_inputs
      (All-weaker (Contains names.latch_inputs) (Contains drives) (λ name h. Contains-append_left names.latch_inputs names.outputs name h) names.latch_inputs (All-contains_itself names.latch_inputs)))

pub realised_flat : RealisedIsFlat
realised_flat F bits words reads names N counted distinct enough real =
    record {
      driven_once = once F bits words reads names N counted enough real distinct;
      reads = All-weaker (IsSomeGate F bits words names) (λ gate. All (Contains (base_of N)) gate.inputs)
          (reads_base F bits words reads names N counted enough real) N.gates
          (each_gate F bits words reads names N counted enough real);
      outputs = outputs_driven F bits words reads names N counted enough real;
      latch_inputs = all_from_map (Contains (driven_by N.gates)) (λ (latch : Latch). latch.input) N.latches (inputs_driven F bits words reads names N counted enough real);
    }
