-- Networks without helper gates are sound, and what every valuation gives is a step.
use Rattle.std.proofs.Common.{ℕ, List, [], ◌∷◌, ◌++◌, map, get_or, inl, inr, All, Contains, arith}
use Rattle.std.specs.List.{AllByRecursion}
use Rattle.std.proofs.lemmas.List.Elements.{Contains-append_cases, Contains-append_left, Contains-append_right, recursion_from_All}
use Rattle.std.proofs.lemmas.List.Sorted.{IsPermutation-refl}
use Rattle.net_core.specs.declared.Gate.{Gate}
use Rattle.net_core.specs.declared.Network.{Network}
use Rattle.net_core.specs.FlatNetwork.{FlatIsSound, GivenIsAStep, IsFlat, base_of}
use Rattle.net_core.specs.SoundNetwork.{IsOrdered, driven_by, drivers_of}
use Rattle.net_core.specs.Laws.Members.{times-append, times-some}
use Rattle.net_core.specs.Laws.Valuations.{sound_one}

-- what stands in the base, and what a gate drives, is driven
from_base : (N : Network) (name : List ℕ) → Contains (base_of N) name → Contains (drivers_of N) name
from_base N name h =
    let outs = map (λ latch. latch.output) N.latches in
    elim (Contains-append_cases N.inputs outs name h) [
      | inl input ↦ Contains-append_left N.inputs (outs ++ driven_by N.gates) name input
      | inr latch ↦ Contains-append_right N.inputs (outs ++ driven_by N.gates) name (Contains-append_left outs (driven_by N.gates) name latch)
    ]

from_gate : (N : Network) (name : List ℕ) → Contains (driven_by N.gates) name → Contains (drivers_of N) name
from_gate N name h =
    let outs = map (λ latch. latch.output) N.latches in
    Contains-append_right N.inputs (outs ++ driven_by N.gates) name (Contains-append_right outs (driven_by N.gates) name h)

-- no gate drives a name of the base
apart_from_base : (N : Network) → IsFlat N → (name : List ℕ) → Contains (base_of N) name → Contains (driven_by N.gates) name → ⊥
apart_from_base N flat name base driven =
    let outs = map (λ latch. latch.output) N.latches in
    absurd (omega (
      arith,
      flat.driven_once name,
      times-append name N.inputs (outs ++ driven_by N.gates),
      times-append name outs (driven_by N.gates),
      times-append name N.inputs outs,
      times-some name (base_of N) base,
      times-some name (driven_by N.gates) driven,
    ))

-- gates that read nothing that gates drive stand in any order
ordered_flat : (base driven earlier : List (List ℕ)) (gates : List Gate) → ((name : List ℕ) → Contains base name → Contains driven name → ⊥)
    → AllByRecursion (λ gate. All (Contains base) gate.inputs) gates → IsOrdered driven earlier gates
ordered_flat base driven earlier [] apart reads = tt
ordered_flat base driven earlier (gate ∷ gates) apart (read, reads) = (
  λ k d lt is_driven. absurd (apart (get_or gate.inputs k d) (read k d lt) is_driven),
  ordered_flat base driven (gate.output ∷ earlier) gates apart reads,
)

pub flat_sound : FlatIsSound
flat_sound N flat =
    record {
      driven_once = flat.driven_once;
      outputs = λ k d lt. from_gate N (get_or N.outputs k d) (flat.outputs k d lt);
      latch_inputs = λ k d lt. from_gate N (get_or N.latches k d).input (flat.latch_inputs k d lt);
      gate_inputs = λ k d lt i e within. from_base N (get_or (get_or N.gates k d).inputs i e) (flat.reads k d lt i e within);
      order = (
        N.gates,
        IsPermutation-refl N.gates,
        ordered_flat (base_of N) (driven_by N.gates) [] N.gates (apart_from_base N flat)
            (recursion_from_All (λ gate. All (Contains (base_of N)) gate.inputs) N.gates flat.reads),
      );
    }

pub given_step : GivenIsAStep
given_step N state symbol answer next sound same_inputs same_latches every =
    let some = (sound_one N state symbol sound same_inputs same_latches).some in
    record { some = (some.0, some.1, every some.0 some.1); every = every }
