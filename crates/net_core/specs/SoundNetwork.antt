-- Networks whose signals are determined.
use Rattle.std.specs.Prelude.{◌≡◌, ℕ, ◌≤◌, Bool, ⊤, List, [], ◌∷◌, ◌++◌, length, map, count_by, All, Contains, IsPermutation}
use Rattle.std.specs.Str.{bytes_eq}
use Rattle.net_core.specs.declared.Gate.{Gate}
use Rattle.net_core.specs.declared.Network.{Network}
use Rattle.net_core.specs.Step.{IsValuation}

-- the names that gates drive
abbrev pub driven_by : List Gate → List (List ℕ)
driven_by gates = map (λ gate. gate.output) gates

-- the names that are driven: inputs, latch outputs and gate outputs
abbrev pub drivers_of : Network → List (List ℕ)
drivers_of N = N.inputs ++ (map (λ latch. latch.output) N.latches ++ driven_by N.gates)

-- each input of a gate that gates drive is driven by an earlier gate
abbrev pub IsOrdered : List (List ℕ) → List (List ℕ) → List Gate → Type 0
IsOrdered driven earlier [] = ⊤
IsOrdered driven earlier (gate ∷ gates) =
    All (λ name. Contains driven name → Contains earlier name) gate.inputs × IsOrdered driven (gate.output ∷ earlier) gates

-- no name is driven twice, each name that is used is driven, and the gates can be put in an order
pub record Sound (N : Network) : Type 0 where
  pub driven_once : (name : List ℕ) → count_by (bytes_eq name) (drivers_of N) ≤ 1
  pub outputs : All (Contains (drivers_of N)) N.outputs
  pub latch_inputs : All (λ latch. Contains (drivers_of N) latch.input) N.latches
  pub gate_inputs : All (λ gate. All (Contains (drivers_of N)) gate.inputs) N.gates
  pub order : (gates : List Gate) × IsPermutation N.gates gates × IsOrdered (driven_by N.gates) [] gates

-- In a sound network there is a valuation for latch values and a symbol of the right lengths, and two of them agree on
-- the driven names.
pub record HasOneValuation (N : Network) (state symbol : List Bool) : Type 0 where
  pub some : (value : List ℕ → Bool) × IsValuation N state symbol value
  pub once : (value other : List ℕ → Bool) → IsValuation N state symbol value → IsValuation N state symbol other → (name : List ℕ) → Contains (drivers_of N) name → value name ≡ other name

abbrev pub SoundIsDetermined : Type 0
SoundIsDetermined =
    (N : Network) (state symbol : List Bool) → Sound N → length symbol ≡ length N.inputs → length state ≡ length N.latches → HasOneValuation N state symbol
