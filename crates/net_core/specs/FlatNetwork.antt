-- Networks without helper gates: each gate reads inputs and latch outputs alone.
use Rattle.std.specs.Prelude.{ℕ, ◌≡◌, ◌≤◌, Bool, List, ◌++◌, All, Contains, count_by, length, map}
use Rattle.std.specs.Str.{bytes_eq}
use Rattle.net_core.specs.declared.Network.{Network}
use Rattle.net_core.specs.SoundNetwork.{Sound, driven_by, drivers_of}
use Rattle.net_core.specs.Step.{Gives, IsValuation, Step}

-- the names whose bits a symbol and the latch values give
abbrev pub base_of : Network → List (List ℕ)
base_of N = N.inputs ++ map (λ latch. latch.output) N.latches

-- no name is driven twice, each gate reads only the base, and each output and each latch input is the output of a gate
pub record IsFlat (N : Network) : Type 0 where
  pub driven_once : (name : List ℕ) → count_by (bytes_eq name) (drivers_of N) ≤ 1
  pub reads : All (λ gate. All (Contains (base_of N)) gate.inputs) N.gates
  pub outputs : All (Contains (driven_by N.gates)) N.outputs
  pub latch_inputs : All (λ latch. Contains (driven_by N.gates) latch.input) N.latches

-- a flat network is sound: its gates can be evaluated in any order
abbrev pub FlatIsSound : Type 0
FlatIsSound = (N : Network) → IsFlat N → Sound N

-- in a sound network what every valuation gives is a step, since a valuation exists
abbrev pub GivenIsAStep : Type 0
GivenIsAStep =
    (N : Network) (state symbol answer next : List Bool) → Sound N → length symbol ≡ length N.inputs → length state ≡ length N.latches
    → ((value : List ℕ → Bool) → IsValuation N state symbol value → Gives N value answer next) → Step N state symbol answer next
