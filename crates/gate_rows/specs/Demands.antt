-- What is asked of a gate, at the symbols of cubes and at words.
use Rattle.std.specs.Prelude.{◌≡◌, ℕ, ◌<◌, ◌≤◌, All, Bool, true, false, Contains, List}
use Rattle.std.specs.List.Sorted.{IsStrictlyIncreasing}
use Rattle.cubes.specs.declared.cube.Cube.{Cube}
use Rattle.gate_rows.specs.declared.demands.Demand.{Demand}
use Rattle.gate_rows.specs.Columns.{IsReadIn, column_count}

-- the demand for a bit at the symbols of a cube and a word
abbrev pub demand_at : Cube → ℕ → Bool → Demand
demand_at cube word given = record { cube = cube; word = word; given = given }

-- some demand asks for this bit where these values are read
pub record IsAsked (inputs places : List ℕ) (given : Bool) (demands : List Demand) (read : List Bool) : Type 0 where
  pub at : Demand
  pub among : Contains demands at
  pub gives : at.given ≡ given
  pub is_read : IsReadIn inputs places at.cube at.word read

-- each cube has the inputs that are read, and a word has the places
pub record CanBeRead (inputs places : List ℕ) (demands : List Demand) : Type 0 where
  pub inputs_within : All (λ (at : Demand). All (λ a. a < at.cube.width) inputs) demands
  pub inputs_ascend : IsStrictlyIncreasing inputs
  pub places_within : All (λ c. c < 64) places
  pub width : column_count inputs places ≤ 128

-- both bits are asked for nowhere
abbrev pub NeverContradict : List ℕ → List ℕ → List Demand → Type 0
NeverContradict inputs places demands = (read : List Bool) → IsAsked inputs places true demands read → IsAsked inputs places false demands read → ⊥
