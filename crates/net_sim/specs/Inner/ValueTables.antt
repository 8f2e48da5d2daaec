-- Values at all numbers of some bits, by the characters that cubes have at the lowest places.
use Rattle.std.specs.Prelude.{◌≡◌, ℕ, ◌^◌, ◌<◌, Bool, false, not, if◌then◌else◌, List, ◌++◌, length, slice_index_or}
use Rattle.std.specs.List.{list_any}
use Rattle.cubes.specs.declared.cube.Cube.{Cube}
use Rattle.cubes.specs.Field.{allows, character, characters, characters_hold}
use Rattle.cubes.specs.Symbol.{symbol_of}

-- the character at the place allows the bit
abbrev pub allows_at : ℕ → Bool → Cube → Bool
allows_at place one cube = allows (character cube.care cube.value place) one

-- the characters at the lowest places hold the lowest bits of the number
abbrev pub holds_low : ℕ → ℕ → Cube → Bool
holds_low places number cube = characters_hold (characters places cube.care cube.value) (symbol_of places number)

-- the value at the number of a gate whose rows are these characters of the cubes
abbrev pub low_value : Bool → List Cube → ℕ → ℕ → Bool
low_value on cubes places number = if list_any (holds_low places number) cubes then on else not on

-- the values at all numbers of this many bits
pub record AreLowValues (on : Bool) (cubes : List Cube) (places : ℕ) (values : List Bool) : Type 0 where
  pub whole : length values ≡ 2 ^ places
  pub each : (k : ℕ) → k < 2 ^ places → slice_index_or values k false ≡ low_value on cubes places k

-- they were added at the end of the table
abbrev pub HasAdded : Bool → List Cube → ℕ → List Bool → List Bool → Type 0
HasAdded on cubes places old new = (values : List Bool) × (new ≡ old ++ values) × AreLowValues on cubes places values
