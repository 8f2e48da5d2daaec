-- The first symbol that no cube of a list holds.
use Rattle.std.specs.Prelude.{ℕ, ◌<◌, ◌^◌, List, Any}
use Rattle.cubes.specs.declared.cube.Cube.{Cube}
use Rattle.cubes.specs.Cube.{HoldsNumber}

-- some cube of the list holds the symbol of this number
abbrev pub IsHeld : List Cube → ℕ → Type 0
IsHeld list number = Any (λ c. HoldsNumber c number) list

-- each number below the limit has the property
abbrev pub HoldsOfEach : (ℕ → Type 0) → ℕ → Type 0
HoldsOfEach P limit = (number : ℕ) → number < limit → P number

-- the least number below the limit without the property
pub record IsLeastWithout (P : ℕ → Type 0) (limit number : ℕ) : Type 0 where
  pub within : number < limit
  pub without : ¬ P number
  pub least : HoldsOfEach P number

-- each symbol of this width is held by some cube of the list
abbrev pub HoldsEach : List Cube → ℕ → Type 0
HoldsEach list width = HoldsOfEach (IsHeld list) (2 ^ width)

-- the least symbol of this width that no cube of the list holds
abbrev pub IsFirstGap : List Cube → ℕ → ℕ → Type 0
IsFirstGap list width number = IsLeastWithout (IsHeld list) (2 ^ width) number
