-- Codes as lists of bits.
use Rattle.std.specs.Prelude.{ℕ, Bool, List, slice_index}
use Rattle.cubes.specs.Symbol.{lowest_bits}

-- the code of a state
abbrev pub code_of : ℕ → List ℕ → ℕ → List Bool
code_of count words s = lowest_bits count (slice_index words s)
