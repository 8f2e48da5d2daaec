-- The words of a seed (source: O'Neill, the generator PCG with 64 bits of state and words of 32).
use Rattle.std.specs.Prelude.{ℕ}
use Rattle.rand_pcg.specs.Lcg.{Lcg, advance, increment_of, started}
use Rattle.rand_pcg.specs.Pcg.{multiplier_64, pcg32}

-- the generator of a seed, on stream 54
abbrev pub generator_of : ℕ → Lcg
generator_of seed = started 64 multiplier_64 seed (increment_of 64 54)

-- the word with the given number, counted from 0: what the generator gives after that number of steps
unfoldable pub word : ℕ → ℕ → ℕ
word seed number = (pcg32 (advance 64 multiplier_64 number (generator_of seed))).0
