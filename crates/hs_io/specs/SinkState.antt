-- The state of a sink in memory.
use Rattle.std.specs.Prelude.{◌≡◌, ℕ, ◌+◌, ◌-◌, ◌<◌, List, Option, Some, length, min, ◌⊎◌}
use Rattle.hs_io.specs.Counts.{next_count}

-- the bytes given, the room in bytes, the number of puts so far, the put that is to fail with the number of bytes
-- that it takes, and the count of faults
pub record SinkState : Type 0 where
  pub given : List ℕ
  pub room : ℕ
  pub puts : ℕ
  pub failing : Option (ℕ × ℕ)
  pub faults : ℕ

-- the next put is the one that was kept to fail
abbrev pub IsKept : SinkState → Type 0
IsKept sink = (take : ℕ) × (sink.failing ≡ Some (next_count sink.puts, take))

-- the piece does not fit into the room
abbrev pub IsPastRoom : SinkState → List ℕ → Type 0
IsPastRoom sink piece = sink.room < length sink.given + length piece

-- the next put, which is of this piece, is to fail
abbrev pub FailsNext : SinkState → List ℕ → Type 0
FailsNext sink piece = IsKept sink ⊎ IsPastRoom sink piece

-- the number of bytes of a piece that there is room for
abbrev pub fitting : SinkState → List ℕ → ℕ
fitting sink piece = min (length piece) (sink.room - length sink.given)
