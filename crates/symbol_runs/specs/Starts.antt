-- Networks that have latch values to start with.
use Rattle.std.specs.Prelude.{ℕ, Bool, List, Option}
use Rattle.net_core.specs.declared.Network.{Network}
use Rattle.net_sim.specs.Starts.{IsStart}

-- a network has latch values to start with: those of the given text, or else its own
abbrev pub HasStart : Network → Option (List ℕ) → Type 0
HasStart N start = (state : List Bool) × IsStart N start state
