-- What a BLIF text denotes (source: the SIS manual, narrowed to this product's profile).
use Rattle.std.specs.Prelude.{◌≡◌, ℕ, ◌≤◌, List, [], length, map, Contains}
use Rattle.std.specs.List.{filter_map, flat_map}
use Rattle.net_core.specs.declared.Network.{Network}
use Rattle.net_core.specs.Faults.{AreFaultless}
use Rattle.net_core.specs.Statements.{statements_of, said_in, inputs_in, outputs_in, latch_in, clocks_in, gates_of}

-- the bytes denote the network
pub record Denotes (bytes : List ℕ) (N : Network) : Type 0 where
  pub begun : 1 ≤ length (statements_of bytes)
  pub faultless : AreFaultless [] (statements_of bytes)
  -- no gate and no latch drives the clock
  pub clock_no_gate : (clock : List ℕ) → Contains (flat_map clocks_in (said_in bytes)) clock → Contains (map (λ gate. gate.output) N.gates) clock → ⊥
  pub clock_no_latch : (clock : List ℕ) → Contains (flat_map clocks_in (said_in bytes)) clock → Contains (map (λ latch. latch.output) N.latches) clock → ⊥
  -- the network is the record of the statements
  pub inputs : N.inputs ≡ flat_map inputs_in (said_in bytes)
  pub outputs : N.outputs ≡ flat_map outputs_in (said_in bytes)
  pub latches : N.latches ≡ filter_map latch_in (said_in bytes)
  pub gates : N.gates ≡ gates_of (said_in bytes)

-- a text denotes at most one network
abbrev pub DenotesOnce : Type 0
DenotesOnce = (bytes : List ℕ) (N M : Network) → Denotes bytes N → Denotes bytes M → N ≡ M
