-- The names of signals, by their numbers, and a network with these names.
use Rattle.std.specs.Prelude.{◌≡◌, ℕ, List, [], map, slice_index_or}
use Rattle.net_core.specs.declared.Network.{Network}
use Rattle.net_core.specs.declared.SignalNames.{SignalNames}

-- the name with the number i
abbrev pub name_at : List (List ℕ) → ℕ → List ℕ
name_at names i = slice_index_or names i []

-- the signals of the network have these names
pub record HasNames (N : Network) (names : SignalNames) : Type 0 where
  pub inputs : N.inputs ≡ names.inputs
  pub outputs : N.outputs ≡ names.outputs
  pub latch_inputs : map (λ latch. latch.input) N.latches ≡ names.latch_inputs
  pub latch_outputs : map (λ latch. latch.output) N.latches ≡ names.latch_outputs
