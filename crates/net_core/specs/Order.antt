-- The gates of a network in an order of evaluation, with numbers for signals.
use Rattle.std.specs.Prelude.{◌≡◌, ℕ, Some, List, [], length, map, slice_get, IsPermutation}
use Rattle.std.specs.List.{AllZip}
use Rattle.net_core.specs.declared.Gate.{Gate}
use Rattle.net_core.specs.declared.Network.{Network}
use Rattle.net_core.specs.declared.gate_order.NumberedGate.{NumberedGate}
use Rattle.net_core.specs.declared.gate_order.Order.{Order}
use Rattle.net_core.specs.SoundNetwork.{IsOrdered, driven_by, drivers_of}

-- the items are those at these places of the list
abbrev pub AreAt : {X : Type 0} → List X → List ℕ → List X → Type 0
AreAt list places items = AllZip (λ place item. slice_get list place ≡ Some item) places items

-- the same gate, with the numbers of its inputs, which are places among the drivers
pub record IsNumbered (drivers : List (List ℕ)) (gate : Gate) (numbered : NumberedGate) : Type 0 where
  pub inputs : AreAt drivers numbered.inputs.items gate.inputs
  pub rows : numbered.rows ≡ gate.rows
  pub on : numbered.on ≡ gate.on

-- Signals are numbered in the order inputs, latch outputs, gate outputs. The sequence puts the gates in an order in which
-- each input that gates drive is driven by an earlier gate.
pub record IsOrderOf (N : Network) (order : Order) : Type 0 where
  pub inputs : order.input_count ≡ length N.inputs
  pub latches : order.latch_count ≡ length N.latches
  pub outputs : AreAt (drivers_of N) order.output_signals.items N.outputs
  pub latch_inputs : AreAt (drivers_of N) order.latch_signals.items (map (λ latch. latch.input) N.latches)
  pub gates : AllZip (IsNumbered (drivers_of N)) N.gates order.gates.items
  pub sequence : (gates : List Gate) × AreAt N.gates order.sequence.items gates × IsPermutation N.gates gates × IsOrdered (driven_by N.gates) [] gates
