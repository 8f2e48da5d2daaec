-- Signals by their numbers, and gates that are evaluated on them.
use Rattle.std.specs.Prelude.{ℕ, ◌+◌, Bool, false, not, if◌then◌else◌, List, [], ◌∷◌, Option, Some, None, map, slice_get, slice_index_or, slice_set}
use Rattle.std.specs.List.{list_any}
use Rattle.net_core.specs.declared.gate_order.NumberedGate.{NumberedGate}
use Rattle.net_core.specs.Step.{row_holds}

-- the bits of the signals of these numbers
abbrev pub bits_at : List Bool → List ℕ → List Bool
bits_at signals numbers = map (λ s. slice_index_or signals s false) numbers

-- the value of a gate for the bits of its inputs
abbrev pub value_for : NumberedGate → List Bool → Bool
value_for gate bits = if list_any (λ row. row_holds row bits) gate.rows then gate.on else not gate.on

-- the value of a gate at the signals
abbrev pub value_at : List Bool → NumberedGate → Bool
value_at signals gate = value_for gate (bits_at signals gate.inputs.items)

-- the signals after the gate, if there is one, gave this signal its value
abbrev pub with_value : List Bool → ℕ → Option NumberedGate → List Bool
with_value signals s None = signals
with_value signals s (Some gate) = slice_set signals s (value_at signals gate)

-- the signals after the gates at these places were evaluated, one after another; the gates drive the signals from
-- `base` on
abbrev pub evaluated : ℕ → List NumberedGate → List ℕ → List Bool → List Bool
evaluated base gates [] signals = signals
evaluated base gates (place ∷ places) signals = evaluated base gates places (with_value signals (base + place) (slice_get gates place))
