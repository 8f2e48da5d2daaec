-- Gates that get their values one after another.
use Rattle.std.proofs.Common.{◌≡◌, ℕ, suc, ◌+◌, ◌<◌, Bool, List, Some, length, get_or, slice_get, drop, set, ap, add-one}
use Rattle.std.proofs.Math.Seq.{drop-cons}
use Rattle.net_core.specs.declared.gate_order.NumberedGate.{NumberedGate}
use Rattle.net_sim.specs.Inner.GateValues.{evaluated, value_at, with_value}

-- the next gate in turn
pub evaluated_next :
    (base : ℕ) (gates : List NumberedGate) (places : List ℕ) (i : ℕ) (signals : List Bool) (gate : NumberedGate) →
    i < length places → slice_get gates (get_or places i 0) ≡ Some gate →
    evaluated base gates (drop i places) signals ≡ evaluated base gates (drop (i + 1) places) (set signals (base + get_or places i 0) (value_at signals gate))
evaluated_next base gates places i signals gate lt is =
    rw (add-one i, drop-cons places i 0 lt)
    (ap (λ g. evaluated base gates (drop (suc i) places) (with_value signals (base + get_or places i 0) g)) is)
