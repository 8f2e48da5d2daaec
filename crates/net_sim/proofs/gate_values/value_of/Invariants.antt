use Rattle.std.proofs.Common.{◌≡◌, drop}
use Rattle.std.specs.List.{list_any}
use Rattle.net_core.specs.Step.{row_holds}
use Rattle.net_sim.specs.Inner.GateValues.{bits_at}
use Rattle.net_sim.proofs.gate_values.value_of.Given as goal

abbrev pub invariant-loop-row : goal.invariant-loop-row
invariant-loop-row l =
    list_any (λ row. row_holds row (bits_at l.signals l.numbers)) l.gate.rows
    ≡ list_any (λ row. row_holds row (bits_at l.signals l.numbers)) (drop l.row-index l.row-items)
