use Rattle.std.proofs.Common.{◌≡◌, drop}
use Rattle.net_core.specs.Step.{row_holds}
use Rattle.net_sim.specs.Inner.GateValues.{bits_at}
use Rattle.net_sim.proofs.gate_values.holds.Given as goal

abbrev pub invariant-loop-place : goal.invariant-loop-place
invariant-loop-place l = row_holds l.row (bits_at l.signals l.numbers) ≡ row_holds (drop l.place l.row) (bits_at l.signals (drop l.place l.numbers))
