use Rattle.std.proofs.Common.{ℕ, ◌<◌}
use Rattle.state_pairs.specs.Pairs.{AgreeInBit, AtEachSymbol}
use Rattle.machine_table.proofs.machine.Machine.outputs_agree.Given as goal

abbrev pub invariant-loop-b : goal.invariant-loop-b
invariant-loop-b l = (k : ℕ) → k < l.b → AtEachSymbol l.self.inputs (AgreeInBit k l.self l.s l.t)
