-- The terms of the demands so far.
use Rattle.std.proofs.Common.{take}
use Rattle.gate_rows.specs.Inner.Terms.{HoldWhatIsRead}
use Rattle.gate_rows.proofs.demands.terms.Given as goal

abbrev pub invariant-loop-demand : goal.invariant-loop-demand
invariant-loop-demand l = HoldWhatIsRead l.inputs l.places l.given (take l.demand-index l.demands) l.terms.items
