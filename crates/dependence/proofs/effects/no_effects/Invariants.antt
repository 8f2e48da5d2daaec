use Rattle.std.proofs.Common.{◌≡◌, replicate}
use Rattle.dependence.proofs.effects.no_effects.Given as goal

abbrev pub invariant-loop : goal.invariant-loop
invariant-loop l = l.effects.items ≡ replicate l.counter (record { latches = 0; outputs = 0 })
