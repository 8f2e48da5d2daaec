use Rattle.std.proofs.Common.{◌↔◌, ℕ, ◌<◌}
use Rattle.dependence.specs.SufficientBits.{InWord}
use Rattle.dependence.specs.Effects.{ActsBy}
use Rattle.dependence.proofs.effects.inputs_of.Given as goal

abbrev pub invariant-loop-a : goal.invariant-loop-a
invariant-loop-a l = (d : ℕ) → InWord l.inputs d ↔ (d < l.a × ActsBy l.effects d l.gate)
