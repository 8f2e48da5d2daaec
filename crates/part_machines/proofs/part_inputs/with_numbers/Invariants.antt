use Rattle.std.proofs.Common.{◌↔◌, ◌⊎◌, ℕ, Contains, take}
use Rattle.dependence.specs.SufficientBits.{InWord}
use Rattle.part_machines.proofs.part_inputs.with_numbers.Given as goal

abbrev pub invariant-loop-number : goal.invariant-loop-number
invariant-loop-number l = (d : ℕ) → InWord l.all d ↔ (InWord l.word d ⊎ Contains (take l.number-index l.numbers) d)
