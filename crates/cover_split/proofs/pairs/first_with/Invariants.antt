use Rattle.std.proofs.Common.{ℕ, ◌<◌}
use Rattle.cover_split.specs.StateCover.{Has}
use Rattle.cover_split.proofs.pairs.first_with.Given as goal

abbrev pub invariant-loop-j : goal.invariant-loop-j
invariant-loop-j l = (k : ℕ) → k < l.j → Has l.blocks k l.s → ⊥
