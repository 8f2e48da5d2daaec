-- No state so far is alike.
use Rattle.std.proofs.Common.{ℕ, ◌<◌}
use Rattle.shift_real.specs.Inner.Tables.{AreAlike}
use Rattle.shift_real.proofs.tables.first_for.Given as goal

abbrev pub invariant-loop-t : goal.invariant-loop-t
invariant-loop-t l = (u : ℕ) → u < l.t → AreAlike l.m l.b u l.s → ⊥
