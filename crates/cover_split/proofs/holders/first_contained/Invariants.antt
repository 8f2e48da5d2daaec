use Rattle.std.proofs.Common.{ℕ, ◌<◌}
use Rattle.cover_split.specs.StateCover.{IsWithin}
use Rattle.cover_split.proofs.holders.first_contained.Given as goal

abbrev pub invariant-loop-a : goal.invariant-loop-a
invariant-loop-a l = (c d : ℕ) → c < l.a → IsWithin l.blocks c d → ⊥
