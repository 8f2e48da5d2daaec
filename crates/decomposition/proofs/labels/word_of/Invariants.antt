-- The bits so far.
use Rattle.std.proofs.Common.{ℕ, ◌↔◌, Contains, take}
use Rattle.dependence.specs.SufficientBits.{InWord}
use Rattle.decomposition.proofs.labels.word_of.Given as goal

abbrev pub invariant-loop-c : goal.invariant-loop-c
invariant-loop-c l = (c : ℕ) → InWord l.set c ↔ Contains (take l.c-index l.bits) c
