use Rattle.std.proofs.Common.{◌↔◌, ℕ, take}
use Rattle.dependence.specs.Inner.Differences.{DifferInPair}
use Rattle.dependence.specs.SufficientBits.{InWord}
use Rattle.dependence.proofs.differences.bits_apart.Given as goal

abbrev pub invariant-loop-u : goal.invariant-loop-u
invariant-loop-u l = (i : ℕ) → InWord l.apart i ↔ DifferInPair l.words (take l.u-index l.pairs) i
