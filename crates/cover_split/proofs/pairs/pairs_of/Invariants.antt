use Rattle.std.proofs.Common.{◌≡◌, take}
use Rattle.cover_split.specs.Expansion.{pairs_of}
use Rattle.cover_split.proofs.pairs.pairs_of.Given as goal

abbrev pub invariant-loop-j : goal.invariant-loop-j
invariant-loop-j l = l.pairs.items ≡ pairs_of (take l.j l.blocks)
