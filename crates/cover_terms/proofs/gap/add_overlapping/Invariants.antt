use Rattle.std.proofs.Common.{◌≡◌, ◌++◌, take}
use Rattle.std.specs.List.{filter}
use Rattle.cover_terms.specs.Pair.{agree}
use Rattle.cover_terms.proofs.gap.add_overlapping.Given as goal

abbrev pub invariant-loop-term : goal.invariant-loop-term
invariant-loop-term l = l.near.items ≡ l.fn.near.items ++ filter (agree l.part) (take l.term-index l.terms)
