use Rattle.std.proofs.Common.{take}
use Rattle.std.specs.List.{All}
use Rattle.cover_terms.specs.Pair.{Includes}
use Rattle.cover_logic.proofs.index.hull.Given as goal

abbrev pub invariant-loop-term : goal.invariant-loop-term
invariant-loop-term l = All (Includes l.hull) (take l.term-index l.terms)
