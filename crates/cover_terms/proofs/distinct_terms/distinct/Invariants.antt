use Rattle.std.proofs.Common.{take}
use Rattle.cover_terms.specs.Lists.{HasSameValues}
use Rattle.cover_terms.proofs.distinct_terms.distinct.Given as goal

abbrev pub invariant-loop-term : goal.invariant-loop-term
invariant-loop-term l = HasSameValues (take l.term-index l.term-items) l.once.items
