use Rattle.std.proofs.Common.{take}
use Rattle.std.specs.List.{All}
use Rattle.cover_terms.specs.Term.{FitsWidth}
use Rattle.cover_logic.proofs.all_fit.Given as goal

abbrev pub invariant-loop-term : goal.invariant-loop-term
invariant-loop-term l = All (FitsWidth l.width) (take l.term-index l.terms)
