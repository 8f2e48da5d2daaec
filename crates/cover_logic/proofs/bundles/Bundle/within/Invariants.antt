use Rattle.cover_logic.proofs.Literals.{IsWithinFirst}
use Rattle.cover_logic.proofs.bundles.Bundle.within.Given as goal

abbrev pub invariant-loop-literal : goal.invariant-loop-literal
invariant-loop-literal l = IsWithinFirst l.literals l.literal-index l.self.entries.items l.places l.within
