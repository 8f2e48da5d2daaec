use Rattle.cover_logic.proofs.Literals.{IsAgainstFirst}
use Rattle.cover_logic.proofs.bundles.Bundle.against.Given as goal

abbrev pub invariant-loop-literal : goal.invariant-loop-literal
invariant-loop-literal l = IsAgainstFirst l.literals l.literal-index l.self.entries.items l.against
