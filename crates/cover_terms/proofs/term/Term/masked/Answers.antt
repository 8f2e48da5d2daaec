use Rattle.cover_terms.specs.Laws.Bits.{and_inside}
use Rattle.cover_terms.proofs.term.Term.masked.Goals as goal

pub invariant_of-result : goal.invariant_of-result
invariant_of-result c = record { inside = and_inside c.args.value c.args.care }
