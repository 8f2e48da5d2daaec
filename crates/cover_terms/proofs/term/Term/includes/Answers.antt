use Rattle.cover_terms.specs.Laws.Bits.{equal_from_test}
use Rattle.cover_terms.specs.Laws.Terms.{includes_from}
use Rattle.cover_terms.proofs.term.Term.includes.Goals as goal

pub returns-then-self-other-clause-includes : goal.returns-then-self-other-clause-includes
returns-then-self-other-clause-includes c = λ h. includes_from c.args.self c.args.other c.if-self-other.true (equal_from_test _ _ h)
