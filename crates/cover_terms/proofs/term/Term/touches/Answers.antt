use Rattle.cover_terms.specs.Laws.Terms.{agree_says}
use Rattle.cover_terms.proofs.term.Term.touches.Goals as goal

pub returns-clause-shared : goal.returns-clause-shared
returns-clause-shared c = agree_says c.args.self c.args.other
