use Rattle.state_pairs.proofs.MarkedRows.{IsSearchedOver}
use Rattle.state_pairs.proofs.rows.RowsByState.first_apart_from.Given as goal

abbrev pub invariant-loop-bundle : goal.invariant-loop-bundle
invariant-loop-bundle g l = IsSearchedOver (g.Q.Question.said l.search.question.now) l.self l.search.t l.bundle-items l.bundle-index l.row l.search.least l.found
